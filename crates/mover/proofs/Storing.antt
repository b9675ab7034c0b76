-- A row that is one element, stored byte by byte by the plain engine. Assumes nothing.
use Rattle.std.proofs.Common.{◌≡◌, ℕ, zero, suc, ◌+◌, ◌*◌, ◌/◌, ◌%◌, ◌^◌, ◌<◌, ◌≤◌, Some, None, List, length, get_or, take, drop, set, sym, refl, ap, ◌∙◌, inl, inr, ⊎_elim, le_of_suc-le-suc, not-suc-le-zero, zero-add, div-one, arith, length-drop, length-take-le, get_or-drop, take_all, get_or-take, pow-add}
use Rattle.std.specs.Prelude.{Option, IfSome, option_map, unwrap_or}
use native.Mathlib.Nat.{div-div-eq-div-mul}
use lib.Seq.{sets}
use Rattle.plane.specs.Numbers.{little}
use Rattle.plane.proofs.Numbers.{length_little}
use Rattle.mover.specs.declared.elements.Origin.{Origin}
use Rattle.mover.specs.declared.elements.Origin.TheVariants.{Lent, Inside}
use Rattle.mover.specs.declared.plain.Row.{Row}
use Rattle.mover.specs.Private.Elements.{source_bytes}
use Rattle.mover.specs.Private.Runs.{BytesApart}
use Rattle.mover.specs.Private.Rows.{size_of, row_bytes, row_byte, Storable}
use Rattle.mover.proofs.Bytes.{get_d_sets_out, copy_more, length_take_most}

-- byte b of the low bytes of a number
pub little_at : (w n b : ℕ) → b < w → get_or (little w n) b 0 ≡ n / 2 ^ (8 * b) % 256
unfolding little
little_at zero n b h = absurd (not-suc-le-zero h)
little_at (suc w) n zero h = rw div-one
little_at (suc w) n (suc b) h =
    let e : 8 * suc b ≡ 8 + 8 * b = omega arith in
    little_at w (n / 256) b (le_of_suc-le-suc h) ∙ rw (e, pow-add 2 8 (8 * b), div-div-eq-div-mul)

-- what is stored apart from the source leaves its bytes as they were
apart_seen : (o : Origin) (vs d : List ℕ) (from to n b : ℕ) → length vs ≤ b → b < n → BytesApart o from (from + n) to (to + n)
    → get_or (source_bytes o (sets d to vs)) (from + b) 0 ≡ get_or (source_bytes o d) (from + b) 0
apart_seen (Lent _) vs d from to n b h l a = refl
apart_seen Inside vs d from to n b h l a =
    get_d_sets_out vs d to (from + b) (⊎_elim (λ u. inl (omega arith)) (λ v. inr (omega arith)) a)

module _ (w : Row) (d : List ℕ) (g : Storable w d) where
  bytes_long : length (row_bytes w d) ≡ size_of w
  bytes_long = by_cases w.at g.source
    where
      by_cases : (o : Option ℕ) → IfSome o (λ a. a + size_of w ≤ length (source_bytes w.origin d))
          → length (unwrap_or (option_map (λ a. take (size_of w) (drop a (source_bytes w.origin d))) o) (little (size_of w) w.config.fill)) ≡ size_of w
      by_cases (Some a) h = length-take-le (size_of w) (drop a (source_bytes w.origin d)) (rw length-drop (omega (arith, h)))
      by_cases None h = length_little (size_of w) w.config.fill

  -- the destination with the first b bytes of the element stored
  abbrev stored : ℕ → List ℕ
  stored b = sets d w.place (take b (row_bytes w d))

  -- byte b, read from the destination as it is then: a byte of the source is as it was
  pub byte_next : (b : ℕ) {v : ℕ} → b < size_of w
      → v ≡ row_byte w (stored b) b
      → set (stored b) (w.place + b) v ≡ stored (b + 1)
  byte_next b {v} l e =
      let vs = row_bytes w d in
      let h : b < length vs = rw bytes_long l in
      rw (e ∙ picked w.at g.apart) (rw (zero-add b) at (copy_more d vs 0 w.place b (rw zero-add h)))
    where
      picked : (o : Option ℕ) → IfSome o (λ a. BytesApart w.origin a (a + size_of w) w.place (w.place + size_of w))
          → unwrap_or (option_map (λ a. get_or (source_bytes w.origin (stored b)) (a + b) 0) o) (w.config.fill / 2 ^ (8 * b) % 256)
          ≡ get_or (unwrap_or (option_map (λ a. take (size_of w) (drop a (source_bytes w.origin d))) o) (little (size_of w) w.config.fill)) b 0
      picked (Some a) f =
          apart_seen w.origin (take b (row_bytes w d)) d a w.place (size_of w) b (length_take_most b (row_bytes w d)) l f ∙
          sym (get_or-take (size_of w) (drop a (source_bytes w.origin d)) b 0 l ∙ get_or-drop a (source_bytes w.origin d) b 0)
      picked None f = sym (little_at (size_of w) w.config.fill b l)

  pub stored_all : stored (size_of w) ≡ sets d w.place (row_bytes w d)
  stored_all =
      ap (λ (vs : List ℕ). sets d w.place vs)
      (take_all (size_of w) (row_bytes w d) (omega (arith, bytes_long)))
