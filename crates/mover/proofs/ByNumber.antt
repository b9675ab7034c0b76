-- Laws of `moved_by`: elements by their numbers, joined, and the bytes that none holds. Assumes nothing.
use Rattle.std.proofs.Common.{◌≡◌, ℕ, zero, suc, ◌+◌, ◌*◌, ◌/◌, ◌<◌, ◌≤◌, ◌⊎◌, List, length, get_or, drop, refl, ◌∙◌, inl, inr, ⊎_elim, add-zero, add_assoc, add-suc, mod-lt, div-lt_iff_lt-mul, div-add-mod', arith}
use lib.Arith.{digits_lt, digits_div, digits_mod}
use lib.Seq.{length-sets}
use Rattle.mover.specs.declared.plan.Plan.{Plan}
use Rattle.mover.specs.declared.elements.Origin.{Origin}
use Rattle.mover.specs.declared.elements.Origin.TheVariants.{Lent, Inside}
use Rattle.mover.specs.Private.Elements.{source_bytes, plan_kept, place_of, home_of, padding, plan_bytes, put_at, co0, co1, co2, co3, put_number, plan_total, moved_by}
use Rattle.mover.specs.Private.Ready.{place_end, GoodAxes, Ready, InExtents}
use Rattle.mover.proofs.Bytes.{get_d_sets_out, length_take_most, length_cond, pick_same, bytes_same}
use Rattle.mover.proofs.Places.{place_least, place_most, axis_some}

-- ---- moved_by

module _ (p : Plan) (s : List ℕ) where
  length_put : (q : ℕ) (d : List ℕ) → length (put_number p s q d) ≡ length d
  unfolding put_number put_at
  length_put q d = simp length-sets

  pub length_moved : (from n : ℕ) (d : List ℕ) → length (moved_by p s from n d) ≡ length d
  unfolding moved_by
  length_moved from zero d = refl
  length_moved from (suc n) d = length_put (from + n) (moved_by p s from n d) ∙ length_moved from n d

  -- a + b elements: a, and then b
  pub moved_add : (from a b : ℕ) (d : List ℕ) → moved_by p s from (a + b) d ≡ moved_by p s (from + a) b (moved_by p s from a d)
  unfolding moved_by
  moved_add from a zero d = rw add-zero
  moved_add from a (suc b) d = rw (add-suc, moved_add from a b d, add_assoc)

-- ---- numbers and coordinates

-- the number of the element at the coordinates
abbrev pub number_of : Plan → ℕ → ℕ → ℕ → ℕ → ℕ
number_of p c0 c1 c2 c3 = ((c0 * p.d1.extent + c1) * p.d2.extent + c2) * p.d3.extent + c3

-- the coordinates of an element's number are those it was made from
pub record Coords (p : Plan) (q c0 c1 c2 c3 : ℕ) : Type 0 where
  pub at0 : co0 p q ≡ c0
  pub at1 : co1 p q ≡ c1
  pub at2 : co2 p q ≡ c2
  pub at3 : co3 p q ≡ c3

module _ (p : Plan) where
  pub coords : {q c0 c1 c2 c3 : ℕ} → number_of p c0 c1 c2 c3 ≡ q → InExtents p c0 c1 c2 c3 → Coords p q c0 c1 c2 c3
  coords {q} {c0} {c1} {c2} {c3} e w =
      let q3 = (c0 * p.d1.extent + c1) * p.d2.extent + c2 in
      let q2 = c0 * p.d1.extent + c1 in
      record {
        at0 = rw (← e, digits_div q3 w.in3, digits_div q2 w.in2, digits_div c0 w.in1);
        at1 = rw (← e, digits_div q3 w.in3, digits_div q2 w.in2, digits_mod c0 w.in1);
        at2 = rw (← e, digits_div q3 w.in3, digits_mod q2 w.in2);
        at3 = rw (← e, digits_mod q3 w.in3);
      }

  pub put_number_lem : (s d : List ℕ) {q c0 c1 c2 c3 : ℕ} → number_of p c0 c1 c2 c3 ≡ q → InExtents p c0 c1 c2 c3
      → put_number p s q d ≡ put_at p s c0 c1 c2 c3 d
  unfolding put_number
  put_number_lem s d e w = let c = coords e w in rw (c.at0, c.at1, c.at2, c.at3)

  pub number_lt : {c0 c1 c2 c3 : ℕ} → InExtents p c0 c1 c2 c3 → number_of p c0 c1 c2 c3 < plan_total p
  unfolding plan_total
  number_lt w = digits_lt (digits_lt (digits_lt w.in0 w.in1) w.in2) w.in3

-- the coordinates of number q: they make q again, and the last three are below their extents
pub record Spread (p : Plan) (q : ℕ) : Type 0 where
  pub back : number_of p (co0 p q) (co1 p q) (co2 p q) (co3 p q) ≡ q
  pub in1 : co1 p q < p.d1.extent
  pub in2 : co2 p q < p.d2.extent
  pub in3 : co3 p q < p.d3.extent

module _ (p : Plan) (h1 : 0 < p.d1.extent) (h2 : 0 < p.d2.extent) (h3 : 0 < p.d3.extent) where
  pub spread : (q : ℕ) → Spread p q
  spread q =
      record {
        back = rw (div-add-mod' (q / p.d3.extent / p.d2.extent), div-add-mod' (q / p.d3.extent), div-add-mod' q);
        in1 = mod-lt (q / p.d3.extent / p.d2.extent) h1;
        in2 = mod-lt (q / p.d3.extent) h2;
        in3 = mod-lt q h3;
      }

  pub spread_within : (q : ℕ) → q < plan_total p
      → InExtents p (co0 p q) (co1 p q) (co2 p q) (co3 p q)
  unfolding plan_total
  spread_within q h =
      let s = spread q in
      record {
        in0 = (div-lt_iff_lt-mul h1).1 ((div-lt_iff_lt-mul h2).1 ((div-lt_iff_lt-mul h3).1 h));
        in1 = s.in1;
        in2 = s.in2;
        in3 = s.in3;
      }

module _ (p : Plan) (g : GoodAxes p) where
  pub spread_good : (q : ℕ) → Spread p q
  spread_good = spread p (axis_some g.in1) (axis_some g.in2) (axis_some g.in3)

  pub within_good : (q : ℕ) → q < plan_total p → InExtents p (co0 p q) (co1 p q) (co2 p q) (co3 p q)
  within_good = spread_within p (axis_some g.in1) (axis_some g.in2) (axis_some g.in3)

-- ---- bytes that no element holds

module _ (p : Plan) (s : List ℕ) where
  pub length_bytes : (c0 c1 c2 c3 : ℕ) → length (plan_bytes p s c0 c1 c2 c3) ≤ p.size
  unfolding plan_bytes
  length_bytes c0 c1 c2 c3 = length_cond (plan_kept p c0 c1 c2 c3) p.size (drop (home_of p c0 c1 c2 c3) s) _ (length_take_most p.size _)

  put_out : {c0 c1 c2 c3 : ℕ} (d : List ℕ) (k : ℕ) → InExtents p c0 c1 c2 c3 → (k < p.base) ⊎ (place_end p ≤ k)
      → get_or (put_at p s c0 c1 c2 c3 d) k 0 ≡ get_or d k 0
  unfolding put_at
  put_out {c0} {c1} {c2} {c3} d k w h =
      let a = place_least p c0 c1 c2 c3 in
      let b = place_most p c0 c1 c2 c3 w in
      let l = length_bytes c0 c1 c2 c3 in
      get_d_sets_out (plan_bytes p s c0 c1 c2 c3) d (place_of p c0 c1 c2 c3) k
      (⊎_elim (λ u. inl (omega arith)) (λ v. inr (omega arith)) h)

  moved_out : GoodAxes p → (from n : ℕ) (d : List ℕ) (k : ℕ) → from + n ≤ plan_total p → (k < p.base) ⊎ (place_end p ≤ k)
      → get_or (moved_by p s from n d) k 0 ≡ get_or d k 0
  unfolding moved_by put_number
  moved_out g from zero d k m h = refl
  moved_out g from (suc n) d k m h =
      put_out (moved_by p s from n d) k (within_good p g (from + n) (omega arith)) h
      ∙ moved_out g from n d k (omega arith) h

-- while elements are written, the source's are as they were
pub source_same : (o : Origin) (p : Plan) (d : List ℕ) (from n c0 c1 c2 c3 : ℕ) → Ready o p d → from + n ≤ plan_total p
    → plan_bytes p (source_bytes o (moved_by p (source_bytes o d) from n d)) c0 c1 c2 c3 ≡ plan_bytes p (source_bytes o d) c0 c1 c2 c3
unfolding plan_bytes
source_same (Lent s) p d from n c0 c1 c2 c3 r m = refl
source_same Inside p d from n c0 c1 c2 c3 r m =
    pick_same (plan_kept p c0 c1 c2 c3) (padding p.size p.pad)
    (λ t.
    bytes_same (moved_by p d from n d) d (home_of p c0 c1 c2 c3) p.size (length_moved p d from n d)
    (λ k u v.
    moved_out p d r.axes from n d k m
    (⊎_elim (λ x. inl (omega arith)) (λ y. inr (omega arith)) (r.apart c0 c1 c2 c3 t))))
