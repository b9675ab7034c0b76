-- A plan as the code makes it is the plan of the move: bounds of its numbers, what acceptance gives, and the axes. Assumes nothing.
use Rattle.std.proofs.Common.{◌≡◌, ℕ, ◌+◌, ◌-◌, ◌*◌, ◌/◌, ◌%◌, ◌^◌, ◌<◌, ◌≤◌, cond, ltb, List, [], ◌∷◌, sym, ap, ◌∙◌, subst, ap₂, mul-le-mul, arith, le-ltb, lt-ltb}
use native.Mathlib.Decide.{dec_lt}
use Rattle.plane.specs.declared.Tensor.{Tensor}
use Rattle.plane.specs.declared.Config.{Config}
use Rattle.plane.specs.declared.Source.{Source}
use Rattle.plane.specs.declared.Answer.{Answer}
use Rattle.plane.specs.Arrays.{at, sum}
use Rattle.std.specs.Int.{w32, to_le_bytes}
use Rattle.plane.specs.Numbers.{little}
use Rattle.plane.specs.Planes.{src_strides, source_rules, source_of, source_fault}
use Rattle.plane.specs.Moves.{count, extent, dst_extents, room_rules, room_fault, accepted}
use Rattle.plane.proofs.Arrays.{firsts_at}
use Rattle.plane.proofs.Bounds.{element_small, sum_most}
use Rattle.faults.proofs.Faults.{status}
use Rattle.faults.proofs.Chains.{unbroken, unbroken_accepts}
use Rattle.plane.specs.Good.{GoodSource, GoodConfig, GoodDst}
use Rattle.plane.proofs.Good.{source_tells, config_tells, dst_tells}
use Rattle.plane.proofs.Rules.{dst_extent, its_fault, its_strides}
use Rattle.mover.specs.declared.plan.Axis.{Axis}
use Rattle.mover.specs.Element.{dim_of}
use Rattle.mover.specs.Private.Plans.{axis_of, axis_at, plan_of, lone, axis_made, home_made, Fit}

-- std's bytes of a number are its low bytes
pub le_bytes_little : (n : ℕ) → n < 2 ^ 32 → to_le_bytes w32 n ≡ little 4 n
unfolding little
le_bytes_little n h =
    let a : n / 65536 ≡ n / 256 / 256 = omega arith in
    let b : n / 16777216 ≡ n / 256 / 256 / 256 = omega arith in
    λ i. n % 256 ∷ n / 256 % 256 ∷ a i % 256 ∷ b i % 256 ∷ []

-- a sum of at most four numbers times strides, times an element size
pub bytes_fit : (n : ℕ) (f : ℕ → ℕ) (z : ℕ) → n ≤ 4 → z ≤ 4 → ((i : ℕ) → i < n → f i ≤ 65535 * 4294967295) → sum n f * z < 2 ^ 64
bytes_fit n f z l s h =
    let most = sum_most n f (65535 * 4294967295) h in
    let u : sum n f ≤ 4 * (65535 * 4294967295) = omega arith in
    omega (arith, mul-le-mul u s)

-- ---- an accepted move

module _ {t : Tensor} (c : Config) (g : GoodSource t) where
  pub extent_is : (i : ℕ) → i < t.rank → at (dst_extents t c) i ≡ at c.pre (dim_of c i) + count t c (dim_of c i) + at c.post (dim_of c i)
  unfolding dst_extents extent
  extent_is i h = firsts_at 0 t.rank (λ i. extent t c (at c.perm i)) i g.rank.1 h

module _ {t : Tensor} {c : Config} (g : GoodSource t) (k : GoodConfig t c) where
  pub accepted_fit : GoodDst t c → Fit t c (accepted t c)
  accepted_fit p = record {
    rank = g.rank.1;
    element = (element_small t.element_size g.element).1;
    dim = λ i h. omega (arith, k.perm i h, g.rank.1);
    shape = λ i h. (g.shape (dim_of c i) (k.perm i h)).1;
    offset = λ i h. k.offset (dim_of c i) (k.perm i h);
    step = λ i h. (k.step (dim_of c i) (k.perm i h)).1;
    dst_offset_lem = p.offset;
    extent = λ i h. (dst_extent k i g.rank.1 h).1;
    padding = λ i h. omega (arith, extent_is c g i h);
  }

  -- what the padding leaves of an extent is kept
  axis_made_lem : (i : ℕ) → i < t.rank → axis_made t c (accepted t c) (src_strides t) i ≡ axis_of t c i
  axis_made_lem i h =
      let e : at (dst_extents t c) i - at c.pre (dim_of c i) - at c.post (dim_of c i) ≡ count t c (dim_of c i) = omega (arith, extent_is c g i h) in
      λ x. record {
        extent = (axis_of t c i).extent;
        pre = (axis_of t c i).pre;
        count = e x;
        jump = (axis_of t c i).jump;
        stride = (axis_of t c i).stride;
      }

  at_made : (j : ℕ) → j < 4 → cond (ltb j (4 - t.rank)) lone (axis_made t c (accepted t c) (src_strides t) (j - (4 - t.rank))) ≡ axis_at t c j
  at_made j l = elim (dec_lt j (4 - t.rank)) [
    | yes h ↦ rw (lt-ltb j (4 - t.rank) h)
    | no h ↦ rw (le-ltb j (4 - t.rank) (omega arith)) (axis_made_lem (j - (4 - t.rank)) (omega (arith, g.rank.1)))
  ]

module _ (t : Tensor) (c : Config) (z : (room_fault t c).status ≡ 0) where
  pub room_source : GoodSource t
  unfolding room_fault
  room_source = source_tells t (unbroken (room_rules t c) (omega arith) z).0

  pub room_config : GoodConfig t c
  unfolding room_fault
  room_config = config_tells t c (unbroken (room_rules t c) (omega arith) z).1.0

  pub room_dst : GoodDst t c
  unfolding room_fault
  room_dst = dst_tells t c (unbroken (room_rules t c) (omega arith) z).1.1

  pub room_strides : {s : Source} → s ≡ source_of t → s.stride ≡ src_strides t
  unfolding room_fault source_fault
  room_strides e = its_strides t e (status (its_fault t e) ∙ unbroken_accepts (source_rules t) (unbroken (room_rules t c) (omega arith) z).0)

  module _ {a : Answer} (ea : a ≡ accepted t c) where
    pub answer_fit : Fit t c a
    answer_fit = subst (λ (x : Answer). Fit t c x) (sym ea) (accepted_fit room_source room_config room_dst)

    module _ {sizes : List ℕ} (es : sizes ≡ src_strides t) where
      -- axis j, as the code has it
      pub axis_is : (j : ℕ) {x : Axis} → j < 4 → x ≡ cond (ltb j (4 - a.rank)) lone (axis_made t c a sizes (j - (4 - a.rank))) → x ≡ axis_at t c j
      axis_is j l e =
          e ∙
          ap₂ (λ (a : Answer) (s : List ℕ). cond (ltb j (4 - a.rank)) lone (axis_made t c a s (j - (4 - a.rank)))) ea es ∙
          at_made room_source room_config j l

      pub plan_is : {pad : List ℕ} {h b : ℕ} {d0 d1 d2 d3 : Axis} →
          pad ≡ little 4 c.fill →
          h ≡ home_made t c a sizes →
          b ≡ sum a.rank (λ i. at c.dst_offset i * at a.stride i) * a.element_size →
          d0 ≡ axis_at t c 0 → d1 ≡ axis_at t c 1 → d2 ≡ axis_at t c 2 → d3 ≡ axis_at t c 3 →
          record { size = a.element_size; pad = pad; home = h; base = b; d0 = d0; d1 = d1; d2 = d2; d3 = d3 } ≡ plan_of t c
      unfolding plan_of
      plan_is ep eh eb e0 e1 e2 e3 =
          let z = ap (λ (a : Answer). a.element_size) ea in
          let h = eh ∙ ap₂ (λ (a : Answer) (s : List ℕ). home_made t c a s) ea es in
          let b = eb ∙ ap (λ (a : Answer). sum a.rank (λ i. at c.dst_offset i * at a.stride i) * a.element_size) ea in
          λ x. record { size = z x; pad = ep x; home = h x; base = b x; d0 = e0 x; d1 = e1 x; d2 = e2 x; d3 = e3 x }
