-- A sub-tensor is a tensor of its own: it is accepted where its numbers are used as a record, and it lies within the source. Assumes nothing.
use Prim.Native.Nat.{ℕ, zero, suc, ◌+◌, ◌-◌, ◌*◌, ◌≤◌, ◌<◌}
use native.Mathlib.Nat.{le_trans, add-mul, mul-le-mul_left, mul-le-mul_right}
use native.Mathlib.Omega.{arith}
use mathlib.Core.Path.{◌≡◌, sym, ap, ap₂, ◌∙◌}
use mathlib.Core.Bool.{Bool, true, false}
use borrow.Author.Tests.{eqb-false, ne_eqb, leb-false, lt-leb, ltb-false, le-ltb}
use lib.Dec.{ltb, eqb}
use lib.IntN.{pos}
use lib.ListN.{length}
use Rattle.plane.specs.declared.Tensor.{Tensor}
use Rattle.plane.specs.declared.SubConfig.{SubConfig}
use Rattle.plane.specs.Arrays.{at, sum}
use Rattle.plane.specs.Signs.{size_of, is_down, signed, at_z}
use Rattle.plane.specs.Planes.{shape_at, stride_at, down_at, up, resolved, src_strides, source_at, span}
use Rattle.plane.specs.Helpers.{staying, excess, sub_dim, sub_rules, sub_fault, resolved_at, lowest_in, sub_of, sub_byte, no_sub, sub_answer, sub_tensor_of}
use Rattle.faults.proofs.Bools.{either_clear, neither}
use Rattle.plane.proofs.Arrays.{firsts_at, sum_same}
use Rattle.plane.proofs.Signed.{sizes_at, signed_size, signed_down}
use Rattle.faults.proofs.Faults.{if_none}
use Rattle.faults.proofs.Chains.{unbroken, unbroken_accepts}
use Rattle.plane.specs.Good.{GoodSource, GoodSub}
use Rattle.plane.specs.Claims.{SubGood, SubClear, SubTold, SubAccepted, SubFits}
use Rattle.plane.proofs.Good.{positive, source_tells, source_told, source_clear}
use Rattle.plane.proofs.Falling.{stride_positive, strides_fall, written_stays, written_good}
use Rattle.plane.proofs.SubAnswers.{sub_status}
use Rattle.plane.proofs.Staying.{staying_count, staying_below, staying_rises, staying_sum}

-- ---- what acceptance of a sub-tensor tells

pub sub_good : SubGood
unfolding sub_fault
sub_good t s srcLen z =
    let u = unbroken (sub_rules t s srcLen) (omega arith) z in
    let r = either_clear (eqb s.rank 0) (ltb t.rank s.rank) u.1.1.1.1.0 in
    record {
      source = source_tells t u.0;
      long = ltb-false srcLen (span t) u.1.0;
      offset = λ d h. leb-false _ _ (u.1.1.0 d h);
      size = λ d h.
          let w = either_clear (eqb (at s.size d) 0) _ (u.1.1.1.0 d h) in (positive _ (eqb-false _ _ w.0), ltb-false _ _ w.1);
      rank = (positive _ (eqb-false _ _ r.0), ltb-false _ _ r.1);
      units = ltb-false _ _ u.1.1.1.1.1;
    }

pub sub_clear : SubClear
unfolding sub_fault
sub_clear t s srcLen g =
    unbroken_accepts (sub_rules t s srcLen) (
      source_told t g.source,
      (
        le-ltb _ _ g.long,
        (
          λ d h. lt-leb _ _ (g.offset d h),
          (
            λ d h. neither _ _ (ne_eqb (at s.size d) 0 (λ e. omega (arith, (g.size d h).0))) (le-ltb _ _ (g.size d h).1),
            (neither _ _ (ne_eqb s.rank 0 (λ e. omega (arith, g.rank.0))) (le-ltb _ _ g.rank.1), le-ltb _ _ g.units),
          ),
        ),
      ),
    )

-- ---- the sub-tensor's dimensions

-- the elements of a part, from its lowest up, lie in the whole
low_within : (down : Bool) (shape offset size : ℕ) → 0 < size → size + offset ≤ shape → up down shape (lowest_in down offset size) + (size - 1) ≤ shape - 1
low_within true shape offset size h k = omega arith
low_within false shape offset size h k = omega arith

-- what the terms of two sums come to together
sums_within : (n : ℕ) (f g h : ℕ → ℕ) → ((d : ℕ) → d < n → f d + g d ≤ h d) → sum n f + sum n g ≤ sum n h
unfolding sum
sums_within zero f g h w = omega arith
sums_within (suc n) f g h w = omega (arith, sums_within n f g h (λ d q. w d (omega arith)), w n (omega arith))

module _ {t : Tensor} {s : SubConfig} {srcLen : ℕ} (g : GoodSub t s srcLen) where
  -- as many dimensions stay as the rank asks for
  pub sub_count : length (staying (at s.size) (excess t s) t.rank) ≡ s.rank
  sub_count = staying_count (at s.size) s.rank t.rank g.rank.1 g.units

  -- they are dimensions of the source, in order
  pub sub_dim_below : (i : ℕ) → i < s.rank → sub_dim t s i < t.rank
  sub_dim_below i h = staying_below (at s.size) (excess t s) t.rank i (omega (arith, sub_count))

  pub sub_dim_rises : (i j : ℕ) → i < j → j < s.rank → sub_dim t s i < sub_dim t s j
  sub_dim_rises i j l h = staying_rises (at s.size) (excess t s) t.rank i j l (omega (arith, sub_count))

  rank_small : s.rank ≤ 4
  rank_small = omega (arith, g.rank.1, g.source.rank.1)

  -- the shape and the stride of dimension i, as the record of the sub-tensor has them
  pub sub_shape : (i : ℕ) → i < s.rank → shape_at (sub_of t s) i ≡ at s.size (sub_dim t s i)
  unfolding sub_of
  sub_shape i h = firsts_at 0 s.rank (λ i. at s.size (sub_dim t s i)) i rank_small h

  pub sub_stride : (i : ℕ) → i < s.rank → at_z (sub_of t s).stride i ≡ resolved_at t (sub_dim t s i)
  unfolding sub_of
  sub_stride i h = firsts_at (pos 0) s.rank (λ i. resolved_at t (sub_dim t s i)) i rank_small h

  stride_size : (i : ℕ) → i < s.rank → stride_at (sub_of t s) i ≡ at (src_strides t) (sub_dim t s i)
  stride_size i h =
      sizes_at (sub_of t s).stride i ∙ ap size_of (sub_stride i h) ∙ signed_size (down_at t (sub_dim t s i)) (at (src_strides t) (sub_dim t s i))

  -- the source's resolved strides: at least 1, within the limit, and falling inward
  abbrev whole : ℕ → ℕ
  whole d = resolved t.rank (shape_at t) (stride_at t) d

  whole_at_lem : (d : ℕ) → d < t.rank → at (src_strides t) d ≡ whole d
  whole_at_lem d h = firsts_at 0 t.rank whole d g.source.rank.1 h

  some : (d : ℕ) → d < t.rank → 1 ≤ shape_at t d
  some d h = (g.source.shape d h).0

  its_stride : (i : ℕ) → i < s.rank → stride_at (sub_of t s) i ≡ whole (sub_dim t s i)
  its_stride i h = stride_size i h ∙ whole_at_lem (sub_dim t s i) (sub_dim_below i h)

  stride_within : (i : ℕ) → i < s.rank → (1 ≤ stride_at (sub_of t s) i) × (stride_at (sub_of t s) i ≤ 2147483647)
  stride_within i h =
      let b = sub_dim_below i h in
      rw (its_stride i h) (stride_positive t.rank (shape_at t) (stride_at t) some g.source.strides (sub_dim t s i) b, g.source.strides.most (sub_dim t s i) b)

  strides_drop : (i : ℕ) → suc i < s.rank → stride_at (sub_of t s) (suc i) * shape_at (sub_of t s) (suc i) ≤ stride_at (sub_of t s) i
  strides_drop i h =
      let b = sub_dim_below (suc i) h in
      let l = (g.size (sub_dim t s (suc i)) b).1 in
      rw (its_stride (suc i) h, sub_shape (suc i) h, its_stride i (omega arith))
      (le_trans (mul-le-mul_left (whole (sub_dim t s (suc i))) (omega arith))
      (strides_fall t.rank (shape_at t) (stride_at t) some g.source.strides (sub_dim t s i) (sub_dim t s (suc i)) (sub_dim_rises i (suc i) (omega arith) h) b))

  pub sub_source : GoodSource (sub_of t s)
  unfolding sub_of
  sub_source = record {
    rank = (g.rank.0, rank_small);
    element = g.source.element;
    shape = λ i h. rw (sub_shape i h) (let b = sub_dim_below i h in ((g.size (sub_dim t s i) b).0, omega (arith, (g.size (sub_dim t s i) b).1, (g.source.shape (sub_dim t s i) b).1)));
    strides = written_good s.rank (shape_at (sub_of t s)) (stride_at (sub_of t s)) stride_within strides_drop;
  }

  -- its strides are resolved as they are written: their sizes are the plane's, and they count down where the plane's do
  pub sub_size : (i : ℕ) → i < s.rank → at (src_strides (sub_of t s)) i ≡ at (src_strides t) (sub_dim t s i)
  unfolding sub_of
  sub_size i h =
      firsts_at 0 s.rank (resolved s.rank (shape_at (sub_of t s)) (stride_at (sub_of t s))) i rank_small h ∙
      written_stays s.rank (shape_at (sub_of t s)) (stride_at (sub_of t s)) i (stride_within i h).0 ∙ stride_size i h

  pub sub_down : (i : ℕ) → i < s.rank → down_at (sub_of t s) i ≡ down_at t (sub_dim t s i)
  sub_down i h =
      let l = (stride_within i h).0 in
      ap is_down (sub_stride i h) ∙ signed_down (down_at t (sub_dim t s i)) (at (src_strides t) (sub_dim t s i)) (omega (arith, stride_size i h))

  sub_resolved : (i : ℕ) → i < s.rank → resolved_at (sub_of t s) i ≡ at_z (sub_of t s).stride i
  sub_resolved i h = ap₂ (λ (b : Bool) (n : ℕ). signed b n) (sub_down i h) (sub_size i h) ∙ sym (sub_stride i h)

  -- how far a box of the sizes reaches in a dimension, in elements
  abbrev across : ℕ → ℕ
  across d = (at s.size d - 1) * at (src_strides t) d

  -- the dimensions that are taken out reach no further
  pub sub_span : span (sub_of t s) ≡ (1 + sum t.rank across) * t.element_size
  unfolding span sub_of
  sub_span =
      ap (λ (x : ℕ). (1 + x) * t.element_size)
      (sum_same s.rank _ _ (λ i h. ap₂ (λ (x y : ℕ). (x - 1) * y) (sub_shape i h) (sub_size i h)) ∙
      ap (λ (m : ℕ). sum m (λ i. across (sub_dim t s i))) (sym sub_count) ∙
      staying_sum (at s.size) (excess t s) across (λ d u. rw u (omega arith)) t.rank)

  pub sub_within : sub_byte t s + span (sub_of t s) ≤ span t
  unfolding span sub_byte
  sub_within =
      rw sub_span
      (rw (← add-mul)
      (mul-le-mul_right t.element_size (omega (arith, sums_within t.rank _ across (λ d. (shape_at t d - 1) * at (src_strides t) d) reach))))
    where
      reach : (d : ℕ) → d < t.rank → source_at t d (lowest_in (down_at t d) (at s.offset d) (at s.size d)) + across d ≤ (shape_at t d - 1) * at (src_strides t) d
      reach d h =
          rw (← add-mul)
          (mul-le-mul_right (at (src_strides t) d) (low_within (down_at t d) (shape_at t d) (at s.offset d) (at s.size d) (g.size d h).0 (g.size d h).1))

-- ---- the answer

module _ (t : Tensor) (s : SubConfig) (srcLen : ℕ) (z : (sub_tensor_of t s srcLen).status ≡ 0) where
  pub sub_taken : (sub_fault t s srcLen).status ≡ 0
  unfolding sub_tensor_of
  sub_taken = sym (sub_status (sub_fault t s srcLen) (sub_of t s) (sub_byte t s)) ∙ z

  pub sub_given : sub_tensor_of t s srcLen ≡ record { status = 0; dim = 0; tensor = sub_of t s; byte = sub_byte t s }
  unfolding sub_tensor_of sub_answer
  sub_given = if_none (sub_fault t s srcLen) (no_sub (sub_fault t s srcLen)) _ sub_taken

  pub sub_told : GoodSub t s srcLen
  sub_told = sub_good t s srcLen sub_taken

-- its dimensions are the plane's that stay
pub sub_numbers : SubTold
sub_numbers t s srcLen z =
    let g = sub_told t s srcLen z in
    record {
      count = sub_count g;
      below = sub_dim_below g;
      rises = sub_dim_rises g;
      shape = sub_shape g;
      stride = sub_stride g;
      resolved = sub_resolved g;
    }

-- the numbers of a sub-tensor, used as a tensor record, are accepted
pub sub_accepted : SubAccepted
sub_accepted t s srcLen z = rw (sub_given t s srcLen z) (source_clear (sub_of t s) (sub_source (sub_told t s srcLen z)))

-- and all its elements lie in the source, from its byte on
pub sub_fits : SubFits
sub_fits t s srcLen z = let g = sub_told t s srcLen z in rw (sub_given t s srcLen z) (le_trans (sub_within g) g.long)
