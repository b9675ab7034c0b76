-- An element size is 1 to 4; and all sums and products of what is accepted fit 64 bits: inner products, spans, needs, the elements of
-- a destination, and counts. Assumes nothing.
use Prim.Native.Nat.{ℕ, zero, suc, ◌+◌, ◌-◌, ◌*◌, ◌^◌, ◌≤◌, ◌<◌}
use native.Mathlib.Nat.{mul-le-mul, suc-mul, pow-suc, not-suc-le-zero, le_of_suc-le-suc}
use native.Mathlib.Decide.{ℕ_discrete}
use native.Mathlib.Omega.{arith}
use mathlib.Core.Path.{◌≡◌, refl, subst}
use mathlib.Core.Bool.{Bool, true, false, ◌||◌}
use lib.Dec.{ltb}
use Rattle.plane.specs.Arrays.{at, sum, product, or0}
use Rattle.plane.specs.Planes.{Sized, shape_at, stride_at, inner, resolved, src_strides, span}
use Rattle.plane.specs.Moves.{dst_extents, dst_strides, need}
use Rattle.plane.specs.Helpers.{elements, count_fault, count_of}
use Rattle.faults.proofs.Bools.{in_range}
use Rattle.faults.proofs.Faults.{or_clear, when_clear}
use Rattle.plane.proofs.Arrays.{firsts_at, product_same}
use Rattle.plane.specs.Claims.{InnerFits, SpanFits, NeedFits, ExtentsFit, most_count, CountFits, CountBounded}
use Rattle.plane.proofs.Good.{shapes_good}
use Rattle.plane.proofs.Rules.{dst_extent}
use Rattle.plane.proofs.CountAnswers.{count_answer_refused, count_answer_given}

pub sum_most : (n : ℕ) (f : ℕ → ℕ) (m : ℕ) → ((d : ℕ) → d < n → f d ≤ m) → sum n f ≤ n * m
unfolding sum
sum_most zero f m h = omega arith
sum_most (suc n) f m h =
    let w = sum_most n f m (λ d q. h d (omega arith)) in
    let v = h n (omega arith) in
    rw (suc-mul n m) (omega arith)

product_power : (n : ℕ) (f : ℕ → ℕ) → ((d : ℕ) → d < n → f d ≤ 65535) → product n f ≤ 65535 ^ n
unfolding product
product_power zero f h = omega arith
product_power (suc n) f h = rw (pow-suc 65535 n) (mul-le-mul (product_power n f (λ d q. h d (omega arith))) (h n (omega arith)))

-- four factors of at most 65,535
pub product_most : (n : ℕ) (f : ℕ → ℕ) → n ≤ 4 → ((d : ℕ) → d < n → f d ≤ 65535) → product n f ≤ most_count
product_most n f l h = let w = product_power n f h in let v = powers n l in omega arith
  where
    powers : (n : ℕ) → n ≤ 4 → 65535 ^ n ≤ most_count
    powers zero l = omega arith
    powers (suc zero) l = omega arith
    powers (suc (suc zero)) l = omega arith
    powers (suc (suc (suc zero))) l = omega arith
    powers (suc (suc (suc (suc zero)))) l = omega arith
    powers (suc (suc (suc (suc (suc n))))) l = absurd (not-suc-le-zero (le_of_suc-le-suc (le_of_suc-le-suc (le_of_suc-le-suc (le_of_suc-le-suc l)))))

-- an element size that is taken is 1 to 4
pub element_small : (z : ℕ) → Sized z → (1 ≤ z) × (z ≤ 4)
element_small z h = by_test (ltb z 1 || ltb 4 z) refl
  where
    by_test : (b : Bool) → (ltb z 1 || ltb 4 z) ≡ b → (1 ≤ z) × (z ≤ 4)
    by_test true e = absurd (h (simp e))
    by_test false e = in_range z 1 4 e

-- what is left of them past 1, 2 and 3
pub element_four : (z : ℕ) → Sized z → (z ≡ 1 → ⊥) → (z ≡ 2 → ⊥) → (z ≡ 3 → ⊥) → z ≡ 4
element_four z h one two three = omega (arith, element_small z h)

-- 1 and n terms, each at most m, times an element size
box_fits : (n : ℕ) (f : ℕ → ℕ) (z : ℕ) → n ≤ 4 → z ≤ 4 → ((d : ℕ) → d < n → f d ≤ 131070 * 2147483647) → (1 + sum n f) * z < 2 ^ 64
box_fits n f z l s h =
    let w = sum_most n f (131070 * 2147483647) h in
    let u : 1 + sum n f ≤ 1 + 4 * (131070 * 2147483647) = omega arith in
    let v = mul-le-mul u s in
    omega arith

-- the inner products of good strides
pub inner_fits : InnerFits
unfolding inner resolved
inner_fits n shape stride g h zero l = omega arith
inner_fits n shape stride g h (suc k) l =
    let q : n - suc k < n = omega arith in
    let e : n - suc (n - suc k) ≡ k = omega arith in
    let r = subst (λ (j : ℕ). or0 (stride (n - suc k)) (inner n shape stride j) ≤ 2147483647) e (g.most (n - suc k) q) in
    omega (arith, mul-le-mul r (h (n - suc k) q))

pub span_fits : SpanFits
unfolding span
span_fits t g =
    box_fits t.rank _ t.element_size g.rank.1 (element_small t.element_size g.element).1
    (λ d h.
    let e = firsts_at 0 t.rank (resolved t.rank (shape_at t) (stride_at t)) d g.rank.1 h in
    let s : shape_at t d - 1 ≤ 131070 = omega (arith, (g.shape d h).1) in
    let m : at (src_strides t) d ≤ 2147483647 = rw e (g.strides.most d h) in
    mul-le-mul s m)

pub need_fits : NeedFits
unfolding need
need_fits t c g k p =
    box_fits t.rank _ t.element_size g.rank.1 (element_small t.element_size g.element).1
    (λ i h.
    let e = firsts_at 0 t.rank (resolved t.rank (at (dst_extents t c)) (at c.dst_stride)) i g.rank.1 h in
    let s : at c.dst_offset i + at (dst_extents t c) i - 1 ≤ 131070 = omega (arith, p.offset i h, (dst_extent k i g.rank.1 h).1) in
    let m : at (dst_strides t c) i ≤ 2147483647 = rw e (p.strides.most i h) in
    mul-le-mul s m)

-- how many elements a destination has
pub extents_fit : ExtentsFit
extents_fit t c g k =
    let w = product_most t.rank (at (dst_extents t c)) g.rank.1 (λ i h. (dst_extent k i g.rank.1 h).1) in omega arith

-- ---- counts

pub count_fits : CountFits
unfolding elements product
count_fits = record {
  most = λ t start r s. product_most (t.rank - start) _ (omega (arith, r.1)) (λ k h. (s (start + k) (omega arith)).1);
  fits = omega arith;
  met = λ t r s. rw r (product_same 4 _ (λ _. 65535) (λ k h. s (0 + k) (omega arith)));
}

pub count_bounded : CountBounded
unfolding count_of count_fault
count_bounded t start =
    let f = count_fault t start in
    elim (ℕ_discrete f.status 0) [
      | yes z ↦
          let p = or_clear _ _ z in
          rw (count_answer_given f (elements t start) z)
          (count_fits.most t start (in_range t.rank 1 4 (when_clear 1 0 _ (omega arith) p.0)) (shapes_good t (or_clear _ _ p.1).0))
      | no z ↦ rw (count_answer_refused f (elements t start) z) (omega arith)
    ]
