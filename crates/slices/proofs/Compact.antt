-- Strides that are all asked for by 0: each is what lies inside it, the product of the extents further in. Assumes nothing.
use Prim.Native.Nat.{ℕ, zero, suc, ◌-◌, ◌*◌, ◌≤◌, ◌<◌}
use native.Mathlib.Nat.{mul-one, mul_comm, mul_assoc, le_trans, mul-le-mul}
use native.Mathlib.Omega.{arith}
use mathlib.Core.Path.{◌≡◌, sym, ap, ◌∙◌}
use borrow.Author.Tests.{eq-eqb}
use Rattle.plane.specs.Arrays.{product}
use Rattle.plane.specs.Planes.{inner, resolved}
use Rattle.plane.specs.Good.{GoodStrides}

module _ (n : ℕ) (extent asked : ℕ → ℕ) (none : (d : ℕ) → d < n → asked d ≡ 0) where
  pub resolved_inner : (d : ℕ) → d < n → resolved n extent asked d ≡ inner n extent asked (n - suc d)
  unfolding resolved
  resolved_inner d h = simp (eq-eqb (asked d) 0 (none d h))

  inner_more : (k : ℕ) → suc k ≤ n → inner n extent asked (suc k) ≡ inner n extent asked k * extent (n - suc k)
  unfolding inner
  inner_more k h = simp (eq-eqb (asked (n - suc k)) 0 (none (n - suc k) (omega arith)))

  -- with the extents up to its own, a stride makes the product of all
  all_inner : (k : ℕ) → k ≤ n → product (n - k) extent * inner n extent asked k ≡ product n extent
  unfolding inner product
  all_inner zero h = let e : n - 0 ≡ n = omega arith in rw (e, mul-one)
  all_inner (suc k) h =
      let e : n - k ≡ suc (n - suc k) = omega arith in
      ap (λ (y : ℕ). product (n - suc k) extent * y) (inner_more k h ∙ mul_comm _ _) ∙
      sym (mul_assoc (product (n - suc k) extent) (extent (n - suc k)) (inner n extent asked k)) ∙
      rw e at (all_inner k (omega arith))

  pub compact_at : (d : ℕ) → d < n → product (suc d) extent * resolved n extent asked d ≡ product n extent
  compact_at d h =
      let e : n - (n - suc d) ≡ suc d = omega arith in
      rw (resolved_inner d h) (rw e at (all_inner (n - suc d) (omega arith)))

  -- of a box within a plane whose strides are taken, they are taken
  module _ (shape stride : ℕ → ℕ) (fits : (d : ℕ) → d < n → extent d ≤ shape d) (g : GoodStrides n shape stride) where
    inner_within : (k : ℕ) → k ≤ n → inner n extent asked k ≤ inner n shape stride k
    unfolding inner resolved
    inner_within zero h = omega arith
    inner_within (suc k) h =
        let d = n - suc k in
        let e : n - suc d ≡ k = omega arith in
        rw (inner_more k h)
        (mul-le-mul (le_trans (inner_within k (omega arith)) (rw e at (g.least d (omega arith)))) (fits d (omega arith)))

    pub compact_good : GoodStrides n extent asked
    compact_good = record {
      least = λ d h. rw (resolved_inner d h) (omega arith);
      most = λ d h. rw (resolved_inner d h) (le_trans (inner_within (n - suc d) (omega arith)) (le_trans (g.least d h) (g.most d h)));
    }
