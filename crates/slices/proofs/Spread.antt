-- Coordinates of the dimensions that stay in a sub-tensor, by the plane's dimensions. Assumes nothing.
use Prim.Native.Nat.{ℕ, zero, suc, ◌+◌, ◌*◌, ◌≤◌, ◌<◌}
use native.Mathlib.Nat.{add-zero, zero-mul, mul-one, not-suc-le-zero, le_of_suc-le-suc, eq-or-lt_of_le}
use native.Mathlib.Omega.{arith}
use mathlib.Core.Path.{◌≡◌, refl, sym, ap, ap₂, subst, ◌∙◌}
use mathlib.Core.Logic.{⊎_elim}
use mathlib.Core.Bool.{true, false, cond}
use lib.ListN.{length}
use Rattle.plane.specs.Arrays.{at, sum, product}
use Rattle.plane.specs.Helpers.{removed, staying}
use Rattle.plane.proofs.Arrays.{sum_same, product_same}
use Rattle.plane.proofs.Staying.{Gone, Stays, gone, stays, fate, stays_length, stays_last, stays_before}

module _ (size : ℕ → ℕ) (excess : ℕ) where
  none : length (staying size excess 0) ≡ 0
  unfolding staying
  none = refl

  -- a dimension that stays stands behind as many as stay before it
  pub stays_at : (n d : ℕ) → d < n → removed size excess d ≡ false → (length (staying size excess d) < length (staying size excess n)) × (at (staying size excess n) (length (staying size excess d)) ≡ d)
  stays_at zero d h e = absurd (not-suc-le-zero h)
  stays_at (suc n) d h e =
      ⊎_elim
      (λ (q : d ≡ n).
      let k = stays size excess d e in
      subst (λ (m : ℕ). (length (staying size excess d) < length (staying size excess (suc m))) × (at (staying size excess (suc m)) (length (staying size excess d)) ≡ d)) q
      (omega (arith, stays_length size excess d k), stays_last size excess d k))
      (λ q.
      let w = stays_at n d q e in
      ⊎_elim
      (λ (g : Gone size excess n). rw g.list w)
      (λ (k : Stays size excess n). (omega (arith, w.0, stays_length size excess n k), stays_before size excess n k _ w.0 ∙ w.1))
      (fate size excess n))
      (eq-or-lt_of_le (le_of_suc-le-suc h))

  -- removed dimensions are units, so the products of the sizes are the same: of all, and up to one that stays
  pub staying_product : (n : ℕ) → product (length (staying size excess n)) (λ i. size (at (staying size excess n) i)) ≡ product n size
  unfolding product
  staying_product zero = rw none
  staying_product (suc n) =
      ⊎_elim
      (λ (g : Gone size excess n). rw (g.list, g.unit, mul-one) (staying_product n))
      (λ (k : Stays size excess n).
      rw (stays_length size excess n k)
      (ap₂ (λ (a b : ℕ). a * b)
      (product_same (length (staying size excess n)) _ _ (λ i h. ap size (stays_before size excess n k i h)) ∙ staying_product n)
      (ap size (stays_last size excess n k))))
      (fate size excess n)

  pub staying_heads : (n i : ℕ) → i < length (staying size excess n) → product (suc i) (λ j. size (at (staying size excess n) j)) ≡ product (suc (at (staying size excess n) i)) size
  staying_heads zero i h = absurd (not-suc-le-zero (rw none at h))
  staying_heads (suc n) i h =
      ⊎_elim
      (λ (g : Gone size excess n). rw g.list (staying_heads n i (rw g.list at h)))
      (λ (k : Stays size excess n).
      ⊎_elim
      (λ (q : i ≡ length (staying size excess n)).
      rw (q, stays_last size excess n k, ← stays_length size excess n k) (staying_product (suc n)))
      (λ q.
      product_same (suc i) _ _ (λ j l. ap size (stays_before size excess n k j (omega arith))) ∙
      staying_heads n i q ∙
      ap (λ (d : ℕ). product (suc d) size) (sym (stays_before size excess n k i q)))
      (eq-or-lt_of_le (le_of_suc-le-suc (rw (stays_length size excess n k) at h))))
      (fate size excess n)

  -- coordinates x of the dimensions that stay, by the plane's dimensions: 0 for one that is removed
  abbrev pub spread : (ℕ → ℕ) → ℕ → ℕ
  spread x d = cond (removed size excess d) 0 (x (length (staying size excess d)))

  module _ (x : ℕ → ℕ) where
    pub spread_at : (n i : ℕ) → i < length (staying size excess n) → spread x (at (staying size excess n) i) ≡ x i
    spread_at zero i h = absurd (not-suc-le-zero (rw none at h))
    spread_at (suc n) i h = elim (removed size excess n) as (λ b. removed size excess n ≡ b → spread x (at (staying size excess (suc n)) i) ≡ x i) [
      | true ↦ λ e. let g = (gone size excess n e).list in rw g (spread_at n i (rw g at h))
      | false ↦ λ e.
          let k = stays size excess n e in
          ⊎_elim
          (λ (q : i ≡ length (staying size excess n)). rw (q, stays_last size excess n k, e))
          (λ q. rw (stays_before size excess n k i q) (spread_at n i q))
          (eq-or-lt_of_le (le_of_suc-le-suc (rw (stays_length size excess n k) at h)))
    ] refl

    pub spread_below : (n : ℕ) → ((d : ℕ) → d < n → 1 ≤ size d) → ((i : ℕ) → i < length (staying size excess n) → x i < size (at (staying size excess n) i)) → (d : ℕ) → d < n → spread x d < size d
    spread_below n some w d h = elim (removed size excess d) as (λ b. removed size excess d ≡ b → spread x d < size d) [
      | true ↦ λ e. rw e (some d h)
      | false ↦ λ e. let k = stays_at n d h e in rw e (omega (arith, w (length (staying size excess d)) k.0, ap size k.1))
    ] refl

    -- a sum over those that stay is the sum over all
    pub spread_sum : (w : ℕ → ℕ) (n : ℕ) → sum (length (staying size excess n)) (λ i. x i * w (at (staying size excess n) i)) ≡ sum n (λ d. spread x d * w d)
    unfolding sum
    spread_sum w zero = rw none
    spread_sum w (suc n) = elim (removed size excess n) as (λ b. removed size excess n ≡ b → sum (length (staying size excess (suc n))) (λ i. x i * w (at (staying size excess (suc n)) i)) ≡ sum n (λ d. spread x d * w d) + spread x n * w n) [
      | true ↦ λ e. rw ((gone size excess n e).list, e, zero-mul, add-zero) (spread_sum w n)
      | false ↦ λ e.
          let k = stays size excess n e in
          rw (stays_length size excess n k, e)
          (ap₂ (λ (a b : ℕ). a + b)
          (sum_same (length (staying size excess n)) _ _ (λ i h. ap (λ (d : ℕ). x i * w d) (stays_before size excess n k i h)) ∙ spread_sum w n)
          (ap (λ (d : ℕ). x (length (staying size excess n)) * w d) (stays_last size excess n k)))
    ] refl

  -- coordinates within the sizes are 0 in each unit dimension, so those of the dimensions that stay tell them all
  pub spread_back : (y : ℕ → ℕ) (n : ℕ) → ((d : ℕ) → d < n → y d < size d) → (d : ℕ) → d < n → spread (λ i. y (at (staying size excess n) i)) d ≡ y d
  spread_back y n w d h = elim (removed size excess d) as (λ b. removed size excess d ≡ b → spread (λ i. y (at (staying size excess n) i)) d ≡ y d) [
    | true ↦ λ e. rw e (omega (arith, w d h, (gone size excess d e).unit))
    | false ↦ λ e. rw e (ap y (stays_at n d h e).1)
  ] refl
