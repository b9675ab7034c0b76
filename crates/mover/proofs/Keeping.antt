-- The test for what is kept, and what an element's places look at. Assumes nothing.
use Rattle.std.proofs.Common.{◌≡◌, ℕ, ◌+◌, ◌-◌, ◌*◌, ◌<◌, ◌≤◌, Bool, true, cond, ◌&&◌, ltb, leb, List, take, drop, ap, ap₂, ltb-true, lt-ltb, le-leb, leb-true}
use Rattle.plane.specs.declared.Tensor.{Tensor}
use Rattle.plane.specs.declared.Config.{Config}
use Rattle.plane.specs.Arrays.{at}
use Rattle.plane.specs.Planes.{source_at}
use Rattle.plane.specs.Moves.{dst_strides}
use Rattle.faults.proofs.Bools.{both_first, both_second}
use Rattle.plane.proofs.Arrays.{sum_same, every_same}
use Rattle.mover.specs.Element.{dim_of, k_of, is_kept, are_kept, source_place, place, padded, element}

-- x - p is from 0 to n - 1
module _ (p x n : ℕ) where
  pub range_test : (p ≤ x) × (x - p < n) → (leb p x && ltb (x - p) n) ≡ true
  range_test k = rw (le-leb p x k.0, lt-ltb (x - p) n k.1)

  pub test_range : (leb p x && ltb (x - p) n) ≡ true → (p ≤ x) × (x - p < n)
  test_range e = (leb-true p x (both_first _ (ltb (x - p) n) e), ltb-true (x - p) n (both_second (leb p x) _ e))

-- an element, its place and that of its source look at the coordinates below the rank alone
module _ (t : Tensor) (c : Config) (x y : ℕ → ℕ) (e : (i : ℕ) → i < t.rank → x i ≡ y i) where
  pub place_same : place t c x ≡ place t c y
  unfolding place
  place_same = sum_same t.rank _ _ (λ i h. ap (λ (a : ℕ). (at c.dst_offset i + a) * at (dst_strides t c) i) (e i h))

  pub source_same : source_place t c x ≡ source_place t c y
  unfolding source_place
  source_same =
      sum_same t.rank _ _
      (λ i h. ap (λ (a : ℕ). source_at t (dim_of c i) (at c.offset (dim_of c i) + k_of c i a * at c.step (dim_of c i))) (e i h))

  pub kept_same : are_kept t c x ≡ are_kept t c y
  unfolding are_kept
  kept_same = every_same t.rank _ _ (λ i h. ap (is_kept t c i) (e i h))

  pub element_same : (src : List ℕ) → element t c src x ≡ element t c src y
  unfolding element
  element_same src =
      ap₂ (λ (k : Bool) (p : ℕ). cond k (take t.element_size (drop (p * t.element_size) src)) (padded t c)) kept_same source_same
