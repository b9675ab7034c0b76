-- How far an accepted move reaches: each element ends within the need, and no row runs past its end. Assumes nothing.
use Rattle.std.proofs.Common.{◌≡◌, ℕ, zero, suc, ◌+◌, ◌-◌, ◌*◌, ◌<◌, ◌≤◌, length, ap, le_trans, suc-mul, arith}
use Rattle.plane.specs.Arrays.{at, sum}
use Rattle.plane.specs.Moves.{dst_strides}
use Rattle.plane.proofs.Arrays.{sum_same}
use Rattle.mover.specs.Moved.{extent_at}
use Rattle.mover.specs.Element.{place}
use Rattle.mover.specs.Claims.{NeedBounds, RowsEnd}
use Rattle.mover.proofs.Laws.{judged_good}
use Rattle.mover.proofs.Sums.{sum_head, before_in_bytes}
use Rattle.mover.proofs.Fitting.{place_fits}
use Rattle.mover.proofs.Spacing.{stride_some}

-- offsets o, coordinates x below the extents e, strides s that keep the rule of the offsets
module _ (n : ℕ) (o x e s : ℕ → ℕ) (inside : (i : ℕ) → i < n → x i < e i) (some : (i : ℕ) → i < n → 1 ≤ s i) (row : (i : ℕ) → 0 < i → i < n → (o i + e i) * s i ≤ s (i - 1)) where
  abbrev term : ℕ → ℕ
  term i = (o i + x i) * s i

  -- one step more in dimension i is still within
  next : (i : ℕ) → 0 < i → i < n → term i + s i ≤ s (i - 1)
  next i p h =
      let l : o i + x i < o i + e i = omega (arith, inside i h) in
      le_trans (before_in_bytes (s i) l) (row i p h)

  -- from the last dimension outward
  tail_less : (m i : ℕ) → 0 < i → i + m ≡ n → sum m (λ k. term (i + k)) < s (i - 1)
  unfolding sum
  tail_less zero i p q = some (i - 1) (omega arith)
  tail_less (suc m) i p q =
      let b : suc i - 1 ≡ i = omega arith in
      let r = rw b at (tail_less m (suc i) (omega arith) (omega arith)) in
      let z : term (i + 0) ≡ term i = ap term (omega arith) in
      let u = sum_head m (λ k. term (i + k)) in
      let v = sum_same m (λ k. term (i + suc k)) (λ k. term (suc i + k)) (λ k h. let w : i + suc k ≡ suc i + k = omega arith in ap term w) in
      omega (arith, next i p (omega arith))

-- ---- the theorems

pub need_bounds : NeedBounds
need_bounds t c src dst z x a =
    let g = judged_good t c (length src) (length dst) z in
    omega (arith, suc-mul (place t c x) t.element_size, place_fits g.config x a)

pub rows_end : RowsEnd
rows_end t c src dst z x a i p h =
    let g = judged_good t c (length src) (length dst) z in
    tail_less t.rank (at c.dst_offset) x (extent_at t c) (at (dst_strides t c)) a (stride_some g.source g.config g.destination) g.destination.row (t.rank - i) i p (omega arith)
