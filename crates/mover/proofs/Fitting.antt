-- The elements of an accepted move lie in what the checks worked out: a kept source element in the source's span, in whatever order the
-- destination takes the source's dimensions, and a destination element in the need. Assumes nothing.
use Rattle.std.proofs.Common.{◌≡◌, ℕ, zero, suc, ◌+◌, ◌-◌, ◌*◌, ◌<◌, ◌≤◌, Bool, true, false, mul-le-mul_right, suc-mul, zero-mul, div-mul-le_self, arith, eq-eqb, ne_eqb}
use native.Mathlib.Decide.{ℕ_discrete}
use Rattle.plane.specs.declared.Tensor.{Tensor}
use Rattle.plane.specs.declared.Config.{Config}
use Rattle.plane.specs.Arrays.{at, sum}
use Rattle.plane.specs.Planes.{shape_at, down_at, up, src_strides, source_at, span}
use Rattle.plane.specs.Moves.{upward, taken, count, dst_extents, dst_strides, need}
use Rattle.plane.specs.Good.{GoodConfig}
use Rattle.plane.proofs.Good.{positive}
use Rattle.mover.specs.Element.{dim_of, place}
use Rattle.mover.specs.Moved.{extent_at}
use Rattle.mover.proofs.Sums.{sum_least, sum_perm}

less_one : (q t : ℕ) → (q - 1) * t ≤ q * t - t
less_one zero t = rw zero-mul (omega arith)
less_one (suc k) t = let e : suc k - 1 ≡ k = omega arith in rw (e, suc-mul) (omega arith)

-- the last of those kept lies in the shape: the count is the size over the step, rounded up
last_kept : (shape offset size step : ℕ) → 0 < size → 0 < step → size + offset ≤ shape → offset + (upward size step - 1) * step ≤ shape - 1
last_kept shape offset size step hz hs h =
    omega (arith, div-mul-le_self (size + (step - 1)) step, less_one (upward size step) step)

pub up_within : (down : Bool) (shape x : ℕ) → x ≤ shape - 1 → up down shape x ≤ shape - 1
up_within true shape x h = omega arith
up_within false shape x h = h

module _ {t : Tensor} {c : Config} (g : GoodConfig t c) where
  -- in a source dimension, k from 0 to count - 1 stays below the shape
  pub kept_within : (d k : ℕ) → d < t.rank → k ≤ count t c d - 1 → at c.offset d + k * at c.step d ≤ shape_at t d - 1
  unfolding count
  kept_within d k h l =
      let w = size_fits in
      let u = last_kept (shape_at t d) (at c.offset d) (taken t c d) (at c.step d) w.0 (g.step d h).0 w.1 in
      omega (arith, mul-le-mul_right (at c.step d) l)
    where
      size_fits : (0 < taken t c d) × (taken t c d + at c.offset d ≤ shape_at t d)
      size_fits = elim (ℕ_discrete (at c.size d) 0) [
        | yes z ↦ let o = g.offset d h in rw (eq-eqb (at c.size d) 0 z) (omega arith, omega arith)
        | no z ↦ rw (ne_eqb (at c.size d) 0 z) (positive (at c.size d) z, g.size d h)
      ]

  -- what goes no further than the shape in each dimension lies in the span
  box_fits : (u : ℕ → ℕ) → ((i : ℕ) → i < t.rank → u i ≤ shape_at t (dim_of c i) - 1)
      → (1 + sum t.rank (λ i. u i * at (src_strides t) (dim_of c i))) * t.element_size ≤ span t
  unfolding span
  box_fits u l =
      mul-le-mul_right t.element_size
      (omega (
        arith,
        sum_least t.rank
            (λ i. u i * at (src_strides t) (dim_of c i))
            (λ i. (shape_at t (dim_of c i) - 1) * at (src_strides t) (dim_of c i))
            (λ i h. mul-le-mul_right (at (src_strides t) (dim_of c i)) (l i h)),
        sum_perm (at c.perm) (λ d. (shape_at t d - 1) * at (src_strides t) d) t.rank t.rank g.perm g.apart,
      ))

  -- each kept element, and the way from the first kept one to the last
  pub home_fits : (k : ℕ → ℕ) → ((i : ℕ) → i < t.rank → k i ≤ count t c (dim_of c i) - 1)
      → (1 + sum t.rank (λ i. source_at t (dim_of c i) (at c.offset (dim_of c i) + k i * at c.step (dim_of c i)))) * t.element_size ≤ span t
  home_fits k l =
      box_fits (λ i. up (down_at t (dim_of c i)) (shape_at t (dim_of c i)) (at c.offset (dim_of c i) + k i * at c.step (dim_of c i)))
      (λ i h. up_within (down_at t (dim_of c i)) _ _ (kept_within (dim_of c i) (k i) (g.perm i h) (l i h)))

  pub reach_fits : (1 + sum t.rank (λ i. (count t c (dim_of c i) - 1) * at c.step (dim_of c i) * at (src_strides t) (dim_of c i))) * t.element_size ≤ span t
  reach_fits =
      box_fits (λ i. (count t c (dim_of c i) - 1) * at c.step (dim_of c i))
      (λ i h. omega (arith, kept_within (dim_of c i) (count t c (dim_of c i) - 1) (g.perm i h) (omega arith)))

  pub place_fits : (x : ℕ → ℕ) → ((i : ℕ) → i < t.rank → x i < extent_at t c i) → (1 + place t c x) * t.element_size ≤ need t c
  unfolding need place
  place_fits x l =
      mul-le-mul_right t.element_size
      (omega (
        arith,
        sum_least t.rank
            (λ i. (at c.dst_offset i + x i) * at (dst_strides t c) i)
            (λ i. (at c.dst_offset i + at (dst_extents t c) i - 1) * at (dst_strides t c) i)
            (λ i h. mul-le-mul_right (at (dst_strides t c) i) (omega (arith, l i h))),
      ))
