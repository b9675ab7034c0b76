-- The elements of an accepted move stand apart, in the order of their numbers, because its strides fall inward. Assumes nothing.
use Rattle.std.proofs.Common.{◌≡◌, ℕ, suc, ◌+◌, ◌*◌, ◌<◌, ◌≤◌, ◌⊎◌, sym, inl, inr, ⊎_elim, mod-lt, add-mul, arith}
use Rattle.plane.specs.declared.Tensor.{Tensor}
use Rattle.plane.specs.declared.Config.{Config}
use Rattle.plane.specs.Arrays.{at, sum}
use Rattle.plane.specs.Moves.{dst_strides}
use Rattle.plane.specs.Good.{GoodSource, GoodConfig, GoodDst}
use Rattle.plane.proofs.Falling.{strides_within, strides_hold}
use Rattle.plane.proofs.Rules.{dst_extent}
use Rattle.mover.specs.Element.{place}
use Rattle.mover.specs.Moved.{extent_at, total, per_step, coord_of}
use Rattle.mover.proofs.Sums.{sum_add, before_in_bytes}
use Rattle.mover.proofs.Numbers.{number, number_lt, number_digit, spots_apart, spots_differ}

-- the number of the element at coordinates x
unfoldable pub number_at : Tensor → Config → (ℕ → ℕ) → ℕ
number_at t c x = number t.rank (extent_at t c) x

module _ (t : Tensor) (c : Config) (x : ℕ → ℕ) (w : (i : ℕ) → i < t.rank → x i < extent_at t c i) where
  pub number_at_lt : number_at t c x < total t c
  unfolding number_at total
  number_at_lt = number_lt (extent_at t c) x t.rank w

  pub number_at_coord : (i : ℕ) → i < t.rank → coord_of t c (number_at t c x) i ≡ x i
  unfolding number_at coord_of per_step
  number_at_coord i h = number_digit (extent_at t c) x t.rank w i h

module _ {t : Tensor} {c : Config} (g : GoodSource t) (k : GoodConfig t c) (p : GoodDst t c) where
  pub extent_some : (i : ℕ) → i < t.rank → 0 < extent_at t c i
  extent_some i h = (dst_extent k i g.rank.1 h).0

  -- the coordinates of an element's number are below the extents
  pub coord_below : (q i : ℕ) → i < t.rank → coord_of t c q i < extent_at t c i
  unfolding coord_of
  coord_below q i h = mod-lt _ (extent_some i h)

  pub stride_some : (i : ℕ) → i < t.rank → 1 ≤ at (dst_strides t c) i
  stride_some i h = (strides_within t.rank (extent_at t c) (at c.dst_stride) g.rank.1 extent_some p.strides i h).0

  -- each destination stride is at least the next one's times its extent
  stride_falls : (i : ℕ) → suc i < t.rank → at (dst_strides t c) (suc i) * extent_at t c (suc i) ≤ at (dst_strides t c) i
  stride_falls i h =
      strides_hold t.rank (extent_at t c) (at c.dst_stride) g.rank.1 extent_some p.strides i (suc i) (omega arith) h

  -- the offsets' part of a place, and the coordinates'
  place_parts : (x : ℕ → ℕ) → place t c x ≡ sum t.rank (λ i. at c.dst_offset i * at (dst_strides t c) i) + sum t.rank (λ i. x i * at (dst_strides t c) i)
  unfolding place
  place_parts x = sym (sum_add t.rank _ _ _ (λ i h. sym (add-mul (at c.dst_offset i) (x i) (at (dst_strides t c) i))))

  pub places_rise : (q r : ℕ) → q < r → r < total t c → place t c (coord_of t c q) < place t c (coord_of t c r)
  unfolding total coord_of per_step
  places_rise q r l m =
      omega (
        arith,
        place_parts (coord_of t c q),
        place_parts (coord_of t c r),
        spots_apart (extent_at t c) (at (dst_strides t c)) t.rank g.rank.0 extent_some stride_some stride_falls q r l m,
      )

  pub bytes_rise : (q r : ℕ) → q < r → r < total t c → place t c (coord_of t c q) * t.element_size + t.element_size ≤ place t c (coord_of t c r) * t.element_size
  bytes_rise q r l m = before_in_bytes t.element_size (places_rise q r l m)

  -- a place further in front ends before the other begins
  bytes_before : (x y : ℕ → ℕ) → sum t.rank (λ i. x i * at (dst_strides t c) i) < sum t.rank (λ i. y i * at (dst_strides t c) i) → place t c x * t.element_size + t.element_size ≤ place t c y * t.element_size
  bytes_before x y l = before_in_bytes t.element_size (omega (arith, place_parts x, place_parts y))

  -- the bytes of coordinates that differ do not overlap
  pub bytes_apart : (x y : ℕ → ℕ) → ((i : ℕ) → i < t.rank → x i < extent_at t c i) → ((i : ℕ) → i < t.rank → y i < extent_at t c i) → (i : ℕ) → i < t.rank → (x i ≡ y i → ⊥) →
      (place t c x * t.element_size + t.element_size ≤ place t c y * t.element_size) ⊎ (place t c y * t.element_size + t.element_size ≤ place t c x * t.element_size)
  bytes_apart x y a b i h d =
      ⊎_elim
      (λ l. inl (bytes_before x y l))
      (λ l. inr (bytes_before y x l))
      (spots_differ t.rank (extent_at t c) (at (dst_strides t c)) stride_some stride_falls x y a b i h d)
