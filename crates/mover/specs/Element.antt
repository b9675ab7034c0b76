-- One destination element: the coordinates are a function x of the destination dimension i, which is source dimension perm i.
use Rattle.std.specs.Prelude.{ℕ, ◌+◌, ◌-◌, ◌*◌, Bool, cond, ◌&&◌, List, take, drop, nat_le, nat_lt}
use Rattle.plane.specs.declared.Tensor.{Tensor}
use Rattle.plane.specs.declared.Config.{Config}
use Rattle.plane.specs.Arrays.{at, sum, every}
use Rattle.plane.specs.Numbers.{little}
use Rattle.plane.specs.Planes.{source_at}
use Rattle.plane.specs.Moves.{count, dst_strides}

abbrev pub dim_of : Config → ℕ → ℕ
dim_of c i = at c.perm i

-- k = c[i] - pre[s], where c[i] is at least pre[s]; else 0, and `is_kept` tells
abbrev pub k_of : Config → ℕ → ℕ → ℕ
k_of c i x = x - at c.pre (dim_of c i)

-- k is from 0 to count - 1: c[i] is at least pre[s], and k below the count
unfoldable pub is_kept : Tensor → Config → ℕ → ℕ → Bool
is_kept t c i x = nat_le (at c.pre (dim_of c i)) x && nat_lt (k_of c i x) (count t c (dim_of c i))

-- every k is so
unfoldable pub are_kept : Tensor → Config → (ℕ → ℕ) → Bool
are_kept t c x = every t.rank (λ i. is_kept t c i (x i))

-- where its source element stands, at offset + k x step in each dimension: in elements up from the source's lowest
unfoldable pub source_place : Tensor → Config → (ℕ → ℕ) → ℕ
source_place t c x =
    sum t.rank (λ i. source_at t (dim_of c i) (at c.offset (dim_of c i) + k_of c i (x i) * at c.step (dim_of c i)))

-- where it stands itself: the sum of (destination offset + c) x stride, in elements from the destination's first byte on
unfoldable pub place : Tensor → Config → (ℕ → ℕ) → ℕ
place t c x = sum t.rank (λ i. (at c.dst_offset i + x i) * at (dst_strides t c) i)

-- the bytes of a padded element: the low bytes of the fill, as many as the element size, the lowest first
unfoldable pub padded : Tensor → Config → List ℕ
padded t c = little t.element_size c.fill

-- its bytes: the source element's if every k is from 0 to count - 1, else those of a padded element
unfoldable pub element : Tensor → Config → List ℕ → (ℕ → ℕ) → List ℕ
element t c src x =
    cond (are_kept t c x) (take t.element_size (drop (source_place t c x * t.element_size) src)) (padded t c)
