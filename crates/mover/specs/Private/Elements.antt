-- What the engine writes: elements by four destination coordinates, and by their numbers.
use Rattle.std.specs.Prelude.{ℕ, zero, suc, ◌+◌, ◌-◌, ◌*◌, ◌/◌, ◌%◌, ◌^◌, ◌<◌, Bool, cond, ◌&&◌, List, length, take, drop, nat_le, nat_lt}
use Rattle.std.proofs.lemmas.List.Edits.{sets}
use Rattle.plane.specs.Arrays.{at, array}
use Rattle.mover.specs.declared.plan.Axis.{Axis}
use Rattle.mover.specs.declared.plan.Plan.{Plan}
use Rattle.mover.specs.declared.elements.Origin.{Origin}
use Rattle.mover.specs.declared.elements.Origin.TheVariants.{Lent, Inside}

-- the source's bytes: those lent for reading, or the destination's own as they were
abbrev pub source_bytes : Origin → List ℕ → List ℕ
source_bytes (Lent s) d = s.now
source_bytes Inside d = d

-- lent bytes are fewer than a slice can have at the most
abbrev pub Short : Origin → Type 0
Short (Lent s) = length s.now < 2 ^ 63
Short Inside = Unit

-- these bytes, lent
abbrev pub lent : List ℕ → Origin
lent s = Lent (record { ref_ptr = (0, 0); now = s })

-- a destination coordinate c has k = c - pre; it is kept if k is from 0 to count - 1
unfoldable pub axis_kept : Axis → ℕ → Bool
axis_kept x c = nat_le x.pre c && nat_lt (c - x.pre) x.count

unfoldable pub plan_kept : Plan → ℕ → ℕ → ℕ → ℕ → Bool
plan_kept p c0 c1 c2 c3 = axis_kept p.d0 c0 && axis_kept p.d1 c1 && axis_kept p.d2 c2 && axis_kept p.d3 c3

-- k times t bytes on in each dimension
unfoldable pub summed : ℕ → ℕ → ℕ → ℕ → ℕ → ℕ → ℕ → ℕ → ℕ → ℕ
summed b k0 t0 k1 t1 k2 t2 k3 t3 = b + (k0 * t0 + k1 * t1 + k2 * t2 + k3 * t3)

-- the byte of the destination element at the coordinates: c strides in each dimension, from the base
unfoldable pub place_of : Plan → ℕ → ℕ → ℕ → ℕ → ℕ
place_of p c0 c1 c2 c3 =
    summed p.base c0 p.d0.stride c1 p.d1.stride c2 p.d2.stride c3 p.d3.stride

-- the byte of the source element for them: k jumps in each dimension, from the home, as 64 bits count
unfoldable pub home_of : Plan → ℕ → ℕ → ℕ → ℕ → ℕ
home_of p c0 c1 c2 c3 =
    summed p.home
    (c0 - p.d0.pre) p.d0.jump (c1 - p.d1.pre) p.d1.jump
    (c2 - p.d2.pre) p.d2.jump (c3 - p.d3.pre) p.d3.jump
    % 2 ^ 64

-- the bytes of a padded element: the first of these four
abbrev pub padding : ℕ → List ℕ → List ℕ
padding size pad = take size (array (at pad))

-- the element's bytes: the source's if every coordinate is kept, else padding
unfoldable pub plan_bytes : Plan → List ℕ → ℕ → ℕ → ℕ → ℕ → List ℕ
plan_bytes p s c0 c1 c2 c3 =
    cond (plan_kept p c0 c1 c2 c3) (take p.size (drop (home_of p c0 c1 c2 c3) s)) (padding p.size p.pad)

-- the destination d with the element at the coordinates stored
unfoldable pub put_at : Plan → List ℕ → ℕ → ℕ → ℕ → ℕ → List ℕ → List ℕ
put_at p s c0 c1 c2 c3 d = sets d (place_of p c0 c1 c2 c3) (plan_bytes p s c0 c1 c2 c3)

unfoldable pub plan_total : Plan → ℕ
plan_total p = p.d0.extent * p.d1.extent * p.d2.extent * p.d3.extent

-- the coordinates of destination element number q: the last coordinate is the fastest
abbrev pub co3 : Plan → ℕ → ℕ
co3 p q = q % p.d3.extent

abbrev pub co2 : Plan → ℕ → ℕ
co2 p q = q / p.d3.extent % p.d2.extent

abbrev pub co1 : Plan → ℕ → ℕ
co1 p q = q / p.d3.extent / p.d2.extent % p.d1.extent

abbrev pub co0 : Plan → ℕ → ℕ
co0 p q = q / p.d3.extent / p.d2.extent / p.d1.extent

-- the destination d with element number q stored
unfoldable pub put_number : Plan → List ℕ → ℕ → List ℕ → List ℕ
put_number p s q d = put_at p s (co0 p q) (co1 p q) (co2 p q) (co3 p q) d

-- the destination d with the n elements from number `from` on stored, in order
unfoldable pub moved_by : Plan → List ℕ → ℕ → ℕ → List ℕ → List ℕ
moved_by p s from zero d = d
moved_by p s from (suc n) d = put_number p s (from + n) (moved_by p s from n d)

-- what the engine leaves of the destination d
abbrev pub moved_from : Origin → Plan → List ℕ → ℕ → ℕ → List ℕ
moved_from o p d from n = moved_by p (source_bytes o d) from n d
