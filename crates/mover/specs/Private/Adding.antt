-- Where elements stand, by adding: a spot is a byte of the destination and one of the source. Both are sums as 64 bits count, so what
-- lies behind the last element needs no bound, and a jump down is the same add, of 2 ^ 64 less its length.
use Rattle.std.specs.Prelude.{ℕ, ◌+◌, ◌-◌, ◌*◌, ◌%◌, ◌^◌, min, cond, ◌&&◌, nat_lt}
use Rattle.mover.specs.declared.plan.Axis.{Axis}
use Rattle.mover.specs.declared.plan.Plan.{Plan}
use Rattle.mover.specs.declared.spots.Spot.{Spot}
use Rattle.mover.specs.declared.spots.Spots.{Spots}
use Rattle.mover.specs.declared.start.Beginning.{Beginning}
use Rattle.mover.specs.Private.Elements.{co0, co1, co2, co3}

-- k times j on from a
unfoldable pub along : ℕ → ℕ → ℕ → ℕ
along a j k = (a + k * j) % 2 ^ 64

-- how many jumps the source is on at coordinate c: those to the nearest coordinate that is kept
unfoldable pub jumps_of : Axis → ℕ → ℕ
jumps_of x c = min (c - x.pre) (x.count - 1)

-- the spot at coordinate c of a dimension, from that at its start
unfoldable pub spot_at : Spot → Axis → ℕ → Spot
spot_at s x c = record { to = along s.to x.stride c; at = along s.at x.jump (jumps_of x c) }

-- the spot at which all coordinates are 0
abbrev pub first_spot : Plan → Spot
first_spot p = record { to = p.base; at = p.home }

-- element number q: its coordinates, and where its slab starts, its layer in that, its row in that, and itself
unfoldable pub beginning_of : Plan → ℕ → Beginning
beginning_of p q =
    let u0 = spot_at (first_spot p) p.d0 (co0 p q) in
    let u1 = spot_at u0 p.d1 (co1 p q) in
    let u2 = spot_at u1 p.d2 (co2 p q) in
    record {
      c0 = co0 p q;
      c1 = co1 p q;
      c2 = co2 p q;
      c3 = co3 p q;
      spots = record { slab = u0; layer = u1; row = u2; here = spot_at u2 p.d3 (co3 p q) };
    }

-- the spot at coordinate c of a dimension, from that at the one before: the source goes on between two that are kept
unfoldable pub onward_of : Spot → Axis → ℕ → Spot
onward_of s x c = record {
  to = (s.to + x.stride) % 2 ^ 64;
  at = cond (nat_lt x.pre c && nat_lt (c - x.pre) x.count) ((s.at + x.jump) % 2 ^ 64) s.at;
}

-- the spots of the next row, layer and slab, which is number c: what is inside it starts where it does
abbrev pub next_row : Spots → Axis → ℕ → Spots
next_row s x c = let n = onward_of s.row x c in record { slab = s.slab; layer = s.layer; row = n; here = n }

abbrev pub next_layer : Spots → Axis → ℕ → Spots
next_layer s x c = let n = onward_of s.layer x c in record { slab = s.slab; layer = n; row = n; here = n }

abbrev pub next_slab : Spots → Axis → ℕ → Spots
next_slab s x c = let n = onward_of s.slab x c in record { slab = n; layer = n; row = n; here = n }

-- the spots behind a run of n elements: of the source's place nothing is worked out
abbrev pub after_run : Spots → Axis → ℕ → Spots
after_run s x n =
    record {
      slab = s.slab;
      layer = s.layer;
      row = s.row;
      here = record { to = along s.here.to x.stride n; at = s.here.at };
    }
