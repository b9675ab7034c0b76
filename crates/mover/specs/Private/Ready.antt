-- What the checks establish of a plan and the bytes that it is made over, and a move within one memory.
use Rattle.std.specs.Prelude.{◌≡◌, ℕ, ◌+◌, ◌-◌, ◌^◌, ◌<◌, ◌≤◌, true, List, length}
use Rattle.std.proofs.lemmas.List.Edits.{sets}
use Rattle.parts.specs.Parts.{bytes_of}
use Rattle.parts.specs.declared.Part.{Part}
use Rattle.mover.specs.declared.plan.Axis.{Axis}
use Rattle.mover.specs.declared.plan.Plan.{Plan}
use Rattle.mover.specs.declared.elements.Origin.{Origin}
use Rattle.mover.specs.declared.elements.Origin.TheVariants.{Inside}
use Rattle.mover.specs.Private.Elements.{source_bytes, Short, plan_kept, summed, place_of, home_of, plan_total, co0, co1, co2, co3, moved_by}
use Rattle.mover.specs.Private.Plans.{jump_length}
use Rattle.plane.specs.Planes.{Sized}
use Rattle.mover.specs.Private.Runs.{BytesApart}

-- how many bytes the highest source element that can be kept starts above the lowest
unfoldable pub reach_of : Plan → ℕ
reach_of p =
    summed 0
    (p.d0.count - 1) (jump_length p.d0.jump) (p.d1.count - 1) (jump_length p.d1.jump)
    (p.d2.count - 1) (jump_length p.d2.jump) (p.d3.count - 1) (jump_length p.d3.jump)

-- past the last byte of a destination element
unfoldable pub place_end : Plan → ℕ
place_end p =
    summed p.base
    (p.d0.extent - 1) p.d0.stride (p.d1.extent - 1) p.d1.stride
    (p.d2.extent - 1) p.d2.stride (p.d3.extent - 1) p.d3.stride
    + p.size

-- something of a dimension is kept, and lies in its extent; its jump is a number of 64 bits
pub record GoodAxis (x : Axis) : Type 0 where
  pub some : 0 < x.count
  pub within : x.pre + x.count ≤ x.extent
  pub fits : x.jump < 2 ^ 64

pub record GoodAxes (p : Plan) : Type 0 where
  pub in0 : GoodAxis p.d0
  pub in1 : GoodAxis p.d1
  pub in2 : GoodAxis p.d2
  pub in3 : GoodAxis p.d3

-- the byte of destination element number q
unfoldable pub place_by : Plan → ℕ → ℕ
place_by p q = place_of p (co0 p q) (co1 p q) (co2 p q) (co3 p q)

-- elements stand apart, in the order of their numbers
abbrev pub Rising : Plan → Type 0
Rising p = (q r : ℕ) → q < r → r < plan_total p → place_by p q + p.size ≤ place_by p r

-- what the engine asks of a plan, and of the bytes of source and destination
pub record Ready (o : Origin) (p : Plan) (d : List ℕ) : Type 0 where
  pub short : Short o
  pub sized : Sized p.size
  pub axes : GoodAxes p
  pub few : plan_total p < 2 ^ 64
  pub rising : Rising p
  pub reach : reach_of p < 2 ^ 64
  pub need : place_end p ≤ length d
  -- each source element that is kept lies in the source, and apart from the destination
  pub span : (c0 c1 c2 c3 : ℕ) → plan_kept p c0 c1 c2 c3 ≡ true → home_of p c0 c1 c2 c3 + p.size ≤ length (source_bytes o d)
  pub apart : (c0 c1 c2 c3 : ℕ) → plan_kept p c0 c1 c2 c3 ≡ true
      → BytesApart o (home_of p c0 c1 c2 c3) (home_of p c0 c1 c2 c3 + p.size) p.base (place_end p)

pub record InExtents (p : Plan) (c0 c1 c2 c3 : ℕ) : Type 0 where
  pub in0 : c0 < p.d0.extent
  pub in1 : c1 < p.d1.extent
  pub in2 : c2 < p.d2.extent
  pub in3 : c3 < p.d3.extent

-- ---- a move within one memory

-- a part lies in a memory, and two parts share no byte
abbrev pub LiesIn : Part → List ℕ → Type 0
LiesIn p m = p.start + p.length ≤ length m

abbrev pub PartsApart : Part → Part → Type 0
PartsApart p q = BytesApart Inside p.start (p.start + p.length) q.start (q.start + q.length)

-- the memory m with n elements moved from its part s to its part d
abbrev pub moved_within : Plan → Part → Part → List ℕ → ℕ → ℕ → List ℕ
moved_within p s d m from n = sets m d.start (moved_by p (bytes_of s m) from n (bytes_of d m))

-- the plan of a move between parts of one memory that start at a and b
unfoldable pub placed_at : ℕ → ℕ → Plan → Plan
placed_at a b p =
    record {
      size = p.size;
      pad = p.pad;
      home = a + p.home;
      base = b + p.base;
      d0 = p.d0;
      d1 = p.d1;
      d2 = p.d2;
      d3 = p.d3;
    }
