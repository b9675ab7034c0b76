-- What the contracts of private functions cite. No reader of a public contract needs this file.
use Rattle.std.specs.Prelude.{ℕ, ◌+◌, ◌-◌, ◌*◌, ◌≤◌, ◌<◌, ◌≡◌, List, ℤ, pos, length, ltb}
use Rattle.plane.specs.declared.Tensor.{Tensor}
use Rattle.plane.specs.declared.Config.{Config}
use Rattle.plane.specs.declared.sub.Staying.{Staying}
use Rattle.plane.specs.Arrays.{at, firsts, firsts_or, sum, how_many}
use Rattle.plane.specs.Planes.{shape_at, src_strides, span}
use Rattle.plane.specs.Moves.{extent, accepted}
use Rattle.plane.specs.declared.SubConfig.{SubConfig}
use Rattle.plane.specs.declared.SubTensor.{SubTensor}
use Rattle.plane.specs.declared.Source.{Source}
use Rattle.plane.specs.declared.RoomAnswer.{RoomAnswer}
use Rattle.faults.specs.declared.Fault.{Fault}
use Rattle.faults.specs.Faults.{none, overall, first_fault}
use Rattle.plane.specs.Helpers.{is_unit, staying, sub_of, sub_byte}

-- ---- what they ask

-- what is asked at d and answers b (where r d b) answers as f does below n
abbrev pub Tells : {B : Type 0} → (ℕ → B → Type 0) → ℕ → (ℕ → B) → Type 0
Tells {B} r n f = (d : ℕ) (b : B) → d < n → r d b → b ≡ f d

-- the kept count of source dimension d can be worked out: its offset is within the shape, and its step is not 0
abbrev pub Countable : Tensor → Config → ℕ → Type 0
Countable t c d = (at c.offset d ≤ shape_at t d) × (0 < at c.step d)

-- and its extent is within the limit
abbrev pub Extensive : Tensor → Config → ℕ → Type 0
Extensive t c d = (at c.offset d ≤ shape_at t d) × (0 < at c.step d) × (extent t c d ≤ 65535)

-- entry i is an extent
abbrev pub IsExtent : List ℕ → ℕ → Type 0
IsExtent extent i = (0 < at extent i) × (at extent i ≤ 65535)

-- in dimension d a box, from this offset on and of this extent, is not empty, and ends so early that sums over it fit 64 bits
abbrev pub IsBox : List ℕ → List ℕ → ℕ → Type 0
IsBox offset extent d = (0 < at extent d) × (at offset d + at extent d ≤ 131072)

-- size elements from offset on are some of the shape's
pub record IsPart (shape offset size : ℕ) : Type 0 where
  pub some : 0 < size
  pub fits : offset + size ≤ shape
  pub most : shape ≤ 65535

-- ---- what they answer

-- the elements from the first to the last coordinate of a box that starts at these offsets
abbrev pub reach : ℕ → (ℕ → ℕ) → (ℕ → ℕ) → (ℕ → ℕ) → ℕ
reach n offset extent stride = 1 + sum n (λ d. (offset d + extent d - 1) * stride d)

-- 15, where fewer than excess dimensions are units
abbrev pub units_fault : ℕ → (ℕ → ℕ) → ℕ → Fault
units_fault n size excess = first_fault (overall 15 (ltb (how_many n (is_unit size)) excess))

-- the sizes and strides of the dimensions that stay
unfoldable pub staying_of : ℕ → (ℕ → ℕ) → (ℕ → ℤ) → ℕ → Staying
staying_of n size stride excess = record {
  shape = firsts (length (staying size excess n)) (λ i. size (at (staying size excess n) i));
  stride = firsts_or (pos 0) (length (staying size excess n)) (λ i. stride (at (staying size excess n) i));
}

-- what an accepted tensor record, an accepted room question and an accepted sub-tensor answer
abbrev pub source_accepted : Tensor → Source
source_accepted t = record { fault = none; stride = src_strides t; span = span t }

abbrev pub room_accepted : Tensor → Config → RoomAnswer
room_accepted t c = record { answer = accepted t c; span = span t }

abbrev pub sub_accepted : Tensor → SubConfig → SubTensor
sub_accepted t s = record { status = 0; dim = 0; tensor = sub_of t s; byte = sub_byte t s }
