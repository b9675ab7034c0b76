-- What is claimed of a sub-tensor that is accepted: its elements are the plane's, and copied it is a slice of the plane.
use Rattle.std.specs.Prelude.{ℕ, ◌+◌, ◌*◌, ◌≤◌, ◌<◌, ◌≡◌, true, cond, ◌↔◌, List, length, get_or}
use Rattle.plane.specs.declared.Tensor.{Tensor}
use Rattle.plane.specs.declared.Config.{Config}
use Rattle.plane.specs.declared.SubConfig.{SubConfig}
use Rattle.plane.specs.Arrays.{at, zeros, sum}
use Rattle.plane.specs.Planes.{shape_at, source_at, span, source_fault}
use Rattle.plane.specs.Helpers.{removed, staying, excess, sub_dim, sub_tensor_of}
use Rattle.ready_made.specs.ReadyMade.{copy_of, slice_of}
use Rattle.mover.specs.Moved.{move_memory}
use Rattle.mover.specs.SubPart.{sub_part}
use Rattle.mover.specs.Demand2.{source_byte, Accepted}

-- ---- what the calls answer

-- the sub-tensor is accepted for a lent source, and these are its numbers
abbrev pub Taken : Tensor → SubConfig → List ℕ → Type 0
Taken t s src = (sub_tensor_of t s (length src)).status ≡ 0

abbrev pub sub_at : Tensor → SubConfig → List ℕ → Tensor
sub_at t s src = (sub_tensor_of t s (length src)).tensor

-- the configurations that copy a plane of rank n, and that slice one, with destination strides 0
abbrev pub copy_config : ℕ → Config
copy_config n = (copy_of n).config

abbrev pub slice_config : ℕ → List ℕ → List ℕ → Config
slice_config n offset size = (slice_of n offset size zeros).config

-- ---- coordinates and places

-- the plane's coordinate, in its dimension d, of the sub-tensor's coordinate x: offset + x in a dimension that stays, the offset in one
-- that is removed
abbrev pub whole_at : Tensor → SubConfig → (ℕ → ℕ) → ℕ → ℕ
whole_at t s x d =
    at s.offset d + cond (removed (at s.size) (excess t s) d) 0 (x (length (staying (at s.size) (excess t s) d)))

-- the byte at which the element of coordinates y stands in a plane
abbrev pub element_byte : Tensor → (ℕ → ℕ) → ℕ
element_byte t y = sum t.rank (λ d. source_at t d (y d)) * t.element_size

-- the copy of a plane reads it there
abbrev pub CopyReads : Type 0
CopyReads = (t : Tensor) → 1 ≤ t.rank → t.rank ≤ 4 → (y : ℕ → ℕ) → source_byte t (copy_config t.rank) y ≡ element_byte t y

-- y are coordinates of a plane
abbrev pub Inside : Tensor → (ℕ → ℕ) → Type 0
Inside t y = (d : ℕ) → d < t.rank → y d < shape_at t d

-- a plane's lowest element stands at byte 0, whatever the signs of its strides, and its highest ends where the span does
pub record SpanMet (t : Tensor) : Type 0 where
  pub lowest : (y : ℕ → ℕ) × Inside t y × (element_byte t y ≡ 0)
  pub highest : (y : ℕ → ℕ) × Inside t y × (element_byte t y + t.element_size ≡ span t)

-- of every accepted one
abbrev pub PlaneSpans : Type 0
PlaneSpans = (t : Tensor) → (source_fault t).status ≡ 0 → SpanMet t

-- ---- the sentences

-- in a dimension that stays the plane's coordinate is the offset and the sub-tensor's own
abbrev pub WholeStays : Type 0
WholeStays =
    (t : Tensor) (s : SubConfig) (src : List ℕ) → Taken t s src → (x : ℕ → ℕ) →
    (i : ℕ) → i < s.rank → whole_at t s x (sub_dim t s i) ≡ at s.offset (sub_dim t s i) + x i

-- in one that is removed it is the offset
abbrev pub WholeRemoved : Type 0
WholeRemoved =
    (t : Tensor) (s : SubConfig) (x : ℕ → ℕ) (d : ℕ) → removed (at s.size) (excess t s) d ≡ true → whole_at t s x d ≡ at s.offset d

-- it is a coordinate of the plane if x is one of the sub-tensor
abbrev pub WholeInside : Type 0
WholeInside =
    (t : Tensor) (s : SubConfig) (src : List ℕ) → Taken t s src → (x : ℕ → ℕ) →
    ((i : ℕ) → i < s.rank → x i < shape_at (sub_at t s src) i) → (d : ℕ) → d < t.rank → whole_at t s x d < shape_at t d

-- from the sub-tensor's byte on, its element at x stands where the plane's stands, if x is one of its coordinates: past its shape a
-- dimension that counts down has no place
abbrev pub SubPlace : Type 0
SubPlace =
    (t : Tensor) (s : SubConfig) (src : List ℕ) → Taken t s src → (x : ℕ → ℕ) →
    ((i : ℕ) → i < s.rank → x i < shape_at (sub_at t s src) i) →
    (sub_tensor_of t s (length src)).byte + element_byte (sub_at t s src) x ≡ element_byte t (whole_at t s x)

-- so the byte at which it starts is that of its lowest element
pub record StartsLowest (t : Tensor) (s : SubConfig) (src : List ℕ) : Type 0 where
  pub there : (x : ℕ → ℕ) × Inside (sub_at t s src) x × ((sub_tensor_of t s (length src)).byte ≡ element_byte t (whole_at t s x))
  pub lowest : (x : ℕ → ℕ) → Inside (sub_at t s src) x → (sub_tensor_of t s (length src)).byte ≤ element_byte t (whole_at t s x)

abbrev pub SubLowest : Type 0
SubLowest = (t : Tensor) (s : SubConfig) (src : List ℕ) → Taken t s src → StartsLowest t s src

-- and each byte of it, in the part of the source that the second call hands back, is the plane's
abbrev pub SubElement : Type 0
SubElement =
    (t : Tensor) (s : SubConfig) (src : List ℕ) → Taken t s src → (x : ℕ → ℕ) →
    ((i : ℕ) → i < s.rank → x i < shape_at (sub_at t s src) i) → (b : ℕ) →
    get_or (sub_part t s src) (element_byte (sub_at t s src) x + b) 0 ≡ get_or src (element_byte t (whole_at t s x) + b) 0

-- the copy of the sub-tensor, from that part, leaves in any destination what the slice of the plane leaves
abbrev pub SubIsSlice : Type 0
SubIsSlice =
    (t : Tensor) (s : SubConfig) (src dst : List ℕ) → Taken t s src →
    move_memory (sub_at t s src) (copy_config s.rank) (sub_part t s src) dst ≡ move_memory t (slice_config t.rank s.offset s.size) src dst

-- and the one is accepted exactly if the other is
abbrev pub SubSliceAccepted : Type 0
SubSliceAccepted =
    (t : Tensor) (s : SubConfig) (src dst : List ℕ) → Taken t s src →
    Accepted (sub_at t s src) (copy_config s.rank) (sub_part t s src) dst ↔ Accepted t (slice_config t.rank s.offset s.size) src dst
