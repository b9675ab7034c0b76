-- What is claimed of a plane mirrored in one dimension, by the sign of that dimension's written stride (`mirrored` of plane): moved, it is
-- the plane with that coordinate counted from the other end.
use Rattle.std.specs.Prelude.{ℕ, ◌+◌, ◌-◌, ◌*◌, ◌<◌, ◌≡◌, cond, ◌↔◌, List, [], ◌∷◌, eqb, pos, length, get_or, replicate}
use Rattle.plane.specs.declared.Tensor.{Tensor}
use Rattle.plane.specs.declared.Config.{Config}
use Rattle.plane.specs.Arrays.{at, sum}
use Rattle.plane.specs.Planes.{shape_at, stride_at, source_at}
use Rattle.plane.specs.Mirrors.{mirrored}
use Rattle.mover.specs.Element.{dim_of, k_of, source_place}
use Rattle.mover.specs.Moved.{extent_at, move_memory}
use Rattle.mover.specs.Demand2.{KeptAt, byte_at, Accepted}
use Rattle.slices.specs.Claims.{copy_config, element_byte}

-- ---- what is asked for, and what is counted

-- there are four strides, d is a dimension of the plane, and its stride is written: a stride of 0 has no other sign
pub record Mirrorable (t : Tensor) (d : ℕ) : Type 0 where
  pub four : length t.stride ≡ 4
  pub along : d < t.rank
  pub written : stride_at t d ≡ 0 → ⊥

-- coordinate k of dimension e; in d it is counted from the other end
abbrev pub turned : Tensor → ℕ → ℕ → ℕ → ℕ
turned t d e k = cond (eqb e d) (shape_at t d - 1 - k) k

-- the coordinates y counted back: that of d from the other end, and the others as they are
abbrev pub counted_back : Tensor → ℕ → (ℕ → ℕ) → ℕ → ℕ
counted_back t d y e = turned t d e (y e)

-- ---- its elements

-- the mirrored plane's element at y stands where the plane's stands at y counted back
abbrev pub MirroredByte : Type 0
MirroredByte =
    (t : Tensor) (d : ℕ) → Mirrorable t d → (y : ℕ → ℕ) → y d < shape_at t d →
    element_byte (mirrored t d) y ≡ element_byte t (counted_back t d y)

-- mirrored twice in one dimension, it is the plane again
abbrev pub MirroredTwice : Type 0
MirroredTwice = (t : Tensor) (d : ℕ) → mirrored (mirrored t d) d ≡ t

-- ---- its moves, by any configuration

-- each is accepted exactly if the plane's is
abbrev pub MirroredAccepted : Type 0
MirroredAccepted =
    (t : Tensor) (d : ℕ) → Mirrorable t d → (c : Config) (src dst : List ℕ) →
    Accepted (mirrored t d) c src dst ↔ Accepted t c src dst

-- the destination's extents, and where in it each element stands, are the plane's
abbrev pub MirroredPlaces : Type 0
MirroredPlaces =
    (t : Tensor) (d : ℕ) (c : Config) →
    ((i : ℕ) → extent_at (mirrored t d) c i ≡ extent_at t c i) × ((x : ℕ → ℕ) → byte_at (mirrored t d) c x ≡ byte_at t c x)

-- an element that is not padding is read at offset + k x step in each dimension, as the plane's; but in d that is counted back
abbrev pub MirroredSource : Type 0
MirroredSource =
    (t : Tensor) (d : ℕ) → Mirrorable t d → (c : Config) (src dst : List ℕ) → Accepted t c src dst →
    (x : ℕ → ℕ) → ((i : ℕ) → i < t.rank → KeptAt t c x i) →
    source_place (mirrored t d) c x ≡
    sum t.rank (λ i.
    let s = dim_of c i in source_at t s (turned t d s (at c.offset s + k_of c i (x i) * at c.step s)))

-- ---- its copy

-- after an accepted copy, each byte of the element at x is the byte that the plane's copy leaves in the element at x counted back. (That
-- all other bytes are as they were is `AcceptedMeant` of mover)
abbrev pub MirroredCopy : Type 0
MirroredCopy =
    (t : Tensor) (d : ℕ) → Mirrorable t d → (src dst : List ℕ) →
    let c = copy_config t.rank in Accepted t c src dst →
    (x : ℕ → ℕ) → ((i : ℕ) → i < t.rank → x i < shape_at t i) → (b : ℕ) → b < t.element_size →
    get_or (move_memory (mirrored t d) c src dst) (byte_at t c x + b) 0 ≡ get_or (move_memory t c src dst) (byte_at t c (counted_back t d x) + b) 0

-- ---- one written out: two rows of three bytes, each row from its end, and the rows from the last

abbrev pub two_rows : Tensor
two_rows = record { rank = 2; element_size = 1; shape = 2 ∷ 3 ∷ 0 ∷ 0 ∷ []; stride = pos 3 ∷ pos 1 ∷ pos 0 ∷ pos 0 ∷ [] }

abbrev pub copy_of_rows : Tensor → List ℕ
copy_of_rows t = move_memory t (copy_config 2) (1 ∷ 2 ∷ 3 ∷ 4 ∷ 5 ∷ 6 ∷ []) (replicate 6 9)

pub record RowsMirrored : Type 0 where
  pub mirrorable : Mirrorable two_rows 0 × Mirrorable two_rows 1
  pub as_it_is : copy_of_rows two_rows ≡ 1 ∷ 2 ∷ 3 ∷ 4 ∷ 5 ∷ 6 ∷ []
  pub rows : copy_of_rows (mirrored two_rows 0) ≡ 4 ∷ 5 ∷ 6 ∷ 1 ∷ 2 ∷ 3 ∷ []
  pub columns : copy_of_rows (mirrored two_rows 1) ≡ 3 ∷ 2 ∷ 1 ∷ 6 ∷ 5 ∷ 4 ∷ []
  pub both : copy_of_rows (mirrored (mirrored two_rows 0) 1) ≡ 6 ∷ 5 ∷ 4 ∷ 3 ∷ 2 ∷ 1 ∷ []
