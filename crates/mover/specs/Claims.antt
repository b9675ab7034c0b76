-- What the theorems claim besides demand 2 and the work: refusals of a job, how far a move reaches, which bytes a part has, that elements
-- stand on their boundaries, which jobs agree, and what the layer above may use.
use Rattle.std.specs.Prelude.{◌≡◌, ℕ, ◌+◌, ◌-◌, ◌*◌, ◌%◌, ◌<◌, ◌≤◌, true, false, List, length, ◌≢◌, nat_lt, slice_index}
use Rattle.faults.specs.Exactness.{Exact}
use Rattle.plane.specs.declared.Tensor.{Tensor}
use Rattle.plane.specs.declared.Config.{Config}
use Rattle.plane.specs.declared.SubConfig.{SubConfig}
use Rattle.plane.specs.Arrays.{at, sum}
use Rattle.plane.specs.Moves.{dst_strides, need}
use Rattle.plane.specs.Helpers.{sub_byte}
use Rattle.plane.specs.Numbers.{little}
use Rattle.plane.specs.Unseen.{SameTensor, SameArrays, UnseenSub}
use Rattle.parts.specs.declared.Part.{Part}
use Rattle.parts.specs.Parts.{Has, Apart, bytes_of}
use Rattle.mover.specs.declared.Job.{Job}
use Rattle.mover.specs.Moved.{total, moved, move_memory}
use Rattle.mover.specs.Within.{leaves, off_boundary, meets, job_rules, job_fault, total_of, verdict_of, advanced_by, advance_of, advance_memory}
use Rattle.mover.specs.SubPart.{sub_part}
use Rattle.mover.specs.Pixel.{pixel_of}
use Rattle.mover.specs.Demand2.{IsCoordinate, KeptAt, byte_at, end_at, source_byte, Accepted}

-- ---- Refusals of a move inside one memory

-- every answer is exact for the rules of a job
abbrev pub JobExact : Type 0
JobExact = (n : ℕ) (j : Job) → let a = verdict_of n j in Exact (job_rules n j) a.status a.dim

abbrev pub AdvanceExact : Type 0
AdvanceExact =
    (j : Job) (from budget : ℕ) (m : List ℕ) →
    let a = advance_of j from budget m in Exact (job_rules (length m) j) a.status a.dim

-- besides its number and dimension a refused one is 0
abbrev pub JobZeros : Type 0
JobZeros = (n : ℕ) (j : Job) → let a = verdict_of n j in (a.status ≢ 0) → a.total ≡ 0

abbrev pub AdvanceZeros : Type 0
AdvanceZeros =
    (j : Job) (from budget : ℕ) (m : List ℕ) → let a = advance_of j from budget m in (a.status ≢ 0) → a.count ≡ 0

-- a refused stretch changes no byte
abbrev pub AdvanceUnchanged : Type 0
AdvanceUnchanged =
    (j : Job) (from budget : ℕ) (m : List ℕ) → ((advance_of j from budget m).status ≢ 0) → advance_memory j from budget m ≡ m

-- ---- How far an accepted move reaches

-- each element ends within the need
abbrev pub NeedBounds : Type 0
NeedBounds =
    (t : Tensor) (c : Config) (src dst : List ℕ) → Accepted t c src dst → (x : ℕ → ℕ) → IsCoordinate t c x → end_at t c x ≤ need t c

-- no row runs past its end: what offsets and coordinates come to, in dimension i and those after it, is less than one step of the
-- dimension before i
abbrev pub RowsEnd : Type 0
RowsEnd =
    (t : Tensor) (c : Config) (src dst : List ℕ) → Accepted t c src dst → (x : ℕ → ℕ) → IsCoordinate t c x →
    (i : ℕ) → 0 < i → i < t.rank →
    sum (t.rank - i) (λ k. (at c.dst_offset (i + k) + x (i + k)) * at (dst_strides t c) (i + k)) < at (dst_strides t c) (i - 1)

-- ---- Parts

-- two parts meet exactly if they share a byte
abbrev pub MeetsShared : Type 0
MeetsShared = (p q : Part) → meets p q ≡ true → (i : ℕ) × Has p i × Has q i

abbrev pub SharedMeets : Type 0
SharedMeets = (p q : Part) (i : ℕ) → Has p i → Has q i → meets p q ≡ true

abbrev pub MeetsApart : Type 0
MeetsApart = (p q : Part) → meets p q ≡ false → Apart p q

-- a part leaves a memory of n bytes exactly if it ends past it
abbrev pub LeavesEnd : Type 0
LeavesEnd = (n : ℕ) (p : Part) → leaves n p ≡ nat_lt n (p.start + p.length)

-- one that has bytes, exactly if one of them lies outside
abbrev pub LeavesByte : Type 0
LeavesByte = (n : ℕ) (p : Part) → leaves n p ≡ true → 0 < p.length → (i : ℕ) × Has p i × (n ≤ i)

abbrev pub ByteLeaves : Type 0
ByteLeaves = (n : ℕ) (p : Part) (i : ℕ) → Has p i → n ≤ i → leaves n p ≡ true

-- an empty one, exactly if it starts past the end
abbrev pub EmptyLeaves : Type 0
EmptyLeaves = (n : ℕ) (p : Part) → p.length ≡ 0 → leaves n p ≡ nat_lt n p.start

-- ---- Element boundaries

-- byte k of a memory is a multiple of the element size z; where z is 3 nothing is said
abbrev pub Boundary : ℕ → ℕ → Type 0
Boundary z k = (z ≢ 3) → k % z ≡ 0

-- every element of the job begins at such a byte: in the destination part that of each coordinate, and if it is kept its source element
pub record OnBoundaries (j : Job) : Type 0 where
  pub destination : let t = j.tensor in let c = j.config in
      (x : ℕ → ℕ) → IsCoordinate t c x → Boundary t.element_size (j.destination.start + byte_at t c x)
  pub source : let t = j.tensor in let c = j.config in
      (x : ℕ → ℕ) → IsCoordinate t c x → ((i : ℕ) → i < t.rank → KeptAt t c x i) →
      Boundary t.element_size (j.source.start + source_byte t c x)

-- so it is of every job that no number refuses
abbrev pub JobOnBoundaries : Type 0
JobOnBoundaries = (n : ℕ) (j : Job) → (job_fault n j).status ≡ 0 → OnBoundaries j

-- and of none that 34 refuses
abbrev pub JobOffBoundaries : Type 0
JobOffBoundaries = (n : ℕ) (j : Job) → (job_fault n j).status ≡ 34 → OnBoundaries j → ⊥

-- a part that starts at a sub-tensor of a plane is off a boundary just if the plane's own part is
abbrev pub SubOnBoundary : Type 0
SubOnBoundary =
    (t : Tensor) (s : SubConfig) (p q : Part) → q.start ≡ p.start + sub_byte t s →
    off_boundary t.element_size q ≡ off_boundary t.element_size p

-- ---- Entries past the rank, and the fill

-- the fills of two configurations put the same into a padded element of z bytes
abbrev pub SameFill : ℕ → Config → Config → Type 0
SameFill z c c' = little z c.fill ≡ little z c'.fill

-- jobs with the same parts, whose records and configurations agree below the rank; their fills may differ
pub record SameAsked (j j' : Job) : Type 0 where
  pub source : j.source ≡ j'.source
  pub destination : j.destination ≡ j'.destination
  pub tensor : SameTensor j.tensor j'.tensor
  pub arrays : SameArrays j.tensor.rank j.config j'.config

-- and whose fills put the same into padding: their bytes past the element size may differ
pub record SameJob (j j' : Job) : Type 0 where
  pub asked : SameAsked j j'
  pub fill : SameFill j.tensor.element_size j.config j'.config

-- so every call that is handed such a record, configuration or job, and the memory that it leaves. What is answered does not hang on
-- the fill: nothing is refused for it
pub record MovesUnseen : Type 0 where
  pub move : (src dst : List ℕ) (t t' : Tensor) → SameTensor t t' → (c c' : Config) → SameArrays t.rank c c' →
      SameFill t.element_size c c' → move_memory t c src dst ≡ move_memory t' c' src dst
  pub part : (src : List ℕ) → UnseenSub (λ t s. sub_part t s src)
  pub job : (n : ℕ) (j j' : Job) → SameAsked j j' → verdict_of n j ≡ verdict_of n j'
  pub advance : (from budget : ℕ) (m : List ℕ) (j j' : Job) → SameAsked j j' → advance_of j from budget m ≡ advance_of j' from budget m
  pub memory : (from budget : ℕ) (m : List ℕ) (j j' : Job) → SameJob j j' → advance_memory j from budget m ≡ advance_memory j' from budget m

-- and a pixel, of which entries of its coordinate past the rank are not looked at either. Of its answer only the bytes hang on the fill
abbrev pub PixelUnseen : Type 0
PixelUnseen =
    (src x x' : List ℕ) (t t' : Tensor) → SameTensor t t' → (c c' : Config) → SameArrays t.rank c c' →
    ((i : ℕ) → i < t.rank → at x i ≡ at x' i) →
    let p = pixel_of t c src x in let p' = pixel_of t' c' src x' in
    (p.status ≡ p'.status) × (p.dim ≡ p'.dim) × (p.padding ≡ p'.padding) ×
    (SameFill t.element_size c c' → p.bytes ≡ p'.bytes)

-- ---- What the layer above may use

-- the elements of a move from the source src
pub record MovedLaws (t : Tensor) (c : Config) (src : List ℕ) : Type 0 where
  -- no element moved changes nothing
  pub none : (from : ℕ) (dst : List ℕ) → moved t c src from 0 dst ≡ dst
  -- k elements, then l more, are k + l
  pub more : (n k l : ℕ) (dst : List ℕ) → moved t c src (n + k) l (moved t c src n k dst) ≡ moved t c src n (k + l) dst
  -- the destination keeps its length
  pub long : (from n : ℕ) (dst : List ℕ) → length (moved t c src from n dst) ≡ length dst
  -- all of them are the whole move, where it is accepted
  pub whole : (dst : List ℕ) → Accepted t c src dst → move_memory t c src dst ≡ moved t c src 0 (total t c) dst

abbrev pub MoveLaws : Type 0
MoveLaws = (t : Tensor) (c : Config) (src : List ℕ) → MovedLaws t c src

-- what is so of a job over the memory m that no number refuses
pub record PassingJob (m : List ℕ) (j : Job) : Type 0 where
  -- its parts lie in the memory, and share no byte
  pub source : j.source.start + j.source.length ≤ length m
  pub destination : j.destination.start + j.destination.length ≤ length m
  pub apart : Apart j.source j.destination
  -- the move between them is accepted
  pub accepted : Accepted j.tensor j.config (bytes_of j.source m) (bytes_of j.destination m)
  -- no element moved changes nothing; k elements, then l more, are k + l
  pub none : (from : ℕ) → advanced_by j from 0 m ≡ m
  pub more : (n k l : ℕ) → advanced_by j (n + k) l (advanced_by j n k m) ≡ advanced_by j n (k + l) m
  -- all of them leave in the destination part what the whole move leaves there
  pub whole : bytes_of j.destination (advanced_by j 0 (total_of j) m)
      ≡ move_memory j.tensor j.config (bytes_of j.source m) (bytes_of j.destination m)
  -- only bytes of the destination part change, and the memory keeps its length
  pub outside : (from n k : ℕ) → (Has j.destination k → ⊥) → slice_index (advanced_by j from n m) k ≡ slice_index m k
  pub long : (from n : ℕ) → length (advanced_by j from n m) ≡ length m

-- of every such job
abbrev pub JobLaws : Type 0
JobLaws = (m : List ℕ) (j : Job) → (job_fault (length m) j).status ≡ 0 → PassingJob m j
