-- Runs: neighbours in a row, or rows, that are all kept or all padding, and what moving one leaves.
use Rattle.std.specs.Prelude.{◌≡◌, ℕ, zero, suc, ◌+◌, ◌<◌, ◌≤◌, Bool, cond, ◌&&◌, ◌⊎◌, List, length, take, drop}
use Rattle.std.proofs.lemmas.List.Edits.{sets}
use Rattle.plane.specs.Planes.{Sized}
use Rattle.mover.specs.declared.plan.Axis.{Axis}
use Rattle.mover.specs.declared.plan.Plan.{Plan}
use Rattle.mover.specs.declared.spots.Spot.{Spot}
use Rattle.mover.specs.declared.elements.Course.{Course}
use Rattle.mover.specs.declared.elements.Origin.{Origin}
use Rattle.mover.specs.declared.elements.Origin.TheVariants.{Lent, Inside}
use Rattle.mover.specs.declared.alike.Run.{Run}
use Rattle.mover.specs.Private.Elements.{source_bytes, Short, axis_kept, padding}
use Rattle.mover.specs.Private.Adding.{along}

-- ---- where a run ends

-- r is the run from coordinate c on, cut to `most`; `outer` tells whether the other coordinates are kept. A run that is not cut ends
-- before the first kept element of the row, or after the last
pub record Alike (x : Axis) (outer : Bool) (c most : ℕ) (r : Run) : Type 0 where
  pub some : 0 < r.n
  pub cut : r.n ≤ most
  pub row : c + r.n ≤ x.extent
  pub same : (k : ℕ) → k < r.n → (outer && axis_kept x (c + k)) ≡ r.kept
  pub full : r.n < most → (c + r.n ≤ x.pre) ⊎ (x.pre + x.count ≤ c + r.n)

-- the course of a run of a plan's rows, at a spot
abbrev pub course_of : Plan → Spot → Run → Course
course_of p u r = record { at = u.at; jump = p.d3.jump; to = u.to; stride = p.d3.stride; size = p.size; pad = p.pad; n = r.n }

-- ---- what is left of the destination d

-- an element of the source, at `at`, stored at `to`
abbrev pub element_copied : Origin → List ℕ → ℕ → ℕ → ℕ → List ℕ
element_copied o d at to size = sets d to (take size (drop at (source_bytes o d)))

-- n elements, whose bytes e tells, the first at `to` and each a stride further
unfoldable pub run_stored : (ℕ → List ℕ) → ℕ → ℕ → ℕ → List ℕ → List ℕ
run_stored e to stride zero d = d
run_stored e to stride (suc n) d = sets (run_stored e to stride n d) (along to stride n) (e n)

-- the bytes of element k of a course: the source's, padding, and either
abbrev pub kept_bytes : List ℕ → Course → ℕ → List ℕ
kept_bytes s c k = take c.size (drop (along c.at c.jump k) s)

abbrev pub pad_bytes : Course → ℕ → List ℕ
pad_bytes c k = padding c.size c.pad

abbrev pub either_bytes : Bool → List ℕ → Course → ℕ → List ℕ
either_bytes kept s c k = cond kept (kept_bytes s c k) (pad_bytes c k)

-- all elements of a course stored, and of a run
abbrev pub run_copied : Origin → List ℕ → Course → List ℕ
run_copied o d c = run_stored (kept_bytes (source_bytes o d) c) c.to c.stride c.n d

abbrev pub run_padded : List ℕ → Course → List ℕ
run_padded d c = run_stored (pad_bytes c) c.to c.stride c.n d

-- either
abbrev pub course_moved : Origin → Bool → List ℕ → Course → List ℕ
course_moved o kept d c = run_stored (either_bytes kept (source_bytes o d) c) c.to c.stride c.n d

abbrev pub run_moved : Origin → Plan → List ℕ → Spot → Run → List ℕ
run_moved o p d u r = course_moved o r.kept d (course_of p u r)

-- ---- what a run asks

-- n elements, the first at a and each j further, lie in l bytes
abbrev pub Held : ℕ → ℕ → ℕ → ℕ → ℕ → Type 0
Held l a j size n = (k : ℕ) → k < n → along a j k + size ≤ l

-- bytes a to a' and b to b', of one memory, are apart
abbrev pub BytesApart : Origin → ℕ → ℕ → ℕ → ℕ → Type 0
BytesApart (Lent s) a a' b b' = Unit
BytesApart Inside a a' b b' = (a' ≤ b) ⊎ (b' ≤ a)

-- no element of a course's source shares a byte with one of its destination
abbrev pub Parted : Origin → Course → Type 0
Parted o c =
    (i k : ℕ) → i < c.n → k < c.n
    → BytesApart o (along c.at c.jump i) (along c.at c.jump i + c.size) (along c.to c.stride k) (along c.to c.stride k + c.size)

-- what n bytes side by side ask, where there are any
pub record Blocked (o : Origin) (d : List ℕ) (at to n : ℕ) : Type 0 where
  pub read : 0 < n → at + n ≤ length (source_bytes o d)
  pub write : 0 < n → to + n ≤ length d
  pub apart : BytesApart o at (at + n) to (to + n)

-- single bytes, every second of the source's, to bytes side by side
pub record Evens (c : Course) : Type 0 where
  pub size : c.size ≡ 1
  pub stride : c.stride ≡ 1
  pub jump : c.jump ≡ 2

-- what a run asks of the destination d, and one of kept elements of the source
pub record Writable (d : List ℕ) (c : Course) : Type 0 where
  pub sized : Sized c.size
  pub held : Held (length d) c.to c.stride c.size c.n

pub record Readable (o : Origin) (d : List ℕ) (c : Course) : Type 0 where
  pub short : Short o
  pub held : Held (length (source_bytes o d)) c.at c.jump c.size c.n
  pub parted : Parted o c
