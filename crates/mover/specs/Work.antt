-- How much is moved: what a record says of itself is not believed. No accepted move has more elements than the destination has bytes,
-- and no stretch changes more bytes than its budget pays for.
use Rattle.std.specs.Prelude.{◌≡◌, ℕ, ◌*◌, ◌≤◌, not, List, length, ◌==◌}
use Rattle.plane.specs.declared.Tensor.{Tensor}
use Rattle.plane.specs.declared.Config.{Config}
use Rattle.plane.specs.Arrays.{at, how_many}
use Rattle.plane.specs.Moves.{need, judge_of}
use Rattle.mover.specs.declared.Job.{Job}
use Rattle.mover.specs.Moved.{total}
use Rattle.mover.specs.Within.{verdict_of, total_of, advance_of, advance_memory}

-- the elements of a move, into a destination of dstLen bytes
pub record Bounded (t : Tensor) (c : Config) (dstLen : ℕ) : Type 0 where
  -- their bytes are within the need, and the need within the destination
  pub bytes : total t c * t.element_size ≤ need t c
  pub room : need t c ≤ dstLen
  -- so they are no more than the destination has bytes
  pub few : total t c ≤ dstLen

-- an accepted move stores that many and no more (`move_memory`)
abbrev pub MoveWork : Type 0
MoveWork = (t : Tensor) (c : Config) (srcLen dstLen : ℕ) → (judge_of t c srcLen dstLen).status ≡ 0 → Bounded t c dstLen

-- an accepted job has no more elements than its destination part has bytes, and that has no more than the memory
abbrev pub JobWork : Type 0
JobWork = (n : ℕ) (j : Job) → (verdict_of n j).status ≡ 0 → (total_of j ≤ j.destination.length) × (j.destination.length ≤ n)

-- how many bytes of a memory are others in a second one
unfoldable pub differing : List ℕ → List ℕ → ℕ
differing m e = how_many (length m) (λ k. not (at m k == at e k))

-- for this budget n elements of `size` bytes each are reported, and the memory m has become e
pub record Paid (budget n size : ℕ) (m e : List ℕ) : Type 0 where
  pub few : n ≤ budget
  -- it is as long as it was, and no more of its bytes differ than those elements have
  pub long : length e ≡ length m
  pub bytes : differing m e ≤ n * size

-- so every stretch is; a refused one reports 0, and changes no byte
abbrev pub AdvanceWork : Type 0
AdvanceWork =
    (j : Job) (from budget : ℕ) (m : List ℕ) →
    Paid budget (advance_of j from budget m).count j.tensor.element_size m (advance_memory j from budget m)
