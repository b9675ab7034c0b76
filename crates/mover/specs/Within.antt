-- A move between two parts of one memory.
use Rattle.std.specs.Prelude.{ℕ, ◌+◌, ◌-◌, ◌%◌, min, max, Bool, not, ◌&&◌, ◌||◌, List, length, ◌==◌, nat_lt}
use Rattle.std.proofs.lemmas.List.Edits.{sets}
use Rattle.faults.specs.declared.Fault.{Fault}
use Rattle.faults.specs.Faults.{if_fault, Rules, overall, ◌then◌, first_fault}
use Rattle.plane.specs.Moves.{move_rules}
use Rattle.parts.specs.declared.Part.{Part}
use Rattle.parts.specs.Parts.{bytes_of}
use Rattle.mover.specs.declared.Job.{Job}
use Rattle.mover.specs.declared.Verdict.{Verdict}
use Rattle.mover.specs.declared.Advanced.{Advanced}
use Rattle.mover.specs.Moved.{total, moved}

-- 20: a part leaves a memory of n bytes
abbrev pub leaves : ℕ → Part → Bool
leaves n p = nat_lt n p.start || nat_lt (n - p.start) p.length

-- 34: a part does not start at a multiple of the element size z; elements of three bytes may start anywhere
abbrev pub off_boundary : ℕ → Part → Bool
off_boundary z p = not (z == 3) && not (p.start % z == 0)

-- .. of a job: its source part does not, or its destination part
abbrev pub off_boundaries : Job → Bool
off_boundaries j = let z = j.tensor.element_size in off_boundary z j.source || off_boundary z j.destination

-- two parts share a byte: the later start lies before the earlier end
abbrev pub meets : Part → Part → Bool
meets p q = nat_lt (max p.start q.start) (min (p.start + p.length) (q.start + q.length))

-- 20, 1 to 13, 34, 21
abbrev pub job_rules : ℕ → Job → Rules
job_rules n j =
    overall 20 (leaves n j.source || leaves n j.destination) then
    move_rules j.tensor j.config j.source.length j.destination.length then
    overall 34 (off_boundaries j) then
    overall 21 (meets j.source j.destination)

unfoldable pub job_fault : ℕ → Job → Fault
job_fault n j = first_fault (job_rules n j)

abbrev pub total_of : Job → ℕ
total_of j = total j.tensor j.config

unfoldable pub verdict_of : ℕ → Job → Verdict
verdict_of n j = record {
  status = (job_fault n j).status;
  dim = (job_fault n j).dim;
  total = if_fault (job_fault n j) 0 (total_of j);
}

-- the memory with n elements of the job moved, those from number `from` on
unfoldable pub advanced_by : Job → ℕ → ℕ → List ℕ → List ℕ
advanced_by j from n m =
    sets m j.destination.start (moved j.tensor j.config (bytes_of j.source m) from n (bytes_of j.destination m))

-- how many are moved: the budget, or what is left
abbrev pub further : Job → ℕ → ℕ → ℕ
further j from budget = min budget (total_of j - from)

unfoldable pub advance_of : Job → ℕ → ℕ → List ℕ → Advanced
advance_of j from budget m = record {
  status = (job_fault (length m) j).status;
  dim = (job_fault (length m) j).dim;
  count = if_fault (job_fault (length m) j) 0 (further j from budget);
}

unfoldable pub advance_memory : Job → ℕ → ℕ → List ℕ → List ℕ
advance_memory j from budget m =
    if_fault (job_fault (length m) j) m (advanced_by j from (further j from budget) m)
