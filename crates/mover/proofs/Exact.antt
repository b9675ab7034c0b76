-- Each refusal of a move inside one memory in its exact case and order: 20, then those of a move, then 34, then 21. Assumes nothing.
use Rattle.std.proofs.Common.{◌≡◌, ℕ, true, ◌||◌, length, refl, inl, inr, arith}
use Rattle.faults.specs.Faults.{overall, ◌then◌}
use Rattle.faults.specs.Exactness.{Given}
use Rattle.faults.proofs.Faults.{if_fault_lem}
use Rattle.faults.proofs.Chains.{exact_fault, unbroken_accepts, never_given}
use Rattle.plane.specs.Good.{GoodMove}
use Rattle.plane.specs.Moves.{move_rules, move_fault}
use Rattle.plane.proofs.Good.{move_good}
use Rattle.mover.specs.declared.Job.{Job}
use Rattle.mover.specs.Within.{leaves, off_boundaries, meets, job_rules, job_fault, total_of, verdict_of, further, advanced_by, advance_of, advance_memory}
use Rattle.mover.specs.Claims.{JobExact, JobZeros, AdvanceExact, AdvanceZeros, AdvanceUnchanged}

pub job_exact : JobExact
unfolding verdict_of job_fault
job_exact n j = exact_fault (job_rules n j) (omega arith)

pub job_zeros : JobZeros
unfolding verdict_of
job_zeros n j h = if_fault_lem (job_fault n j) 0 (total_of j) h

pub advance_exact : AdvanceExact
unfolding advance_of job_fault
advance_exact j from budget m = exact_fault (job_rules (length m) j) (omega arith)

pub advance_zeros : AdvanceZeros
unfolding advance_of
advance_zeros j from budget m h = if_fault_lem (job_fault (length m) j) 0 (further j from budget) h

-- a refused one changes no byte
pub advance_unchanged : AdvanceUnchanged
unfolding advance_of advance_memory
advance_unchanged j from budget m h = if_fault_lem (job_fault (length m) j) m (advanced_by j from (further j from budget) m) h

-- ---- what single numbers of a job tell

module _ (n : ℕ) (j : Job) (d : ℕ) where
  -- a part leaves the memory
  pub given_20 : Given (job_rules n j) 20 d → (leaves n j.source || leaves n j.destination) ≡ true
  given_20 (inl g) = g.1
  given_20 (inr g) =
      absurd (never_given (move_rules j.tensor j.config j.source.length j.destination.length then overall 34 (off_boundaries j) then overall 21 (meets j.source j.destination)) 20 d refl g.1)

  -- the move between its parts is accepted, and one of them is off a boundary
  pub given_34 : Given (job_rules n j) 34 d → GoodMove j.tensor j.config j.source.length j.destination.length × (off_boundaries j ≡ true)
  unfolding move_fault
  given_34 (inl g) = absurd (never_given (overall 20 (leaves n j.source || leaves n j.destination)) 34 d refl g)
  given_34 (inr (u, inl g)) = absurd (never_given (move_rules j.tensor j.config j.source.length j.destination.length) 34 d refl g)
  given_34 (inr (u, inr (v, inl g))) =
      (move_good j.tensor j.config j.source.length j.destination.length (unbroken_accepts (move_rules _ _ _ _) v), g.1)
  given_34 (inr (u, inr (v, inr g))) = absurd (never_given (overall 21 (meets j.source j.destination)) 34 d refl g.1)
