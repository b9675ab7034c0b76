-- How much a step changes: no more bytes than its budget pays for, whatever the table says.
use Rattle.std.specs.Prelude.{ℕ, List, length}
use Rattle.mover.specs.Work.{Paid}
use Rattle.transfers.specs.declared.Table.{Table}
use Rattle.transfers.specs.Slots.{slot_at}
use Rattle.transfers.specs.Calls.{step_of, step_memory}

-- in elements of the slot's transfer; a refused step reports 0, and changes no byte
abbrev pub StepWork : Type 0
StepWork =
    (t : Table) (h budget : ℕ) (m : List ℕ) →
    Paid budget (step_of t (length m) h budget).count (slot_at t h).job.tensor.element_size m (step_memory t h budget m)
