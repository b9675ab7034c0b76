-- A step changes no more bytes than its budget pays for. Assumes nothing.
use native.Mathlib.Decide.{ℕ_discrete}
use mathlib.Core.Path.{◌≡◌, ap}
use lib.ListN.{length}
use Rattle.faults.proofs.Faults.{if_fault_lem, if_none}
use Rattle.mover.proofs.Work.{advanced_work, none_paid}
use Rattle.transfers.specs.declared.Stepped.{Stepped}
use Rattle.transfers.specs.Slots.{slot_at}
use Rattle.transfers.specs.Calls.{call_fault, step_count, step_of, step_memory}
use Rattle.transfers.specs.Work.{StepWork}

pub step_work : StepWork
unfolding step_of step_memory
step_work t h budget m =
    let f = call_fault t (length m) h 2 in
    let s = slot_at t h in
    elim (ℕ_discrete f.status 0) [
      | yes z ↦
          let e : (step_of t (length m) h budget).count ≡ step_count s budget = ap (λ (r : Stepped). r.count) (if_none f _ _ z) in
          rw (e, if_none f m _ z) (advanced_work s.job s.moved budget m)
      | no z ↦
          let e : (step_of t (length m) h budget).count ≡ 0 = ap (λ (r : Stepped). r.count) (if_fault_lem f _ _ z) in
          rw (e, if_fault_lem f m _ z) (none_paid budget s.job.tensor.element_size m)
    ]
