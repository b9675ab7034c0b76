-- `transfers::Table::start` makes a prepared slot running. Assumes nothing.
use mathlib.Core.Path.{ap, ◌∙◌}
use lib.ListN.{length}
use Rattle.faults.proofs.Outcomes.{tells_ok}
use Rattle.transfers.specs.declared.Slot.{Slot}
use Rattle.transfers.specs.Slots.{slot_at, with_slot}
use Rattle.transfers.specs.Calls.{call_fault, running, start_of}
use Rattle.transfers.proofs.Answers.{called, change_stopped, change_went}
use Rattle.transfers.proofs.Table.start.Goals as goal

pub with_slot-requires : goal.with_slot-requires
with_slot-requires c =
    (called c.args.self (length c.args.mem.now) c.args.handle 1 (tells_ok _ _ c.in-Ok.ensures).1).range

pub returns-in-Ok : goal.returns-in-Ok
unfolding start_of
returns-in-Ok c =
    change_went (call_fault c.args.self (length c.args.mem.now) c.args.handle 1) (slot_at c.args.self c.args.handle) c.args.self c.args.handle
    (running (slot_at c.args.self c.args.handle)) c.in-Ok.ensures
    (c.with_slot.ensures ∙ ap (λ (x : Slot). with_slot c.args.self c.args.handle (running x)) (tells_ok _ _ c.in-Ok.ensures).0)

pub returns-in-Err : goal.returns-in-Err
unfolding start_of
returns-in-Err c =
    change_stopped (call_fault c.args.self (length c.args.mem.now) c.args.handle 1) (slot_at c.args.self c.args.handle) c.args.self c.args.handle
    (running (slot_at c.args.self c.args.handle)) c.in-Err.ensures
