-- `transfers::Table::release` frees a slot that is done. Assumes nothing.
use mathlib.Core.Path.{ap, ◌∙◌}
use lib.ListN.{length}
use Rattle.faults.proofs.Outcomes.{tells_ok}
use Rattle.transfers.specs.Slots.{free_slot, slot_at, with_slot}
use Rattle.transfers.specs.Calls.{call_fault, release_of}
use Rattle.transfers.proofs.Answers.{called, change_stopped, change_went}
use Rattle.transfers.proofs.Table.release.Goals as goal

pub with_slot-requires : goal.with_slot-requires
with_slot-requires c =
    (called c.args.self (length c.args.mem.now) c.args.handle 3 (tells_ok _ _ c.in-Ok.ensures).1).range

pub returns-in-Ok : goal.returns-in-Ok
unfolding release_of
returns-in-Ok c =
    change_went (call_fault c.args.self (length c.args.mem.now) c.args.handle 3) (slot_at c.args.self c.args.handle) c.args.self c.args.handle
    free_slot c.in-Ok.ensures (c.with_slot.ensures ∙ ap (with_slot c.args.self c.args.handle) c.free.ensures)

pub returns-in-Err : goal.returns-in-Err
unfolding release_of
returns-in-Err c =
    change_stopped (call_fault c.args.self (length c.args.mem.now) c.args.handle 3) (slot_at c.args.self c.args.handle) c.args.self c.args.handle
    free_slot c.in-Err.ensures
