-- `transfers::Table::prepare` takes the lowest free slot, or refuses by the first rule that holds. Assumes nothing.
use native.Mathlib.Omega.{arith}
use Rattle.faults.proofs.Outcomes.{tells_ok}
use Rattle.transfers.proofs.Fours.{lowest_is}
use Rattle.transfers.proofs.Answers.{preparing, prepare_stopped, prepare_went}
use lib.ListN.{length}
use Rattle.transfers.proofs.Table.prepare.Goals as goal

pub with_slot-requires : goal.with_slot-requires
with_slot-requires c =
    let t = c.args.self in
    let w = tells_ok _ _ c.in-Ok.ensures in
    let l = (lowest_is t (preparing t (length c.args.mem.now) c.args.job w.1).room).range in
    omega (arith, l, w.0)

pub returns-in-Ok : goal.returns-in-Ok
returns-in-Ok c = prepare_went c.args.self (length c.args.mem.now) c.args.job c.in-Ok.ensures c.with_slot.ensures

pub returns-in-Err : goal.returns-in-Err
returns-in-Err c = prepare_stopped c.args.self (length c.args.mem.now) c.args.job c.in-Err.ensures
