-- `transfers::Table::with_slot` puts a slot in its place. Assumes nothing.
use mathlib.Core.Path.{◌≡◌}
use native.Mathlib.Omega.{arith}
use lib.ListN.{length}
use Rattle.transfers.proofs.Fours.{slot_put}
use Rattle.transfers.proofs.Table.with_slot.Goals as goal

pub returns : goal.returns
returns c =
    let n : length c.args.self.slots ≡ 4 = omega arith in
    slot_put c.args.self c.args.handle c.args.slot n c.requires
