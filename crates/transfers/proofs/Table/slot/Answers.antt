-- `transfers::Table::slot` gives the slot of a handle, or 23. Assumes nothing.
use native.Mathlib.Omega.{arith}
use mathlib.Core.Path.{◌≡◌, ap, ◌∙◌}
use borrow.Author.Tests.{lt-ltb, le-ltb}
use lib.ListN.{length}
use Rattle.std.specs.Prelude.{Ok}
use Rattle.faults.proofs.Faults.{when_bad, when_zero}
use Rattle.faults.proofs.Outcomes.{passes, refuses}
use Rattle.transfers.specs.Slots.{free_slot}
use Rattle.transfers.proofs.Table.slot.Goals as goal

pub returns-in-Some : goal.returns-in-Some
returns-in-Some c =
    let h = c.in-Some.ensures.lookup in
    let n : length c.args.self.slots ≡ 4 = omega arith in
    let l = h.3.0 in
    ap Ok (h.3.1 free_slot) ∙ passes _ _ (when_zero 23 0 _ (le-ltb 3 c.args.handle (omega arith)))

pub returns-in-None : goal.returns-in-None
returns-in-None c =
    let h = c.in-None.ensures.lookup in
    let n : length c.args.self.slots ≡ 4 = omega arith in
    let l = h.3 in
    refuses _ (when_bad 23 0 _ (lt-ltb 3 c.args.handle (omega arith))) (λ z. omega arith)
