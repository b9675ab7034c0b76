-- `keeper::runs::placed` tells the part that a run is. Assumes nothing.
use native.Mathlib.Omega.{arith}
use mathlib.Core.Path.{◌≡◌, ap, ap₂, ◌∙◌}
use Rattle.std.specs.Prelude.{Ok, Err}
use Rattle.std.proofs.Common.{rules}
use mathlib.Core.Bool.{false, ◌||◌}
use borrow.Author.Tests.{lt-ltb, le-ltb}
use lib.Dec.{ltb}
use Rattle.faults.proofs.Bools.{either_first, either_second, neither}
use Rattle.transfers.specs.Slots.{limit}
use Rattle.keeper.specs.Calls.{run_part}
use Rattle.keeper.proofs.Answers.{placed-17, placed-31, placed-0}
use Rattle.keeper.proofs.runs.placed.Goals as goal
use Rattle.keeper.proofs.runs.placed.Goals.{Else-length-gt-LIMIT}

pub returns-then-length-lt64 : goal.returns-then-length-lt64
returns-then-length-lt64 c =
    placed-17 c.args.length c.args.first c.args.n (either_first _ _ (lt-ltb c.args.length 64 (omega (arith, c.if-length-lt64.true))))

pub returns-then-length-gt-LIMIT : goal.returns-then-length-gt-LIMIT
returns-then-length-gt-LIMIT c =
    placed-17 c.args.length c.args.first c.args.n (either_second (ltb c.args.length 64) _ (lt-ltb limit c.args.length (omega (arith, c.if-length-gt-LIMIT.true))))

-- the length is within its bounds
module _ (c : Else-length-gt-LIMIT) where
  good : (ltb c.args.length 64 || ltb limit c.args.length) ≡ false
  good = neither _ _ (le-ltb c.args.length 64 c.if-length-lt64.false) (le-ltb limit c.args.length c.if-length-gt-LIMIT.false)

pub returns-in_err-run : goal.returns-in_err-run
returns-in_err-run c =
    let r : c.from_residual.result ≡ Err c.in_err-run.field-0.0 = search rules in
    let e = c.in_err-run.ensures.refused in
    r ∙ ap Err e.1 ∙ placed-31 c.args.length c.args.first c.args.n (good (goal.at-returns-in_err-run c).Else-length-gt-LIMIT) e.0

pub returns : goal.returns
returns c =
    let m = c.in_ok-run.ensures.made in
    ap Ok (c.part.ensures ∙ ap₂ (run_part c.args.length) m.1 m.2) ∙
    placed-0 c.args.length c.args.first c.args.n (good (goal.at-returns c).Else-length-gt-LIMIT) m.0
