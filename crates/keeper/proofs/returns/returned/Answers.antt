-- `keeper::returns::returned` gives 17, 18, 31 and 33 in that order. Assumes nothing.
use native.Mathlib.Omega.{arith}
use mathlib.Core.Path.{◌≡◌, sym, ap, ap₂, ◌∙◌}
use mathlib.Core.Bool.{Bool, true, false, not}
use Rattle.faults.proofs.Bools.{either_first, either_second, neither}
use Rattle.faults.proofs.Outcomes.{tells_ok}
use Rattle.keeper.specs.Blocks.{all_taken, without_run}
use lib.ListN.{length}
use Rattle.std.specs.Prelude.{Ok, Err}
use Rattle.std.proofs.Common.{rules}
use Rattle.keeper.specs.Calls.{run_part, in_use}
use Rattle.keeper.proofs.Answers.{table-short, back-table, back-31, back-33, back-0, in_use_told}
use Rattle.keeper.proofs.returns.returned.Goals as goal
use Rattle.keeper.proofs.returns.returned.Goals.{After-is_taken, After-in_use}

pub returns-in_err-opened : goal.returns-in_err-opened
returns-in_err-opened c =
    let r : c.from_residual.result ≡ Err c.in_err-opened.field-0.0 = search rules in
    r ∙ back-table c.args.table c.args.word c.args.first c.args.n c.in_err-opened.ensures

pub returns-in_err-run : goal.returns-in_err-run
returns-in_err-run c =
    let r : c.from_residual-in_err-run.result ≡ Err c.in_err-run.field-0.0 = search rules in
    let e = c.in_err-run.ensures.refused in
    r ∙ ap Err e.1 ∙ back-31 c.args.table c.args.word c.args.first c.args.n (tells_ok _ _ c.in_ok-opened.ensures).1 e.0

-- whether each block of the run is taken
taken : (c : After-is_taken) → c.is_taken.result ≡ all_taken c.args.word c.args.first c.args.n
taken c = let m = c.in_ok-run.ensures.made in c.is_taken.ensures ∙ ap₂ (all_taken c.args.word) m.1 m.2

pub returns-then-not-is_taken : goal.returns-then-not-is_taken
returns-then-not-is_taken c =
    back-33 c.args.table c.args.word c.args.first c.args.n (tells_ok _ _ c.in_ok-opened.ensures).1 c.in_ok-run.ensures.made.0
    (either_first _ _ (ap not (sym (taken (goal.at-returns-then-not-is_taken c).After-is_taken) ∙ c.if-not-is_taken.true)))

pub part-requires : goal.part-requires
part-requires c = table-short c.args.table (tells_ok _ _ c.in_ok-opened.ensures).1

-- what the last test tells
used : (c : After-in_use) (b : Bool) → c.in_use.result ≡ b → in_use c.args.table (run_part c.args.table.length c.args.first c.args.n) ≡ b
used c b e =
    let m = c.in_ok-run.ensures.made in
    let f = m.1 in
    let k = m.2 in
    let p = c.part.ensures in
    let is : run_part c.args.table.length c.args.first c.args.n ≡ c.part.result = cc in
    let n : length c.args.table.slots ≡ 4 = omega arith in
    ap (in_use c.args.table) is ∙ sym (in_use_told c.args.table _ n) ∙ sym c.in_use.ensures ∙ e

pub returns-then-in_use : goal.returns-then-in_use
returns-then-in_use c =
    back-33 c.args.table c.args.word c.args.first c.args.n (tells_ok _ _ c.in_ok-opened.ensures).1 c.in_ok-run.ensures.made.0
    (either_second (not (all_taken c.args.word c.args.first c.args.n)) _ (used (goal.at-returns-then-in_use c).After-in_use true c.if-in_use.true))

pub returns : goal.returns
returns c =
    let m = c.in_ok-run.ensures.made in
    ap Ok (c.freed_in.ensures ∙ ap₂ (without_run c.args.word) m.1 m.2) ∙
    back-0 c.args.table c.args.word c.args.first c.args.n (tells_ok _ _ c.in_ok-opened.ensures).1 m.0
    (neither _ _ (ap not (sym (taken (goal.at-returns c).After-is_taken) ∙ c.if-not-is_taken.false)) (used (goal.at-returns c).After-in_use false c.if-in_use.false))
