-- `transfers::Table::room_for` gives the slot that a job may take, or the fault of the first rule that is broken. Assumes nothing.
use native.Mathlib.Omega.{arith}
use mathlib.Core.Path.{◌≡◌, sym, ◌∙◌}
use lib.ListN.{length}
use Rattle.std.specs.Prelude.{Err}
use Rattle.std.proofs.Common.{rules}
use Rattle.faults.proofs.Outcomes.{tells_ok}
use Rattle.mover.specs.Within.{total_of}
use Rattle.transfers.proofs.Fours.{found_free, found_none}
use Rattle.transfers.proofs.Sounds.{clashes_told}
use Rattle.transfers.proofs.Answers.{prepare-closed, prepare-19, prepare-job, prepare-22, prepare-given}
use Rattle.transfers.proofs.Table.room_for.Goals as goal

pub returns-in_err-opened : goal.returns-in_err-opened
returns-in_err-opened c =
    let r : c.from_residual.result ≡ Err c.in_err-opened.field-0.0 = search rules in
    r ∙ prepare-closed c.args.self c.args.n c.args.job c.in_err-opened.ensures

pub returns-in_default : goal.returns-in_default
returns-in_default c =
    let n : length c.args.self.slots ≡ 4 = omega arith in
    prepare-19 c.args.self c.args.n c.args.job (tells_ok _ _ c.in_ok-opened.ensures).1 (found_none c.args.self n c.in_default.ensures)

pub returns-in_err-judged : goal.returns-in_err-judged
returns-in_err-judged c =
    let n : length c.args.self.slots ≡ 4 = omega arith in
    let f = found_free c.args.self n c.in-Some.ensures in
    let r : c.from_residual-in_err-judged.result ≡ Err c.in_err-judged.field-0.0 = search rules in
    r ∙
    prepare-job c.args.self c.args.n c.args.job (tells_ok _ _ c.in_ok-opened.ensures).1 (λ z. omega (arith, f.0, f.1)) (total_of c.args.job)
    c.in_err-judged.ensures

pub returns-then-clashes : goal.returns-then-clashes
returns-then-clashes c =
    let n : length c.args.self.slots ≡ 4 = omega arith in
    let f = found_free c.args.self n c.in-Some.ensures in
    prepare-22 c.args.self c.args.n c.args.job (tells_ok _ _ c.in_ok-opened.ensures).1 (λ z. omega (arith, f.0, f.1))
    (tells_ok _ _ c.in_ok-judged.ensures).1 (sym (clashes_told c.args.self c.args.job 4 n (omega arith)) ∙ sym c.clashes.ensures ∙ c.if-clashes.true)

pub returns : goal.returns
returns c =
    let n : length c.args.self.slots ≡ 4 = omega arith in
    let f = found_free c.args.self n c.in-Some.ensures in
    prepare-given c.args.self c.args.n c.args.job (tells_ok _ _ c.in_ok-opened.ensures).1 (λ z. omega (arith, f.0, f.1))
    (tells_ok _ _ c.in_ok-judged.ensures).1 (sym (clashes_told c.args.self c.args.job 4 n (omega arith)) ∙ sym c.clashes.ensures ∙ c.if-clashes.false) f.1
