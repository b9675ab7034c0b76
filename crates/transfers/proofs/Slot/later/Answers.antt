-- `transfers::Slot::later` counts the elements just moved, and ends a transfer that has none left. Assumes nothing.
use native.Mathlib.Omega.{arith}
use mathlib.Core.Path.{◌∙◌, sym}
use Rattle.transfers.proofs.Sounds.{verdict_total}
use Rattle.transfers.proofs.Steps.{later_done, later_going}
use Rattle.transfers.proofs.Slot.later.Goals.{then-moved-verdict, else-moved-verdict}
use Rattle.transfers.proofs.Slot.later.Goals as goal

pub overflow_add-moved : goal.overflow_add-moved
overflow_add-moved c =
    let t = verdict_total c.args.n c.args.self.job c.judge_job-verdict.ensures c.requires.0 in
    omega (arith, c.requires.1, c.judge_job-verdict.type_inv)

pub returns : goal.returns
returns c =
    let t = verdict_total c.args.n c.args.self.job c.judge_job-verdict.ensures c.requires.0 in
    elim c.if-moved-verdict.branch [
      | then-moved-verdict w ↦ later_done c.args.self c.args.count (w.if-moved-verdict.true ∙ t) w.result-is
      | else-moved-verdict w ↦ later_going c.args.self c.args.count (λ z. w.if-moved-verdict.false (z ∙ sym t)) w.result-is
    ]
