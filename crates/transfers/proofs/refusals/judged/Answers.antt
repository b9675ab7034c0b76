-- `transfers::refusals::judged` gives the fault of a job, or how many elements it moves. Assumes nothing.
use mathlib.Core.Path.{sym, ap, ◌∙◌}
use Rattle.std.specs.Prelude.{Ok}
use Rattle.faults.proofs.Outcomes.{passes, refuses}
use Rattle.transfers.proofs.Sounds.{verdict_clear, verdict_total, verdict_fault}
use Rattle.transfers.proofs.refusals.judged.Goals as goal

pub returns-then-verdict-ne0 : goal.returns-then-verdict-ne0
returns-then-verdict-ne0 c =
    refuses _ (sym (verdict_fault c.args.n c.args.job c.judge_job-verdict.ensures)) c.if-verdict-ne0.true

pub returns : goal.returns
returns c =
    let z = verdict_clear c.args.n c.args.job c.judge_job-verdict.ensures c.if-verdict-ne0.false in
    ap Ok (verdict_total c.args.n c.args.job c.judge_job-verdict.ensures z) ∙ passes _ _ z
