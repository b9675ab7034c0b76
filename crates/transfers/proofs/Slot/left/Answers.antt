-- `transfers::Slot::left` counts what a slot has left. Assumes nothing.
use native.Mathlib.Omega.{arith}
use Rattle.transfers.proofs.Sounds.{verdict_total}
use Rattle.transfers.proofs.Slot.left.Goals as goal

pub overflow_sub-result : goal.overflow_sub-result
overflow_sub-result c =
    let t = verdict_total c.args.n c.args.self.job c.judge_job-verdict.ensures c.requires.0 in
    omega (arith, c.requires.1)

pub returns : goal.returns
returns c =
    let t = verdict_total c.args.n c.args.self.job c.judge_job-verdict.ensures c.requires.0 in
    rw t
