-- `mover::verdicts::judged` says as a Result what the rules answer a move. Assumes nothing.
use Rattle.mover.proofs.Judged.{outcome_err, outcome_ok}
use Rattle.mover.proofs.verdicts.judged.Goals as goal

pub returns-then-is_refused : goal.returns-then-is_refused
returns-then-is_refused c =
    outcome_err c.args.t c.args.c c.args.src_len c.args.dst_len c.judge-a.ensures c.if-is_refused.true

pub returns : goal.returns
returns c =
    outcome_ok c.args.t c.args.c c.args.src_len c.args.dst_len c.judge-a.ensures c.if-is_refused.false
