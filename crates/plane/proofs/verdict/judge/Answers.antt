use Rattle.std.proofs.Common.{rules}
use Rattle.plane.specs.Moves.{judge_of, answer_of}
use Rattle.faults.proofs.Outcomes.{recovers}
use Rattle.plane.proofs.verdict.judge.Goals as goal

pub returns : goal.returns
unfolding judge_of answer_of
returns c = recovers _ _ _ c.judged.ensures c.unwrap_or_else.ensures (λ p. search rules)
