use Rattle.std.proofs.Common.{rules}
use Rattle.plane.specs.Helpers.{sub_tensor_of, sub_answer}
use Rattle.faults.proofs.Outcomes.{recovers}
use Rattle.plane.proofs.sub.sub_tensor.Goals as goal

pub returns : goal.returns
unfolding sub_tensor_of sub_answer
returns c = recovers _ _ _ c.part_of.ensures c.unwrap_or_else.ensures (λ p. search rules)
