use mathlib.Core.Path.{◌∙◌}
use Rattle.std.proofs.Common.{rules}
use Rattle.faults.proofs.Outcomes.{recovers}
use Rattle.plane.proofs.Rules.{source_answer}
use Rattle.plane.proofs.tensors.source_of.Goals as goal

pub returns : goal.returns
returns c = recovers _ _ _ c.resolved_source.ensures c.unwrap_or_else.ensures (λ p. search rules) ∙ source_answer c.args.t
