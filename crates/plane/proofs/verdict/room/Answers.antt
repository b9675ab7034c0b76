use mathlib.Core.Path.{◌∙◌}
use Rattle.std.proofs.Common.{rules}
use Rattle.faults.proofs.Outcomes.{recovers}
use Rattle.plane.proofs.Rules.{room_answer}
use Rattle.plane.proofs.verdict.room.Goals as goal

pub returns : goal.returns
returns c = recovers _ _ _ c.asked.ensures c.unwrap_or_else.ensures (λ p. search rules) ∙ room_answer c.args.t c.args.c
