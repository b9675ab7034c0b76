-- `plane::verdict::asked` meets its contract. Assumes nothing.
use mathlib.Core.Path.{sym, ap, ◌∙◌}
use Rattle.std.proofs.Common.{rules}
use Rattle.std.specs.Prelude.{Ok}
use Rattle.plane.specs.Planes.{source_fault}
use Rattle.plane.specs.Moves.{config_fault, dst_fault, room_fault}
use Rattle.faults.proofs.Outcomes.{outcome_ok, clear, passed_value, goes, ends, halts, stops}
use Rattle.plane.proofs.Good.{source_good}
use Rattle.plane.proofs.Rules.{room_is}
use Rattle.plane.proofs.verdict.asked.Goals as goal

pub returns-in_err-source : goal.returns-in_err-source
unfolding room_fault source_fault config_fault dst_fault
returns-in_err-source c = stops (halts _ _ _ _ c.resolved_source.ensures c.in_err-source.was) (search rules)

pub destination-requires : goal.destination-requires
destination-requires c = (source_good _ (clear _ _ c.resolved_source.ensures c.in_ok-source.was)).rank.1

pub returns-in_err-answer : goal.returns-in_err-answer
unfolding room_fault source_fault config_fault dst_fault
returns-in_err-answer c =
    stops (goes _ _ _ _ c.resolved_source.ensures c.in_ok-source.was ∙ ends _ _ _ c.destination.ensures c.in_err-answer.was)
    (search rules)

pub returns : goal.returns
unfolding room_fault source_fault config_fault dst_fault
returns c =
    let s = passed_value _ _ c.resolved_source.ensures c.in_ok-source.was in
    let a = passed_value _ _ c.destination.ensures c.in_ok-answer.was in
    ap Ok (room_is c.args.t c.args.c s a) ∙
    sym
    (goes _ _ _ _ c.resolved_source.ensures c.in_ok-source.was ∙
    outcome_ok _ _ (clear _ _ c.destination.ensures c.in_ok-answer.was))
