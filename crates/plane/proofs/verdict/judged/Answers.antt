-- `plane::verdict::judged` meets its contract. Assumes nothing.
use mathlib.Core.Path.{sym, ap, ◌∙◌}
use native.Mathlib.Omega.{arith}
use borrow.Author.Tests.{lt-ltb, le-ltb}
use Rattle.std.proofs.Common.{rules}
use Rattle.std.specs.Prelude.{Ok}
use Rattle.plane.specs.declared.Source.{Source}
use Rattle.plane.specs.declared.Answer.{Answer}
use Rattle.plane.specs.Planes.{source_fault}
use Rattle.plane.specs.Moves.{config_fault, dst_fault, move_fault}
use Rattle.faults.proofs.Outcomes.{clear, passed_value, goes, halts, stops, goes_if, halts_if, ends_if, ok_if, regroup}
use Rattle.plane.proofs.Good.{source_good}
use Rattle.plane.proofs.verdict.judged.Goals as goal

pub returns-in_err-source : goal.returns-in_err-source
unfolding move_fault source_fault config_fault dst_fault
returns-in_err-source c = stops (halts _ _ _ _ c.resolved_source.ensures c.in_err-source.was) (search rules)

pub returns-then-src_len-source : goal.returns-then-src_len-source
unfolding move_fault source_fault config_fault dst_fault
returns-then-src_len-source c =
    let e = ap (λ (x : Source). x.span) (passed_value _ _ c.resolved_source.ensures c.in_ok-source.was) in
    sym
    (goes _ _ _ _ c.resolved_source.ensures c.in_ok-source.was ∙
    halts_if 5 _ _ _ (omega arith) (lt-ltb _ _ (omega arith)))

pub destination-requires : goal.destination-requires
destination-requires c = (source_good _ (clear _ _ c.resolved_source.ensures c.in_ok-source.was)).rank.1

pub returns-in_err-answer : goal.returns-in_err-answer
unfolding move_fault source_fault config_fault dst_fault
returns-in_err-answer c =
    let e = ap (λ (x : Source). x.span) (passed_value _ _ c.resolved_source.ensures c.in_ok-source.was) in
    stops
    (goes _ _ _ _ c.resolved_source.ensures c.in_ok-source.was ∙ goes_if 5 _ _ _ (le-ltb _ _ (omega arith)) ∙ regroup _ _ _ _ ∙
    halts _ _ _ _ c.destination.ensures c.in_err-answer.was)
    (search rules)

pub returns-then-dst_len-answer : goal.returns-then-dst_len-answer
unfolding move_fault source_fault config_fault dst_fault
returns-then-dst_len-answer c =
    let e = ap (λ (x : Source). x.span) (passed_value _ _ c.resolved_source.ensures c.in_ok-source.was) in
    let n = ap (λ (x : Answer). x.need) (passed_value _ _ c.destination.ensures c.in_ok-answer.was) in
    sym
    (goes _ _ _ _ c.resolved_source.ensures c.in_ok-source.was ∙ goes_if 5 _ _ _ (le-ltb _ _ (omega arith)) ∙ regroup _ _ _ _ ∙
    goes _ _ _ _ c.destination.ensures c.in_ok-answer.was ∙
    ends_if 13 _ _ (omega arith) (lt-ltb _ _ (omega arith)))

pub returns : goal.returns
unfolding move_fault source_fault config_fault dst_fault
returns c =
    let e = ap (λ (x : Source). x.span) (passed_value _ _ c.resolved_source.ensures c.in_ok-source.was) in
    let a = passed_value _ _ c.destination.ensures c.in_ok-answer.was in
    let n = ap (λ (x : Answer). x.need) a in
    ap Ok a ∙
    sym
    (goes _ _ _ _ c.resolved_source.ensures c.in_ok-source.was ∙ goes_if 5 _ _ _ (le-ltb _ _ (omega arith)) ∙ regroup _ _ _ _ ∙
    goes _ _ _ _ c.destination.ensures c.in_ok-answer.was ∙
    ok_if 13 _ _ (le-ltb _ _ (omega arith)))
