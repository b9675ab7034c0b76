-- `plane::sub::part_of` meets its contract. Assumes nothing.
use mathlib.Core.Path.{sym, ap, ◌∙◌}
use native.Mathlib.Omega.{arith}
use borrow.Author.Tests.{lt-ltb, le-ltb}
use Rattle.std.proofs.Common.{rules}
use Rattle.plane.specs.declared.Source.{Source}
use Rattle.plane.specs.Planes.{source_fault}
use Rattle.plane.specs.Helpers.{rank_fault, sub_fault}
use Rattle.faults.proofs.Outcomes.{clear, passed_value, goes, halts, stops, goes_if, halts_if}
use Rattle.plane.proofs.Good.{source_good}
use Rattle.plane.proofs.SubAnswers.{part_is}
use Rattle.plane.proofs.sub.part_of.Goals as goal

pub returns-in_err-whole : goal.returns-in_err-whole
unfolding sub_fault source_fault rank_fault
returns-in_err-whole c = stops (halts _ _ _ _ c.resolved_source.ensures c.in_err-whole.was) (search rules)

pub returns-then-src_len-whole : goal.returns-then-src_len-whole
unfolding sub_fault source_fault rank_fault
returns-then-src_len-whole c =
    let e = ap (λ (x : Source). x.span) (passed_value _ _ c.resolved_source.ensures c.in_ok-whole.was) in
    sym
    (goes _ _ _ _ c.resolved_source.ensures c.in_ok-whole.was ∙
    halts_if 5 _ _ _ (omega arith) (lt-ltb _ _ (omega arith)))

pub invariant_of-rank : goal.invariant_of-rank
invariant_of-rank c = record { small = (source_good _ (clear _ _ c.resolved_source.ensures c.in_ok-whole.was)).rank.1 }

pub returns-in_err-check_offset : goal.returns-in_err-check_offset
unfolding sub_fault source_fault rank_fault
returns-in_err-check_offset c =
    let e = ap (λ (x : Source). x.span) (passed_value _ _ c.resolved_source.ensures c.in_ok-whole.was) in
    stops
    (goes _ _ _ _ c.resolved_source.ensures c.in_ok-whole.was ∙ goes_if 5 _ _ _ (le-ltb _ _ (omega arith)) ∙
    halts _ _ _ _ c.check_offset.ensures c.in_err-check_offset.was)
    (search rules)

pub returns-in_err-check_sub_size : goal.returns-in_err-check_sub_size
unfolding sub_fault source_fault rank_fault
returns-in_err-check_sub_size c =
    let e = ap (λ (x : Source). x.span) (passed_value _ _ c.resolved_source.ensures c.in_ok-whole.was) in
    stops
    (goes _ _ _ _ c.resolved_source.ensures c.in_ok-whole.was ∙ goes_if 5 _ _ _ (le-ltb _ _ (omega arith)) ∙
    goes _ _ _ _ c.check_offset.ensures c.in_ok-check_offset.was ∙
    halts _ _ _ _ c.check_sub_size.ensures c.in_err-check_sub_size.was)
    (search rules)

pub shrink-requires : goal.shrink-requires
shrink-requires c =
    let g = source_good _ (clear _ _ c.resolved_source.ensures c.in_ok-whole.was) in (
      g,
      ap (λ (x : Source). x.stride) (passed_value _ _ c.resolved_source.ensures c.in_ok-whole.was),
      part_is c.args.s g (clear _ _ c.check_sub_size.ensures c.in_ok-check_sub_size.was),
    )

pub returns : goal.returns
unfolding sub_fault source_fault rank_fault
returns c =
    let e = ap (λ (x : Source). x.span) (passed_value _ _ c.resolved_source.ensures c.in_ok-whole.was) in
    c.shrink.ensures ∙
    sym
    (goes _ _ _ _ c.resolved_source.ensures c.in_ok-whole.was ∙ goes_if 5 _ _ _ (le-ltb _ _ (omega arith)) ∙
    goes _ _ _ _ c.check_offset.ensures c.in_ok-check_offset.was ∙
    goes _ _ _ _ c.check_sub_size.ensures c.in_ok-check_sub_size.was)
