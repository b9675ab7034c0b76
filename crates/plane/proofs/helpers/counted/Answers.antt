-- `plane::helpers::counted` meets its contract. Assumes nothing.
use mathlib.Core.Path.{sym, ap, ◌∙◌}
use native.Mathlib.Omega.{arith}
use borrow.Author.Tests.{le-leb, lt-leb}
use Rattle.std.proofs.Common.{rules}
use Rattle.std.specs.Prelude.{Ok, Err}
use Rattle.plane.specs.Helpers.{elements, count_fault}
use Rattle.faults.proofs.Outcomes.{clear, goes, halts, stops, goes_if, halts_if, ends_if, ok_if}
use Rattle.plane.proofs.Good.{shapes_good}
use Rattle.plane.proofs.helpers.counted.Goals as goal

pub returns-in_err-rank : goal.returns-in_err-rank
unfolding count_fault
returns-in_err-rank c =
    let e = c.in_err-rank.ensures.refused in
    stops (halts_if 1 _ _ _ (omega arith) e.0 ∙ ap Err (sym e.1)) (search rules)

pub returns-in_err-check_shape : goal.returns-in_err-check_shape
unfolding count_fault
returns-in_err-check_shape c =
    let m = c.in_ok-rank.ensures.made in
    stops
    (goes_if 1 _ _ _ m.0 ∙
    halts _ _ _ _ (rw (sym m.1) c.check_shape.ensures) c.in_err-check_shape.was)
    (search rules)

pub returns-then-t-start : goal.returns-then-t-start
unfolding count_fault
returns-then-t-start c =
    let m = c.in_ok-rank.ensures.made in
    sym
    (goes_if 1 _ _ _ m.0 ∙
    goes _ _ _ _ (rw (sym m.1) c.check_shape.ensures) c.in_ok-check_shape.was ∙
    ends_if 16 _ _ (omega arith) (le-leb _ _ c.if-t-start.true))

pub product_from-requires : goal.product_from-requires
product_from-requires c =
    let m = c.in_ok-rank.ensures.made in
    let w = clear _ _ c.check_shape.ensures c.in_ok-check_shape.was in
    λ d h. (shapes_good c.args.t (rw (sym m.1) w) d (omega (arith, m.1, h))).1

pub returns : goal.returns
unfolding count_fault elements
returns c =
    let m = c.in_ok-rank.ensures.made in
    ap Ok (rw (sym m.1) c.product_from.ensures) ∙
    sym
    (goes_if 1 _ _ _ m.0 ∙
    goes _ _ _ _ (rw (sym m.1) c.check_shape.ensures) c.in_ok-check_shape.was ∙
    ok_if 16 _ _ (lt-leb _ _ c.if-t-start.false))
