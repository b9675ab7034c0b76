-- `plane::tensors::resolved_source` meets its contract. Assumes nothing.
use mathlib.Core.Path.{sym, ap, ◌∙◌}
use native.Mathlib.Omega.{arith}
use borrow.Author.Tests.{eq-eqb, ne_eqb}
use Rattle.std.proofs.Common.{rules}
use Rattle.std.specs.Prelude.{Ok, Err}
use Rattle.plane.specs.Planes.{source_fault}
use Rattle.faults.proofs.Outcomes.{outcome_ok, clear, passed_value, goes, ends, halts, stops, goes_if, halts_if}
use Rattle.plane.proofs.Rules.{source_strides, source_is, shape_box}
use Rattle.plane.proofs.tensors.resolved_source.Goals as goal

pub returns-in_err-rank : goal.returns-in_err-rank
unfolding source_fault
returns-in_err-rank c =
    let e = c.in_err-rank.ensures.refused in
    stops (halts_if 1 _ _ _ (omega arith) e.0 ∙ ap Err (sym e.1)) (search rules)

pub returns-then-element_size-eq0 : goal.returns-then-element_size-eq0
unfolding source_fault
returns-then-element_size-eq0 c =
    let m = c.in_ok-rank.ensures.made in
    sym
    (goes_if 1 _ _ _ m.0 ∙
    halts_if 2 _ _ _ (omega arith) (eq-eqb _ _ (sym c.element_size.ensures ∙ c.if-element_size-eq0.true)))

pub returns-in_err-check_shape : goal.returns-in_err-check_shape
unfolding source_fault
returns-in_err-check_shape c =
    let m = c.in_ok-rank.ensures.made in
    stops
    (goes_if 1 _ _ _ m.0 ∙
    goes_if 2 _ _ _ (ne_eqb _ _ (λ z. c.if-element_size-eq0.false (c.element_size.ensures ∙ z))) ∙
    halts _ _ _ _ (rw (sym m.1) c.check_shape.ensures) c.in_err-check_shape.was)
    (search rules)

pub returns-in_err-stride : goal.returns-in_err-stride
unfolding source_fault
returns-in_err-stride c =
    let m = c.in_ok-rank.ensures.made in
    stops
    (goes_if 1 _ _ _ m.0 ∙
    goes_if 2 _ _ _ (ne_eqb _ _ (λ z. c.if-element_size-eq0.false (c.element_size.ensures ∙ z))) ∙
    goes _ _ _ _ (rw (sym m.1) c.check_shape.ensures) c.in_ok-check_shape.was ∙
    ends _ _ _ (source_strides c.args.t c.sizes.ensures (rw (sym m.1) c.resolve.ensures)) c.in_err-stride.was)
    (search rules)

pub bytes-requires : goal.bytes-requires
bytes-requires c =
    let m = c.in_ok-rank.ensures.made in
    λ d h. shape_box c.args.t (rw (sym m.1) (clear _ _ c.check_shape.ensures c.in_ok-check_shape.was)) d (omega (arith, m.1, h))

pub returns : goal.returns
unfolding source_fault
returns c =
    let m = c.in_ok-rank.ensures.made in
    let w = source_strides c.args.t c.sizes.ensures (rw (sym m.1) c.resolve.ensures) in
    ap Ok (source_is c.args.t c.no_fault.ensures (passed_value _ _ w c.in_ok-stride.was) (rw (sym m.1) c.bytes.ensures)) ∙
    sym
    (goes_if 1 _ _ _ m.0 ∙
    goes_if 2 _ _ _ (ne_eqb _ _ (λ z. c.if-element_size-eq0.false (c.element_size.ensures ∙ z))) ∙
    goes _ _ _ _ (rw (sym m.1) c.check_shape.ensures) c.in_ok-check_shape.was ∙
    outcome_ok _ _ (clear _ _ w c.in_ok-stride.was))
