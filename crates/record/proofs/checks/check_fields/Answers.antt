-- `record::checks::check_fields` meets its contract. Assumes nothing.
use mathlib.Core.Path.{refl, sym, ap, ◌∙◌}
use native.Mathlib.Omega.{arith}
use borrow.Author.Rules.{rules}
use borrow.Author.Tests.{eq-eqb, ne_eqb}
use Rattle.faults.specs.declared.Fault.{Fault}
use Rattle.faults.specs.Faults.{outcome}
use Rattle.faults.proofs.Bools.{in_range}
use Rattle.faults.proofs.Faults.{status}
use Rattle.faults.proofs.Outcomes.{passes, refuses, clear, found, ends, stops}
use Rattle.record.proofs.Fields.{fields_1, fields_plain, fields_2, fields_stray, fields_fill, fields_good}
use Rattle.record.proofs.checks.check_fields.Goals as goal

pub returns-then-rank_is_bad : goal.returns-then-rank_is_bad
returns-then-rank_is_bad c =
    refuses tt (sym (fields_1 c.args.version c.args.tensor.now c.args.config.now (sym c.rank_is_bad.ensures ∙ c.if-rank_is_bad.true))) (λ z. omega arith)

pub check_stray-requires : goal.check_stray-requires
check_stray-requires c = (in_range _ 1 4 (sym c.rank_is_bad.ensures ∙ c.if-rank_is_bad.false)).1

pub returns-then-is_plain : goal.returns-then-is_plain
returns-then-is_plain c =
    c.check_stray.ensures ∙
    ap (λ (f : Fault). outcome f tt)
    (fields_plain c.args.version c.args.tensor.now c.args.config.now (sym c.rank_is_bad.ensures ∙ c.if-rank_is_bad.false) c.if-is_plain.true refl)

pub returns-then-element_size-eq0 : goal.returns-then-element_size-eq0
returns-then-element_size-eq0 c =
    refuses tt
    (sym (fields_2 c.args.version c.args.tensor.now c.args.config.now (sym c.rank_is_bad.ensures ∙ c.if-rank_is_bad.false) c.if-is_plain.false
    (eq-eqb _ _ (sym c.element_size.ensures ∙ c.if-element_size-eq0.true))))
    (λ z. omega arith)

pub returns-in_err-check_stray : goal.returns-in_err-check_stray
returns-in_err-check_stray c =
    let w = c.check_stray-2.ensures in
    let p = c.in_err-check_stray.was in
    stops
    (ap (λ (f : Fault). outcome f tt)
    (sym (fields_stray c.args.version c.args.tensor.now c.args.config.now (sym c.rank_is_bad.ensures ∙ c.if-rank_is_bad.false) c.if-is_plain.false
    (ne_eqb _ _ (λ e. c.if-element_size-eq0.false (c.element_size.ensures ∙ e))) refl (found _ tt w p))) ∙
    ends _ tt tt w p)
    (search rules)

pub returns-then-fill_is_bad : goal.returns-then-fill_is_bad
returns-then-fill_is_bad c =
    refuses tt
    (sym (fields_fill c.args.version c.args.tensor.now c.args.config.now (sym c.rank_is_bad.ensures ∙ c.if-rank_is_bad.false) c.if-is_plain.false
    (ne_eqb _ _ (λ e. c.if-element_size-eq0.false (c.element_size.ensures ∙ e))) refl (clear _ tt c.check_stray-2.ensures c.in_ok-check_stray.was)
    (sym c.fill_is_bad.ensures ∙ c.if-fill_is_bad.true)))
    (λ z. omega arith)

pub returns : goal.returns
returns c =
    passes _ tt
    (sym (status (fields_good c.args.version c.args.tensor.now c.args.config.now (sym c.rank_is_bad.ensures ∙ c.if-rank_is_bad.false) c.if-is_plain.false
    (ne_eqb _ _ (λ e. c.if-element_size-eq0.false (c.element_size.ensures ∙ e))) refl (sym c.fill_is_bad.ensures ∙ c.if-fill_is_bad.false))) ∙
    clear _ tt c.check_stray-2.ensures c.in_ok-check_stray.was)
