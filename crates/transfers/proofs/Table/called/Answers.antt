-- `transfers::Table::called` gives the slot of a call, or the first of 17, 18, 23 and 24 that holds. Assumes nothing.
use native.Mathlib.Omega.{arith}
use mathlib.Core.Path.{◌≡◌, sym, ap, ◌∙◌}
use borrow.Author.Tests.{ltb-false}
use Rattle.std.specs.Prelude.{Ok, Err}
use Rattle.std.proofs.Common.{rules}
use Rattle.faults.proofs.Faults.{when_clear}
use Rattle.faults.proofs.Outcomes.{passes, tells_ok}
use Rattle.transfers.specs.declared.Slot.{Slot}
use Rattle.transfers.proofs.Answers.{call-closed, call-high, call-free, call-24, call-0}
use Rattle.transfers.proofs.Table.called.Goals as goal

pub returns-in_err-opened : goal.returns-in_err-opened
returns-in_err-opened c =
    let r : c.from_residual.result ≡ Err c.in_err-opened.field-0.0 = search rules in
    r ∙ call-closed c.args.self c.args.n c.args.handle c.args.want c.in_err-opened.ensures

pub returns-in_err-slot : goal.returns-in_err-slot
returns-in_err-slot c =
    let r : c.from_residual-in_err-slot.result ≡ Err c.in_err-slot.field-0.0 = search rules in
    r ∙ call-high c.args.self c.args.n c.args.handle c.args.want (tells_ok _ _ c.in_ok-opened.ensures).1 c.in_err-slot.ensures

pub returns-then-state-eq-FREE : goal.returns-then-state-eq-FREE
returns-then-state-eq-FREE c =
    let s = tells_ok _ _ c.in_ok-slot.ensures in
    call-free c.args.self c.args.n c.args.handle c.args.want (tells_ok _ _ c.in_ok-opened.ensures).1
    (ap (λ (x : Slot). x.state) (sym s.0) ∙ c.if-state-eq-FREE.true)

pub returns-then-state-want : goal.returns-then-state-want
returns-then-state-want c =
    let s = tells_ok _ _ c.in_ok-slot.ensures in
    let e = ap (λ (x : Slot). x.state) s.0 in
    call-24 c.args.self c.args.n c.args.handle c.args.want (tells_ok _ _ c.in_ok-opened.ensures).1
    (ltb-false 3 c.args.handle (when_clear 23 0 _ (omega arith) s.1)) (λ z. c.if-state-eq-FREE.false (e ∙ z)) (λ z. c.if-state-want.true (e ∙ z))

pub returns : goal.returns
returns c =
    let s = tells_ok _ _ c.in_ok-slot.ensures in
    let e = ap (λ (x : Slot). x.state) s.0 in
    ap Ok s.0 ∙
    passes _ _ (sym (call-0 c.args.self c.args.n c.args.handle c.args.want (tells_ok _ _ c.in_ok-opened.ensures).1
    (ltb-false 3 c.args.handle (when_clear 23 0 _ (omega arith) s.1)) (λ z. c.if-state-eq-FREE.false (e ∙ z)) (sym e ∙ c.if-state-want.false)))
