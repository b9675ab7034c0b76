-- `list::writer::check_append` meets its contract. Assumes nothing.
use mathlib.Core.Path.{sym, ap, ◌∙◌}
use native.Mathlib.Omega.{arith}
use borrow.Author.Rules.{rules}
use lib.ListN.{take}
use Rattle.std.specs.Prelude.{Ok}
use Rattle.faults.specs.declared.Fault.{Fault}
use Rattle.faults.specs.Faults.{outcome}
use Rattle.faults.proofs.Faults.{status}
use Rattle.faults.proofs.Outcomes.{passes, refuses, clear, passed_value, found, ends, stops}
use Rattle.list.specs.Lists.{record_count}
use Rattle.list.proofs.Writing.{append_25, append_list, count_so_far, append_37, append_38, append_fields}
use Rattle.list.proofs.Members.{member_fields, member_27, member_good}
use Rattle.list.proofs.writer.check_append.Goals as goal

pub returns-then-buffer-length : goal.returns-then-buffer-length
returns-then-buffer-length c =
    refuses _ (append_25 c.args.buffer.now c.args.length c.args.tensor c.args.config c.if-buffer-length.true) (λ z. omega arith)

pub returns-in_err-count : goal.returns-in_err-count
returns-in_err-count c =
    let w = c.check_list.ensures in
    let p = c.in_err-count.was in
    let x = record_count (take c.args.length c.args.buffer.now) in
    stops
    (ap (λ (f : Fault). outcome f x)
    (append_list c.args.buffer.now c.args.length c.args.tensor c.args.config c.if-buffer-length.false (found _ _ w p)) ∙ ends _ _ x w p)
    (search rules)

pub returns-then-count : goal.returns-then-count
returns-then-count c =
    let w = c.check_list.ensures in
    let p = c.in_ok-count.was in
    refuses _
    (append_37 c.args.buffer.now c.args.length c.args.tensor c.args.config c.if-buffer-length.false (clear _ _ w p)
    (sym (passed_value _ _ w p) ∙ c.if-count.true))
    (λ z. omega arith)

pub returns-then-buffer-length-lt-LENGTH : goal.returns-then-buffer-length-lt-LENGTH
returns-then-buffer-length-lt-LENGTH c =
    let w = c.check_list.ensures in
    let p = c.in_ok-count.was in
    refuses _
    (append_38 c.args.buffer.now c.args.length c.args.tensor c.args.config c.if-buffer-length.false (clear _ _ w p)
    (λ e. c.if-count.false (passed_value _ _ w p ∙ e)) c.if-buffer-length-lt-LENGTH.true)
    (λ z. omega arith)

pub returns-in_err-checked : goal.returns-in_err-checked
returns-in_err-checked c =
    let w = c.check_list.ensures in
    let p = c.in_ok-count.was in
    let v = c.checked.ensures in
    let q = c.in_err-checked.was in
    let x = record_count (take c.args.length c.args.buffer.now) in
    stops
    (ap (λ (f : Fault). outcome f x)
    (append_fields c.args.buffer.now c.args.length c.args.tensor c.args.config c.if-buffer-length.false (clear _ _ w p)
    (λ e. c.if-count.false (passed_value _ _ w p ∙ e)) c.if-buffer-length-lt-LENGTH.false ∙
    member_fields c.args.tensor c.args.config c.fields_fault.ensures (found _ tt v q)) ∙
    ends _ tt x v q)
    (search rules)

pub returns-then-has_fill : goal.returns-then-has_fill
returns-then-has_fill c =
    let w = c.check_list.ensures in
    let p = c.in_ok-count.was in
    refuses _
    (append_fields c.args.buffer.now c.args.length c.args.tensor c.args.config c.if-buffer-length.false (clear _ _ w p)
    (λ e. c.if-count.false (passed_value _ _ w p ∙ e)) c.if-buffer-length-lt-LENGTH.false ∙
    member_27 c.args.tensor c.args.config c.fields_fault.ensures (clear _ tt c.checked.ensures c.in_ok-checked.was) c.if-has_fill.true)
    (λ z. omega arith)

pub returns : goal.returns
returns c =
    let w = c.check_list.ensures in
    let p = c.in_ok-count.was in
    let l = clear _ _ w p in
    ap Ok (passed_value _ _ w p ∙ count_so_far c.args.buffer.now c.args.length c.args.tensor c.args.config c.if-buffer-length.false l) ∙
    passes _ _
    (status (append_fields c.args.buffer.now c.args.length c.args.tensor c.args.config c.if-buffer-length.false l
    (λ e. c.if-count.false (passed_value _ _ w p ∙ e)) c.if-buffer-length-lt-LENGTH.false) ∙
    member_good c.args.tensor c.args.config c.fields_fault.ensures (clear _ tt c.checked.ensures c.in_ok-checked.was) c.if-has_fill.false)
