-- `list::writer::append` meets its contract. Assumes nothing.
use mathlib.Core.Logic.{◌≢◌}
use mathlib.Core.Path.{sym, ap, ◌∙◌}
use native.Mathlib.Omega.{arith}
use borrow.Author.Rules.{rules}
use Rattle.faults.proofs.Outcomes.{clear, passed_value, found, fault_is}
use Rattle.list.specs.Writers.{no_append}
use Rattle.list.proofs.Writing.{append_same, append_refused, append_told, append_room, append_more, append_0}
use Rattle.list.proofs.writer.append.Goals as goal

pub overflow_add-end : goal.overflow_add-end
overflow_add-end c =
    let h = append_room c.args.buffer.now c.args.length c.args.tensor c.args.config (clear _ _ c.check_append.ensures c.in-Ok.is) in
    search rules

pub slice_bounds-write-end : goal.slice_bounds-write-end
slice_bounds-write-end c =
    omega (arith, append_room c.args.buffer.now c.args.length c.args.tensor c.args.config (clear _ _ c.check_append.ensures c.in-Ok.is))

pub overflow_add-count : goal.overflow_add-count
overflow_add-count c =
    let w = c.check_append.ensures in
    let d : c.in-Ok.count ≢ 65535 = λ e. append_more c.args.buffer.now c.args.length c.args.tensor c.args.config (clear _ _ w c.in-Ok.is) (sym (passed_value _ _ w c.in-Ok.is) ∙ e) in
    search rules

pub returns-in-Ok-clause-answered : goal.returns-in-Ok-clause-answered
returns-in-Ok-clause-answered c =
    sym (append_told c.args.buffer.now c.args.length c.args.tensor c.args.config (clear _ _ c.check_append.ensures c.in-Ok.is))

pub returns-in-Ok-clause-written : goal.returns-in-Ok-clause-written
returns-in-Ok-clause-written c =
    let w = c.check_append.ensures in
    append_0 c.args.buffer.now c.args.length c.args.tensor c.args.config (clear _ _ w c.in-Ok.is) c.write.ensures.written
    (passed_value _ _ w c.in-Ok.is) c.put_count.ensures

pub returns-in-Err-clause-answered : goal.returns-in-Err-clause-answered
returns-in-Err-clause-answered c =
    let w = c.check_append.ensures in
    ap no_append (sym (fault_is _ _ w c.in-Err.is)) ∙
    sym (append_refused c.args.buffer.now c.args.length c.args.tensor c.args.config (found _ _ w c.in-Err.is))

pub returns-in-Err-clause-written : goal.returns-in-Err-clause-written
returns-in-Err-clause-written c =
    sym (append_same c.args.buffer.now c.args.length c.args.tensor c.args.config (found _ _ c.check_append.ensures c.in-Err.is))
