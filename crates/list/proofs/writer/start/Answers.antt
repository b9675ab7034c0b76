-- `list::writer::start` meets its contract. Assumes nothing.
use mathlib.Core.Path.{sym, ◌∙◌}
use Rattle.record.proofs.Digits.{half_bytes}
use Rattle.list.specs.Layout.{list_version}
use Rattle.list.proofs.Writing.{start_38, start_0, start_given, start_laid}
use Rattle.list.proofs.writer.start.Goals as goal

pub returns-then-buffer-lt-HEAD-clause-answered : goal.returns-then-buffer-lt-HEAD-clause-answered
returns-then-buffer-lt-HEAD-clause-answered c = (start_38 c.args.buffer.now c.if-buffer-lt-HEAD.true).0

pub returns-then-buffer-lt-HEAD-clause-written : goal.returns-then-buffer-lt-HEAD-clause-written
returns-then-buffer-lt-HEAD-clause-written c = (start_38 c.args.buffer.now c.if-buffer-lt-HEAD.true).1

pub returns-clause-answered : goal.returns-clause-answered
returns-clause-answered c = sym (start_0 c.args.buffer.now c.if-buffer-lt-HEAD.false)

pub returns-clause-written : goal.returns-clause-written
returns-clause-written c =
    let buffer = c.args.buffer.now in
    start_laid buffer c.if-buffer-lt-HEAD.false c.copy_from_slice.ensures.after
    (c.copy_from_slice-2.ensures.after ∙ c.to_le_bytes.ensures ∙ half_bytes list_version) c.put_count.ensures ∙
    sym (start_given buffer (start_0 buffer c.if-buffer-lt-HEAD.false))
