-- `record::writer::put_fill` meets its contract. Assumes nothing.
use mathlib.Core.Path.{ap, ◌∙◌}
use Rattle.std.proofs.lemmas.List.Edits.{sets}
use borrow.Author.Tests.{eq-eqb, ne_eqb}
use Rattle.plane.specs.Numbers.{little}
use Rattle.record.proofs.Digits.{word_bytes}
use Rattle.record.proofs.writer.put_fill.Goals as goal

pub returns-then-c-eq0 : goal.returns-then-c-eq0
unfolding little
returns-then-c-eq0 c = simp (eq-eqb _ _ c.if-c-eq0.true)

pub returns : goal.returns
returns c = simp (ne_eqb _ _ c.if-c-eq0.false) (c.put.ensures ∙ ap (sets c.args.room.now 131) (c.to_le_bytes.ensures ∙ word_bytes c.args.c.fill))
