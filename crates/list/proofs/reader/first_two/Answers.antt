-- `list::reader::first_two` meets its contract: what the reader that is opened answers, asked twice, is what the plain functions say.
-- Assumes nothing.
use mathlib.Core.Path.{ap, ◌∙◌}
use Rattle.list.specs.Readers.{answer}
use Rattle.list.proofs.Handing.{by_reader}
use Rattle.list.proofs.reader.first_two.Goals as goal

pub returns : goal.returns
returns c =
    by_reader c.args.bytes c.open-opened.result c.next-first.result c.next-second.result c.open-opened.ensures
    c.next-first.ensures.0 (c.next-second.ensures.0 ∙ ap answer c.next-first.ensures.1)
