-- `list::writer::put_count` meets its contract. Assumes nothing.
use mathlib.Core.Path.{◌∙◌}
use Rattle.plane.specs.Numbers.{little}
use Rattle.list.specs.Layout.{count_place}
use Rattle.record.proofs.Parts.{part_put}
use Rattle.record.proofs.Digits.{half_bytes}
use Rattle.list.proofs.writer.put_count.Goals as goal

pub returns : goal.returns
unfolding little
returns c =
    part_put c.args.buffer.now count_place (little 2 c.args.count) c.copy_from_slice.new.self c.requires
    (c.copy_from_slice.ensures.after ∙ c.to_le_bytes.ensures ∙ half_bytes c.args.count)
