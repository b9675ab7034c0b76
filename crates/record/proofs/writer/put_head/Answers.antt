-- `record::writer::put_head` meets its contract. Assumes nothing.
use Rattle.plane.specs.Numbers.{little}
use Rattle.record.proofs.writer.put_head.Goals as goal

pub returns : goal.returns
unfolding little
returns c = rw (c.put-3.ensures, c.put-2.ensures, c.to_le_bytes.ensures, c.put.ensures)
