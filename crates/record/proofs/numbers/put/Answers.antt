-- `record::numbers::put` meets its contract. Assumes nothing.
use Rattle.record.proofs.Parts.{part_put}
use Rattle.record.proofs.numbers.put.Goals as goal

pub returns : goal.returns
returns c = part_put c.args.room.now c.args.p c.args.bytes.now c.copy_from_slice.new.self c.requires c.copy_from_slice.ensures.after
