-- `record::writer::put_tensor` meets its contract. Assumes nothing.
use Rattle.record.proofs.Laying.{tensor_laid}
use Rattle.record.proofs.writer.put_tensor.Goals as goal

pub returns : goal.returns
returns c =
    tensor_laid c.args.room.now c.args.version c.args.t c.put_head.ensures c.put_words.ensures c.words_of.ensures c.put_words-2.ensures
