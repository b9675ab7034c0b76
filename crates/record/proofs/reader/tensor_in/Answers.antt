-- `record::reader::tensor_in` meets its contract. Assumes nothing.
use Rattle.plane.specs.Arrays.{sum}
use Rattle.record.specs.Layout.{start}
use Rattle.record.specs.Records.{tensor_in}
use Rattle.record.proofs.reader.tensor_in.Goals as goal

pub returns : goal.returns
unfolding tensor_in start sum
returns c = rw (c.of_words.ensures, c.words-2.ensures, c.words.ensures)
