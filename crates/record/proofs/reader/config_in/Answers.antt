-- `record::reader::config_in` meets its contract. Assumes nothing.
use native.Mathlib.Omega.{arith}
use Rattle.plane.specs.Arrays.{sum}
use Rattle.record.specs.Layout.{start}
use Rattle.record.specs.Records.{config_in}
use Rattle.record.proofs.Digits.{singles_are}
use Rattle.record.proofs.reader.config_in.Goals as goal

pub returns : goal.returns
unfolding config_in start sum
returns c =
    rw (
      c.fill_in.ensures,
      singles_are 127 c.args.bytes.now (omega arith) c.part-3.ensures,
      singles_are 123 c.args.bytes.now (omega arith) c.part-2.ensures,
      singles_are 119 c.args.bytes.now (omega arith) c.part.ensures,
      c.words-5.ensures,
      c.words-4.ensures,
      c.words-3.ensures,
      c.words-2.ensures,
      c.words.ensures,
    )
