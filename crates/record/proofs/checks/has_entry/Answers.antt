-- `record::checks::has_entry` meets its contract. Assumes nothing.
use Rattle.plane.specs.Arrays.{some}
use Rattle.record.proofs.TwosComplement.{machine_word}
use Rattle.record.proofs.checks.has_entry.Goals as goal

pub returns : goal.returns
unfolding some
returns c =
    rw (machine_word c.args.t.now.stride c.args.d)
