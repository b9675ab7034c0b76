-- `transfers::sound::breaks` tells whether two jobs break the rule. Assumes nothing.
use Rattle.transfers.specs.Slots.{breaks}
use Rattle.transfers.proofs.sound.breaks.Goals as goal

pub returns : goal.returns
unfolding breaks
returns c = rw (c.meets-3.ensures, c.meets-2.ensures, c.meets.ensures)
