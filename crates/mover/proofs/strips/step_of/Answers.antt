-- `mover::strips::step_of` goes by the kind of tile. Assumes nothing.
use Rattle.mover.proofs.strips.step_of.Goals as goal

pub returns-in-Turned : goal.returns-in-Turned
returns-in-Turned c = rw (c.in-Turned.is, c.sixteenth.ensures, c.across.ensures)

pub returns-in-Split : goal.returns-in-Split
returns-in-Split c = rw c.in-Split.is

pub returns-in-Merged : goal.returns-in-Merged
returns-in-Merged c = rw c.in-Merged.is
