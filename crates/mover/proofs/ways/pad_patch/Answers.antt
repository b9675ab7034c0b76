-- `mover::ways::pad_patch` pads row by row, or column by column. Assumes nothing.
use Rattle.std.proofs.Common.{◌∙◌}
use Rattle.mover.proofs.Patched.{swap_fits, swap_padded}
use Rattle.mover.proofs.ways.pad_patch.Goals as goal

pub pad_rows-requires : goal.pad_rows-requires
pad_rows-requires c = rw c.swapped.ensures (swap_fits c.requires)

pub returns-then-p : goal.returns-then-p
returns-then-p c =
    (rw c.swapped.ensures at c.pad_rows.ensures) ∙ swap_padded c.requires
