-- `mover::bands::behind` goes to the last row of a band, and a stride on. Assumes nothing.
use Rattle.std.proofs.Common.{◌∙◌}
use Rattle.mover.proofs.Banding.{behind_rows_lem}
use Rattle.mover.proofs.bands.behind.Goals as goal

pub returns : goal.returns
returns c =
    c.next_row.ensures ∙ behind_rows_lem c.args.s c.args.x c.args.c c.requires.count_nonzero.1 c.spot_at-row.ensures
