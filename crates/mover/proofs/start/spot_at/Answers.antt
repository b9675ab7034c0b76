-- `mover::start::spot_at` multiplies, where the sums fit. Assumes nothing.
use Rattle.std.proofs.Common.{ap, ◌∙◌}
use Rattle.mover.specs.Private.Adding.{along}
use Rattle.mover.proofs.Adding.{spot_made, jumps_fit}
use Rattle.mover.proofs.start.spot_at.Goals as goal

pub after-requires : goal.after-requires
after-requires c =
    rw c.jumps.ensures (jumps_fit c.args.x c.args.c c.requires.jump_bound)

pub returns : goal.returns
returns c =
    spot_made c.args.s c.args.x c.args.c c.requires.stride_bound (c.after.ensures ∙ ap (along c.args.s.at c.args.x.jump) c.jumps.ensures)
