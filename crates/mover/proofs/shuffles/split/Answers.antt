-- `mover::shuffles::split`: five shuffles of 96 bytes. Assumes nothing.
use Rattle.std.proofs.Common.{◌^◌, ◌<◌, length, refl, arith, ◌∙◌}
use Rattle.mover.proofs.Tiling.{six_held, split_is}
use Rattle.mover.proofs.shuffles.split.Goals as goal
use Rattle.mover.proofs.shuffles.split.Goals.{Start}

long : (s : Start) → length s.args.src.now < 2 ^ 64
long s = omega (arith, s.well_formed)

pub shuffled-requires : goal.shuffled-requires
shuffled-requires c =
    (omega arith, (six_held c.args.src.now c.args.at c.requires (long (goal.at-shuffled-requires c).Start), ((λ e. omega arith, refl), (omega arith, refl))))

pub returns : goal.returns
returns c = c.shuffled.ensures ∙ split_is c.args.src.now c.args.at c.requires (long (goal.at-returns c).Start)
