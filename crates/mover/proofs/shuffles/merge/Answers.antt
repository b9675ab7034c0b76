-- `mover::shuffles::merge`: two shuffles of three blocks side by side, and the first three of each four. Assumes nothing.
use Rattle.mover.proofs.Tiling.{merged_is}
use Rattle.mover.proofs.shuffles.merge.Goals as goal

pub returns : goal.returns
returns c =
    rw (c.threes.ensures, c.shuffled.ensures) (merged_is c.args.src.now c.args.at c.args.jump c.requires)
