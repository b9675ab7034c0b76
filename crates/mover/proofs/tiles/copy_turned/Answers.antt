-- `mover::tiles::copy_turned` takes the shuffle that turns elements of their size. Assumes nothing.
use Rattle.std.proofs.Common.{arith}
use Rattle.plane.proofs.Bounds.{element_four}
use Rattle.mover.proofs.Tiling.{turned_ones, turned_twos, turned_fours}
use Rattle.mover.proofs.tiles.copy_turned.Goals as goal

pub copy_square-requires-clause-turned : goal.copy_square-requires-clause-turned
copy_square-requires-clause-turned c = (c.in-1.is, turned_ones)

pub copy_square-requires-in-2-clause-turned : goal.copy_square-requires-in-2-clause-turned
copy_square-requires-in-2-clause-turned c = (c.in-2.is, turned_twos)

pub copy_square-requires-in_default-clause-turned :
    goal.copy_square-requires-in_default-clause-turned
copy_square-requires-in_default-clause-turned c =
    (element_four c.args.p.size c.requires.patch_fits.sized (λ e. omega (arith, c.in_default)) (λ e. omega (arith, c.in_default)) c.requires.tiled.0.turns.size, turned_fours)
