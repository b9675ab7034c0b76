use Rattle.std.proofs.Common.{ℕ, arith}
use lib.ListN.{length-replicate}
use Rattle.mover.proofs.Blocks.{rows_held}
use Rattle.mover.proofs.shuffles.shuffled.Goals as goal

pub copy_blocks-requires-clause-held_2 : goal.copy_blocks-requires-clause-held_2
copy_blocks-requires-clause-held_2 g c =
    let l = length-replicate {A = ℕ} g.row.N 0 in
    let h = c.requires.halves.0 in
    rw l (rows_held g.row.N 16 c.args.s.rows h (omega (arith, g.N.fits)))
