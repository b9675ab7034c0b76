-- `mover::tiles::copy_square` reads a tile, turned, and stores its rows. Assumes nothing.
use Rattle.std.proofs.Common.{◌≡◌, ℕ, List, ◌^◌, ◌<◌, length, sym, ap, ◌∙◌, arith}
use Rattle.mover.specs.Private.Elements.{source_bytes}
use Rattle.mover.specs.Private.Runs.{Held}
use Rattle.mover.specs.Private.Patches.{sixteenth_of}
use Rattle.mover.specs.Private.Shuffles.{shuffled, rows_read, tile_of}
use Rattle.mover.proofs.Blocks.{rows_held}
use Rattle.mover.proofs.Spreading.{turned_reads, turned_writes, turned_is, length_tile}
use Rattle.mover.proofs.tiles.copy_square.Given.{Over}
use Rattle.mover.proofs.tiles.copy_square.Goals as goal
use Rattle.mover.proofs.tiles.copy_square.Goals.{Start}

module _ (g : Over) (s : Start g) where
  long : length s.args.dst.now < 2 ^ 63
  long = omega (arith, s.well_formed)

  reads : Held (length (source_bytes s.args.origin s.args.dst.now)) s.args.p.at s.args.p.jump 16 s.args.s.rows
  reads = turned_reads s.requires.patch_fits s.requires.patch_reads long s.requires.tiled.0 s.requires.tiled.1 g.row.SIZE s.args.s.rows s.requires.turned.0 (sym s.requires.turned.1.rows)

  writes : Held (length s.args.dst.now) s.args.p.to s.args.p.row_stride 16 s.args.s.rows
  writes = turned_writes s.requires.patch_fits s.requires.patch_reads long s.requires.tiled.0 s.requires.tiled.1 g.row.SIZE s.args.s.rows s.requires.turned.0 (sym s.requires.turned.1.rows)

  -- what is read is the tile, turned
  tile : {v t : List ℕ} → v ≡ source_bytes s.args.origin s.args.dst.now
      → t ≡ shuffled g.row.SIZE s.args.s (rows_read v s.args.p.at s.args.p.jump s.args.s.rows g.row.N)
      → t ≡ tile_of g.row.SIZE (source_bytes s.args.origin s.args.dst.now) s.args.p.at s.args.p.jump
  tile e t =
      (rw e at t) ∙ s.requires.turned.1.turned (source_bytes s.args.origin s.args.dst.now) s.args.p.at s.args.p.jump reads

pub shuffled-t-requires : goal.shuffled-t-requires
shuffled-t-requires g c =
    let t = c.requires.turned.1 in
    (omega (arith, t.small), (rw c.source.ensures (reads g (goal.at-shuffled-t-requires g c).Start), ((rw c.requires.turned.0 at c.requires.patch_fits.sized, t.whole), (omega (arith, t.bytes), t.halves))))

pub copy_blocks-requires : goal.copy_blocks-requires
copy_blocks-requires g c =
    let t = c.requires.turned.1 in
    let l = ap length (tile g (goal.at-copy_blocks-requires g c).Start c.source.ensures c.shuffled-t.ensures) ∙ length_tile g.row.SIZE _ _ _ ∙ t.all in
    rw c.rows_of.ensures (record {
      held = rows_held (length c.shuffled-t.result) 16 c.args.s.rows (omega (arith, l, t.bytes)) (omega (arith, l, t.small));
      held_2 = writes g (goal.at-copy_blocks-requires g c).Start;
    })

pub returns : goal.returns
returns g c =
    let t = c.requires.turned.1 in
    turned_is c.requires.patch_fits c.requires.patch_reads (long g (goal.at-returns g c).Start) c.requires.tiled.0 c.requires.tiled.1 c.args.s.rows g.row.N (c.requires.tiled.0.rows ∙ ap sixteenth_of c.requires.turned.0 ∙ sym t.rows) (rw c.requires.turned.0 t.all) t.bytes (omega (arith, t.bytes, t.small))
    (rw c.requires.turned.0 (tile g (goal.at-returns g c).Start c.source.ensures c.shuffled-t.ensures))
    (rw c.rows_of.ensures at c.copy_blocks.ensures)
