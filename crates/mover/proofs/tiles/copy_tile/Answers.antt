-- `mover::tiles::copy_tile` goes by the kind of tile. Assumes nothing.
use Rattle.std.proofs.Common.{◌≡◌, ◌^◌, ◌<◌, length, ap, ◌∙◌, subst, arith}
use Rattle.mover.specs.declared.tiles.Tile.{Tile}
use Rattle.mover.specs.Private.Patches.{Tiled, tile_columns}
use Rattle.mover.proofs.Blocks.{rows_held}
use Rattle.mover.proofs.Spreading.{length_split, length_merged, split_reads, split_writes, split_is, merged_reads, merged_writes, merged_is}
use Rattle.mover.proofs.tiles.copy_tile.Goals as goal
use Rattle.mover.proofs.tiles.copy_tile.Goals.{Start}

long : (s : Start) → length s.args.dst.now < 2 ^ 63
long s = omega (arith, s.well_formed)

-- what the kind of tile says
told : (s : Start) {t : Tile} → s.args.tile ≡ t → Tiled t s.args.p × (s.args.p.columns ≡ tile_columns t s.args.p)
told s e = subst (λ (t : Tile). Tiled t s.args.p × (s.args.p.columns ≡ tile_columns t s.args.p)) e s.requires.tiled

pub split-t-requires : goal.split-t-requires
split-t-requires c =
    let k = told (goal.at-split-t-requires c).Start c.in-Split.is in
    rw c.source.ensures (split_reads c.requires.patch_fits c.requires.patch_reads (long (goal.at-split-t-requires c).Start) (omega (arith, c.well_formed)) k.0 k.1)

pub copy_blocks-requires : goal.copy_blocks-requires
copy_blocks-requires c =
    let k = told (goal.at-copy_blocks-requires c).Start c.in-Split.is in
    let l = ap length c.split-t.ensures ∙ length_split _ _ in
    rw c.rows_of.ensures (record {
      held = rows_held (length c.split-t.result) 32 3 (omega arith) (omega arith);
      held_2 = split_writes c.requires.patch_fits c.requires.patch_reads (long (goal.at-copy_blocks-requires c).Start) (omega (arith, c.well_formed)) k.0 k.1;
    })

pub merge-t-requires : goal.merge-t-requires
merge-t-requires c =
    let k = told (goal.at-merge-t-requires c).Start c.in-Merged.is in
    rw c.source-in-Merged.ensures (merged_reads c.requires.patch_fits c.requires.patch_reads (long (goal.at-merge-t-requires c).Start) (omega (arith, c.well_formed)) k.0 k.1)

pub copy_block-requires : goal.copy_block-requires
copy_block-requires c =
    let k = told (goal.at-copy_block-requires c).Start c.in-Merged.is in
    let l = ap length c.merge-t.ensures ∙ length_merged _ _ _ in record {
      n_in_bounds = omega arith;
      n_in_bounds_2 = merged_writes c.requires.patch_fits c.requires.patch_reads (long (goal.at-copy_block-requires c).Start) (omega (arith, c.well_formed)) k.0 k.1;
    }

pub returns-in-Split : goal.returns-in-Split
returns-in-Split c =
    let k = told (goal.at-returns-in-Split c).Start c.in-Split.is in
    split_is c.requires.patch_fits c.requires.patch_reads (long (goal.at-returns-in-Split c).Start) (omega (arith, c.well_formed)) k.0 k.1 (rw c.source.ensures at c.split-t.ensures) (rw c.rows_of.ensures at c.copy_blocks.ensures)

pub returns-in-Merged : goal.returns-in-Merged
returns-in-Merged c =
    let k = told (goal.at-returns-in-Merged c).Start c.in-Merged.is in
    merged_is c.requires.patch_fits c.requires.patch_reads (long (goal.at-returns-in-Merged c).Start) (omega (arith, c.well_formed)) k.0 k.1 (rw c.source-in-Merged.ensures at c.merge-t.ensures) c.copy_block.ensures
