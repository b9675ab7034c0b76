-- `mover::ways::copy_narrow` goes one of three ways. Assumes nothing.
use Rattle.std.proofs.Common.{◌∙◌}
use Rattle.mover.proofs.Patched.{swap_fits, swap_reads, swap_copied}
use Rattle.mover.proofs.ways.copy_narrow.Goals as goal

pub copy_strip-requires : goal.copy_strip-requires
copy_strip-requires c =
    record {
      tiled = c.is_merged.ensures c.if-is_merged.true;
      patch_fits = rw c.swapped-columns.ensures (swap_fits c.requires.patch_fits);
      patch_reads = rw c.swapped-columns.ensures (swap_reads c.requires.patch_reads);
    }

pub returns-then-is_merged : goal.returns-then-is_merged
returns-then-is_merged c =
    (rw c.swapped-columns.ensures at c.copy_strip.ensures) ∙ swap_copied c.args.origin c.requires.patch_fits

pub copy_rows-requires-else-is_merged : goal.copy_rows-requires-else-is_merged
copy_rows-requires-else-is_merged c =
    rw c.swapped-columns.ensures (record {
      patch_fits = swap_fits c.requires.patch_fits;
      patch_reads = swap_reads c.requires.patch_reads;
    })

pub returns-else-is_merged : goal.returns-else-is_merged
returns-else-is_merged c =
    (rw c.swapped-columns.ensures at c.copy_rows-else-is_merged.ensures) ∙ swap_copied c.args.origin c.requires.patch_fits
