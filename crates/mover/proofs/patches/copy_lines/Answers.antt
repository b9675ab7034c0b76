use Rattle.std.proofs.Common.{◌∙◌, refl, arith}
use Rattle.mover.proofs.Patched.{rows_start, rows_length, row_block, rows_next, rows_end}
use Rattle.mover.proofs.patches.copy_lines.Goals as goal

pub bytes-n-requires : goal.bytes-n-requires
bytes-n-requires c =
    let start = rows_start c.args.origin c.args.dst.now c.args.p (omega (arith, c.well_formed)) (omega (arith, c.well_formed)) in record {
      sized = c.requires.patch_fits.sized;
      size_bound = (row_block start c.requires.patch_fits c.requires.patch_reads c.requires.lines.some c.requires.lines.jump c.requires.lines.stride (omega (arith, c.well_formed))).fits;
    }

pub loop-init : goal.loop-init
loop-init c =
    rows_start c.args.origin c.args.dst.now c.args.p (omega (arith, c.well_formed)) (omega (arith, c.well_formed))

pub copy_bytes-requires : goal.copy_bytes-requires
copy_bytes-requires c =
    rw c.bytes-n.ensures (row_block c.loop.invariant c.requires.patch_fits c.requires.patch_reads c.loop-test.true c.requires.lines.jump c.requires.lines.stride (omega (arith, c.well_formed))).asks

pub loop-preserved : goal.loop-preserved
loop-preserved c =
    rows_next c.loop.invariant c.requires.patch_fits c.requires.patch_reads c.loop-test.true
    ((rw c.bytes-n.ensures at c.copy_bytes.ensures) ∙ (row_block c.loop.invariant c.requires.patch_fits c.requires.patch_reads c.loop-test.true c.requires.lines.jump c.requires.lines.stride (omega (arith, c.well_formed))).copied)
    refl refl

pub loop-smaller : goal.loop-smaller
loop-smaller c = omega (arith, c.loop-test.true)

pub shape_of-dst : goal.shape_of-dst
shape_of-dst c = rows_length c.loop.invariant c.requires.patch_fits c.requires.patch_reads

pub returns : goal.returns
returns c = rows_end c.loop.invariant c.requires.patch_fits c.requires.patch_reads c.loop-test.false
