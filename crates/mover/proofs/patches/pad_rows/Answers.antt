use Rattle.std.proofs.Common.{refl, arith}
use Rattle.mover.proofs.Patched.{pads_start, pads_next}
use Rattle.mover.proofs.patches.pad_rows.Goals as goal

pub loop-init : goal.loop-init
loop-init c = pads_start c.args.dst.now c.args.p (omega (arith, c.well_formed))

pub loop-preserved : goal.loop-preserved
loop-preserved c =
    pads_next c.loop.invariant c.requires c.args.p.at c.loop-test.true (rw c.row.ensures at c.pad_run.ensures.written) refl
