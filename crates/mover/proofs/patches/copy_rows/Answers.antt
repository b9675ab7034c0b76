use Rattle.std.proofs.Common.{◌∙◌, refl, arith}
use Rattle.mover.proofs.Patched.{rows_start, rows_next}
use Rattle.mover.proofs.patches.copy_rows.Goals as goal
use Rattle.mover.proofs.patches.copy_rows.Goals.{then-c-lt16, else-c-lt16}

pub loop-init : goal.loop-init
loop-init c =
    rows_start c.args.origin c.args.dst.now c.args.p (omega (arith, c.well_formed)) (omega (arith, c.well_formed))

pub loop-preserved : goal.loop-preserved
loop-preserved c =
    rows_next c.loop.invariant c.requires.patch_fits c.requires.patch_reads c.loop-test.true
    (elim c.if-c-lt16.branch [
      | then-c-lt16 w ↦ w.dst-is ∙ (rw c.row-c.ensures at w.copy_each.ensures.written)
      | else-c-lt16 w ↦ w.dst-is ∙ (rw c.row-c.ensures at w.copy_run.ensures.written)
    ])
    refl refl
