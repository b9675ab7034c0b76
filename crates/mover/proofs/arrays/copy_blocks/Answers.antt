use Rattle.std.proofs.Common.{◌≡◌, sym, ◌∙◌, refl, arith}
use lib.Seq.{sets}
use Rattle.mover.specs.Private.Runs.{kept_bytes}
use Rattle.mover.proofs.Adding.{along_none, along_next}
use Rattle.mover.proofs.Runs.{done_start, done_next}
use Rattle.mover.proofs.arrays.copy_blocks.Goals as goal

pub loop-init : goal.loop-init
loop-init c =
    let a = c.args.c in (
      done_start (kept_bytes c.args.src.now a) a.to a.stride a.n c.args.dst.now (omega (arith, c.well_formed)),
      sym (along_none a.at a.jump (omega (arith, c.well_formed))),
    )

pub loop-preserved : goal.loop-preserved
loop-preserved c =
    let l = c.loop in
    let a = c.args.c in
    let e : c.copy_block.new.dst ≡ sets l.dst l.to (kept_bytes c.args.src.now a l.counter) = c.copy_block.ensures ∙ rw l.invariant.1 in (
      done_next l.invariant.0 c.loop-test.true refl e,
      rw l.invariant.1 (along_next a.at a.jump l.counter),
    )
