use Rattle.std.proofs.Common.{refl, arith}
use Rattle.mover.specs.Private.Runs.{pad_bytes}
use Rattle.mover.proofs.Runs.{done_start, done_length, done_next, done_end}
use Rattle.mover.proofs.elements.pad_run.Goals as goal

pub loop-init : goal.loop-init
loop-init c =
    let a = c.args.c in
    done_start (pad_bytes a) a.to a.stride a.n c.args.dst.now (omega (arith, c.well_formed))

pub pad-requires : goal.pad-requires
pad-requires c =
    let h = c.requires.held c.loop.counter c.loop-test.true in record {
      sized = c.requires.sized;
      size_in_bounds = omega (arith, h, c.loop.invariant.place, done_length c.loop.invariant);
    }

pub loop-preserved : goal.loop-preserved
loop-preserved c =
    done_next c.loop.invariant c.loop-test.true refl c.pad.ensures

pub returns : goal.returns
returns c =
    let told = done_end c.loop.invariant c.loop-test.false in record {
      next = told.0;
      written = told.1;
    }
