-- `mover::advance` tells how many elements of a job were moved, or what refuses it. Assumes nothing.
use Rattle.mover.proofs.Judged.{advance_given, advance_refused}
use Rattle.mover.proofs.within.advance.Goals as goal

pub returns-in-Ok : goal.returns-in-Ok
returns-in-Ok c = record {
  answered = advance_given c.args.job c.args.from c.args.budget c.args.mem.now c.in-Ok.ensures.counted;
  written = c.moved.ensures.written;
}

pub returns-in-Err : goal.returns-in-Err
returns-in-Err c = record {
  answered = advance_refused c.args.job c.args.from c.args.budget c.args.mem.now c.in-Err.ensures.counted;
  written = c.moved.ensures.written;
}
