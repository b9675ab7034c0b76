-- `mover::alike::run_at` finds where what is kept, or the padding, ends. Assumes nothing.
use Rattle.std.proofs.Common.{inl, inr}
use Rattle.mover.proofs.Runs.{run_before, run_kept, run_behind}
use Rattle.mover.proofs.alike.run_at.Goals as goal
use Rattle.mover.proofs.alike.run_at.Goals.{else-outer, then-outer+else-c-x+else-c-x-2}

pub returns-then-c-x : goal.returns-then-c-x
returns-then-c-x c =
    rw c.if-outer.true
    (run_before c.args.x c.args.c c.args.most c.requires.count_bound c.requires.c_lt_extent c.requires.most_nonzero c.if-c-x.true c.min.ensures)

pub returns-then-c-x-2 : goal.returns-then-c-x-2
returns-then-c-x-2 c =
    rw c.if-outer.true
    (run_kept c.args.x c.args.c c.args.most c.requires.count_bound c.requires.c_lt_extent c.requires.most_nonzero c.if-c-x.false c.if-c-x-2.true c.min-then-c-x-2.ensures)

pub returns : goal.returns
returns c =
    run_behind c.args.x c.args.c c.args.most c.requires.count_bound c.requires.c_lt_extent c.requires.most_nonzero
    (elim c.if-outer.branch [
      | then-outer+else-c-x+else-c-x-2 w ↦ inr (w.if-c-x.false, w.if-c-x-2.false)
      | else-outer w ↦ inl w.if-outer.false
    ]) c.min-2.ensures
