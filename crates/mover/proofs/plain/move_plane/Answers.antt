-- `mover::plain::move_plane` stores all the elements of an accepted move, and none of a refused one. Assumes nothing.
use Rattle.std.proofs.Common.{length, sym}
use Rattle.plane.specs.Good.{GoodMove}
use Rattle.mover.proofs.Laws.{moved_refused}
use Rattle.mover.proofs.Judged.{outcome_err, outcome_ok, judged_stopped, judged_move}
use Rattle.mover.proofs.WholeRows.{move_stands, move_stored, total_most}
use Rattle.mover.proofs.plain.move_plane.Goals as goal
use Rattle.mover.proofs.plain.move_plane.Goals.{Then-is_accepted}

-- past the check, the move is accepted
good : (c : Then-is_accepted) → GoodMove c.args.t c.args.config (length c.args.src.now) (length c.args.dst.now)
good c =
    judged_move c.args.t c.args.config _ _ (outcome_ok c.args.t c.args.config _ _ c.judge-a.ensures c.if-is_accepted.true)

pub store_row-requires-clause-stands : goal.store_row-requires-clause-stands
store_row-requires-clause-stands c =
    rw c.outermost-row.ensures (move_stands c.args.t c.args.config c.args.src c.args.dst.now (good (goal.at-store_row-requires-clause-stands c).Then-is_accepted))

pub returns-then-is_accepted : goal.returns-then-is_accepted
returns-then-is_accepted c =
    record {
      answered = c.judge-a.ensures;
      written = move_stored c.args.t c.args.config c.args.src c.args.dst.now (good (goal.at-returns-then-is_accepted c).Then-is_accepted) 18446744073709551615 (total_most (good (goal.at-returns-then-is_accepted c).Then-is_accepted)) c.outermost-row.ensures c.store_row.ensures.stored;
    }

pub returns-else-is_accepted : goal.returns-else-is_accepted
returns-else-is_accepted c =
    record {
      answered = c.judge-a.ensures;
      written = sym (moved_refused c.args.t c.args.config c.args.src.now c.args.dst.now (judged_stopped c.args.t c.args.config _ _ (outcome_err c.args.t c.args.config _ _ c.judge-a.ensures c.if-is_accepted.false)));
    }
