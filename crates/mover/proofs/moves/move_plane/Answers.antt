-- `mover::move_plane` moves all the elements of an accepted move, and none of a refused one. Assumes nothing.
use Rattle.std.proofs.Common.{◌≡◌, length, sym, arith}
use Rattle.plane.specs.Moves.{room_fault, accepted}
use Rattle.plane.specs.Good.{GoodMove}
use Rattle.mover.proofs.Laws.{moved_refused}
use Rattle.mover.proofs.Making.{answer_fit}
use Rattle.mover.proofs.Judged.{judged_stopped, judged_move, judged_accepted, judged_answer, refused_answer, total_is, move_ready, move_some, move_written}
use Rattle.mover.proofs.moves.move_plane.Goals as goal
use Rattle.mover.proofs.moves.move_plane.Goals.{In-Ok}

pub returns-in-Err : goal.returns-in-Err
returns-in-Err c =
    record {
      answered = refused_answer c.args.t c.args.c _ _ c.in-Err.ensures c.refused.ensures;
      written = sym (moved_refused c.args.t c.args.c c.args.src.now c.args.dst.now (judged_stopped c.args.t c.args.c _ _ c.in-Err.ensures));
    }

-- past the check, the move is accepted
good : (c : In-Ok) → GoodMove c.args.t c.args.c (length c.args.src.now) (length c.args.dst.now)
good c = judged_move c.args.t c.args.c _ _ c.in-Ok.ensures

taken : (c : In-Ok) → ((room_fault c.args.t c.args.c).status ≡ 0) × (c.in-Ok.a ≡ accepted c.args.t c.args.c)
taken c = judged_accepted c.args.t c.args.c _ _ c.in-Ok.ensures

pub plan_of-requires : goal.plan_of-requires
plan_of-requires c = taken (goal.at-plan_of-requires c).In-Ok

pub total-requires : goal.total-requires
total-requires c =
    let f = answer_fit c.args.t c.args.c (taken (goal.at-total-requires c).In-Ok).0 (taken (goal.at-total-requires c).In-Ok).1 in
    (f.rank, f.extent)

pub advance-requires : goal.advance-requires
advance-requires c =
    record {
      ready = move_ready c.args.t c.args.c c.args.src.now c.args.dst.now (good (goal.at-advance-requires c).In-Ok) c.plan_of.ensures c.args.src.ref_ptr (omega (arith, c.well_formed));
      from_bound = move_some c.args.t c.args.c c.args.src.now c.args.dst.now (good (goal.at-advance-requires c).In-Ok) c.plan_of.ensures;
    }

pub returns-in-Ok : goal.returns-in-Ok
returns-in-Ok c =
    record {
      answered = judged_answer c.args.t c.args.c _ _ c.in-Ok.ensures;
      written = move_written c.args.t c.args.c c.args.src.now c.args.dst.now (good (goal.at-returns-in-Ok c).In-Ok) c.plan_of.ensures
          (total_is c.args.t c.args.c (taken (goal.at-returns-in-Ok c).In-Ok).1 c.total.ensures) c.advance.ensures.counted c.advance.ensures.written;
    }
