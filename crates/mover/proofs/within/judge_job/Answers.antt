-- `mover::judge_job` tells a job's refusal, or how many elements it has. Assumes nothing.
use Rattle.std.proofs.Common.{◌≡◌}
use Rattle.plane.specs.Moves.{room_fault, accepted}
use Rattle.mover.proofs.Making.{answer_fit}
use Rattle.mover.proofs.Judged.{total_is, job_accepted, verdict_refused, verdict_given}
use Rattle.mover.proofs.within.judge_job.Goals as goal
use Rattle.mover.proofs.within.judge_job.Goals.{In-Ok}

-- the job's move is accepted
taken : (c : In-Ok) → let j = c.args.job in ((room_fault j.tensor j.config).status ≡ 0) × (c.in-Ok.a ≡ accepted j.tensor j.config)
taken c = job_accepted c.args.len c.args.job c.in-Ok.ensures

pub total-requires : goal.total-requires
total-requires c =
    let j = c.args.job in
    let f = answer_fit j.tensor j.config (taken c).0 (taken c).1 in
    (f.rank, f.extent)

pub returns-in-Ok : goal.returns-in-Ok
returns-in-Ok c =
    verdict_given c.args.len c.args.job c.in-Ok.ensures
    (total_is c.args.job.tensor c.args.job.config (taken (goal.at-returns-in-Ok c).In-Ok).1 c.total.ensures)

pub returns-in-Err : goal.returns-in-Err
returns-in-Err c = verdict_refused c.args.len c.args.job c.in-Err.ensures
