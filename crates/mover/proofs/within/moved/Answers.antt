-- `mover::within::moved` moves what the budget allows of a job's elements from a number on. Assumes nothing.
use Rattle.std.proofs.Common.{◌≡◌, ◌<◌, Err, length, ◌∙◌, rules, arith}
use Rattle.plane.specs.Moves.{room_fault, accepted}
use Rattle.mover.specs.Within.{total_of}
use Rattle.mover.specs.Private.Elements.{plan_total}
use Rattle.mover.proofs.Laws.{source_fits, destination_fits, job_apart}
use Rattle.mover.proofs.Making.{answer_fit}
use Rattle.mover.proofs.Judged.{total_is, job_clear, job_accepted, stretch_refused, advance_past, advance_ready, advance_from, advance_written}
use Rattle.mover.proofs.within.moved.Goals as goal
use Rattle.mover.proofs.within.moved.Goals.{After-plan_of, After-total, In_ok-a}

pub returns-in_err-a : goal.returns-in_err-a
returns-in_err-a c =
    let told = stretch_refused c.args.job c.args.from c.args.budget c.args.mem.now c.in_err-a.ensures in
    let e : c.from_residual.result ≡ Err c.in_err-a.field-0.0 = search rules in record {
      counted = e ∙ told.0;
      written = told.1;
    }

-- past the check, the job's move is accepted
taken : (c : In_ok-a) → let j = c.args.job in ((room_fault j.tensor j.config).status ≡ 0) × (c.in_ok-a.a ≡ accepted j.tensor j.config)
taken c = job_accepted (length c.args.mem.now) c.args.job c.in_ok-a.ensures

pub total-requires : goal.total-requires
total-requires c =
    let j = c.args.job in
    let w = taken (goal.at-total-requires c).In_ok-a in
    let f = answer_fit j.tensor j.config w.0 w.1 in
    (f.rank, f.extent)

all : (c : After-total) → c.total.result ≡ total_of c.args.job
all c =
    let j = c.args.job in
    total_is j.tensor j.config (job_accepted (length c.args.mem.now) j c.in_ok-a.ensures).1 c.total.ensures

pub returns-then-total-from : goal.returns-then-total-from
returns-then-total-from c =
    let told = advance_past c.args.job c.args.from c.args.budget c.args.mem.now c.in_ok-a.ensures (all (goal.at-returns-then-total-from c).After-total) c.if-total-from.true in record {
      counted = told.0;
      written = told.1;
    }

-- the plan has an element number `from`
within : (c : After-plan_of) → c.args.from < plan_total c.plan_of.result
within c =
    advance_from c.args.job c.args.from c.args.budget c.args.mem.now c.in_ok-a.ensures c.plan_of.ensures (all (goal.at-advance_within-count-requires c).After-total) c.if-total-from.false

pub advance_within-count-requires : goal.advance_within-count-requires
advance_within-count-requires c =
    let e = c.in_ok-a.ensures in
    let z = job_clear (length c.args.mem.now) c.args.job e in record {
      lies_in = (source_fits (length c.args.mem.now) c.args.job z, destination_fits (length c.args.mem.now) c.args.job z);
      parts_apart = job_apart (length c.args.mem.now) c.args.job z;
      ready = advance_ready c.args.job c.args.from c.args.budget c.args.mem.now e c.plan_of.ensures (omega (arith, c.well_formed));
      from_bound = within c;
    }

pub returns : goal.returns
returns c =
    let told = advance_written c.args.job c.args.from c.args.budget c.args.mem.now c.in_ok-a.ensures c.plan_of.ensures
    (within (goal.at-returns c).After-plan_of) c.advance_within-count.ensures.counted c.advance_within-count.ensures.written in record {
      counted = told.0;
      written = told.1;
    }

pub plan_of-requires : goal.plan_of-requires
plan_of-requires c = taken (goal.at-plan_of-requires c).In_ok-a
