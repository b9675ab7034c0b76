-- `mover::plain::advance` stores what the budget allows of a job's elements from a number on. Assumes nothing.
use Rattle.std.proofs.Common.{◌≡◌, ◌-◌, min, ap, ◌∙◌}
use Rattle.mover.proofs.WholeRows.{advance_told, advance_none, advance_stands, advance_stored}
use Rattle.mover.proofs.plain.advance.Goals as goal
use Rattle.mover.proofs.plain.advance.Goals.{After-min-count}

-- how many of those that are left are moved
count : (c : After-min-count) → c.min-count.result ≡ min c.args.budget (c.judge_job-v.result.total - c.args.from)
count c = c.min-count.ensures ∙ ap (min c.args.budget) c.saturating_sub-rest.ensures

pub store_row-requires-clause-stands : goal.store_row-requires-clause-stands
store_row-requires-clause-stands c =
    rw c.outermost-row.ensures (advance_stands c.args.job c.args.from c.args.budget c.args.mem.now c.judge_job-v.ensures (count (goal.at-store_row-requires-clause-stands c).After-min-count) c.if-count-ne0.true)

pub returns-then-count-ne0 : goal.returns-then-count-ne0
returns-then-count-ne0 c =
    let e = c.judge_job-v.ensures in
    let n = count (goal.at-returns-then-count-ne0 c).After-min-count in record {
      answered = advance_told c.args.job c.args.from c.args.budget c.args.mem.now e n;
      written = advance_stored c.args.job c.args.from c.args.budget c.args.mem.now e n c.if-count-ne0.true c.outermost-row.ensures c.store_row.ensures.stored;
    }

pub returns-else-count-ne0 : goal.returns-else-count-ne0
returns-else-count-ne0 c =
    let e = c.judge_job-v.ensures in
    let n = count (goal.at-returns-else-count-ne0 c).After-min-count in record {
      answered = advance_told c.args.job c.args.from c.args.budget c.args.mem.now e n;
      written = advance_none c.args.job c.args.from c.args.budget c.args.mem.now e n c.if-count-ne0.false;
    }
