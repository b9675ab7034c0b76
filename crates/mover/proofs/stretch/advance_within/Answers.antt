-- `mover::stretch::advance_within` runs the engine within the memory, at the plan that stands at the parts' starts. Assumes nothing.
use Rattle.std.proofs.Common.{◌+◌, ◌≤◌, length, arith}
use Rattle.mover.specs.Private.Elements.{plan_total}
use Rattle.mover.specs.Private.Ready.{placed_at}
use Rattle.mover.proofs.Parts.{placed_fits, placed_ready, placed_written}
use Rattle.mover.proofs.stretch.advance_within.Goals as goal
use Rattle.mover.proofs.stretch.advance_within.Goals.{Start}

-- the first elements stand in the memory
fits : (s : Start) → (s.args.source.start + s.args.plan.home ≤ length s.args.mem.now) × (s.args.destination.start + s.args.plan.base ≤ length s.args.mem.now)
fits s =
    placed_fits s.args.plan s.args.source.start s.args.destination.start s.args.mem.now s.args.source.length s.args.destination.length s.requires.lies_in.0 s.requires.lies_in.1 (omega arith) s.requires.ready

pub advance-requires : goal.advance-requires
unfolding placed_at plan_total
advance-requires c =
    record {
      ready = placed_ready c.args.plan c.args.source.start c.args.destination.start c.args.mem.now c.args.source.length c.args.destination.length c.requires.lies_in.0 c.requires.lies_in.1 (omega (arith, c.well_formed)) c.requires.parts_apart c.requires.ready;
      from_bound = c.requires.from_bound;
    }

pub returns : goal.returns
unfolding placed_at plan_total
returns c =
    let n = c.advance.ensures.counted in record {
      counted = n;
      written = placed_written c.args.plan c.args.source.start c.args.destination.start c.args.mem.now c.advance.new.dst c.args.source.length c.args.destination.length c.args.from c.args.budget c.advance.result
          c.requires.lies_in.0 c.requires.lies_in.1 (omega (arith, c.well_formed)) c.requires.ready c.requires.from_bound n c.advance.ensures.written;
    }

pub overflow_add-placed : goal.overflow_add-placed
overflow_add-placed c = omega (arith, c.well_formed, (fits (goal.at-overflow_add-placed c).Start).0)

pub overflow_add-placed-2 : goal.overflow_add-placed-2
overflow_add-placed-2 c = omega (arith, c.well_formed, (fits (goal.at-overflow_add-placed-2 c).Start).1)
