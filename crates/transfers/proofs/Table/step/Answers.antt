-- `transfers::Table::step` moves what its budget allows, and says how much. Assumes nothing.
use mathlib.Core.Path.{sym, ◌∙◌}
use Rattle.faults.proofs.Faults.{status}
use Rattle.faults.proofs.Outcomes.{tells_ok, tells_err}
use Rattle.transfers.proofs.Steps.{step_refused, step_range, step_fits, step_answer, step_memory_lem}
use Rattle.transfers.proofs.Table.step.Goals as goal

pub later-requires : goal.later-requires
later-requires c =
    let w = tells_ok _ _ c.in-Ok.ensures in
    step_fits c.args.self c.args.handle c.args.budget c.args.mem.now w.1 w.0 c.advance-advanced.ensures.answered

pub with_slot-requires : goal.with_slot-requires
with_slot-requires c =
    step_range c.args.self c.args.handle c.args.budget c.args.mem.now (tells_ok _ _ c.in-Ok.ensures).1

pub returns-in-Ok : goal.returns-in-Ok
returns-in-Ok c =
    let w = tells_ok _ _ c.in-Ok.ensures in record {
      answered = step_answer c.args.self c.args.handle c.args.budget c.args.mem.now w.1 w.0 c.advance-advanced.ensures.answered c.later.ensures
          c.with_slot.ensures;
      written = step_memory_lem c.args.self c.args.handle c.args.budget c.args.mem.now w.1 w.0 c.advance-advanced.ensures.written;
    }

pub returns-in-Err : goal.returns-in-Err
returns-in-Err c =
    let w = tells_err _ _ c.in-Err.ensures in
    let told = step_refused c.args.self c.args.handle c.args.budget c.args.mem.now (status w.0) (λ z. w.1 (sym (status w.0) ∙ z)) in record {
      answered = told.0;
      written = told.1;
    }
