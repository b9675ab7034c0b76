-- `transfers::Table::poll` tells what a slot is. Assumes nothing.
use mathlib.Core.Path.{ap, ◌∙◌}
use Rattle.transfers.specs.Calls.{poll_numbers}
use Rattle.transfers.proofs.Steps.{polled_sound, polled_answer, polled_refused}
use Rattle.transfers.proofs.Table.poll.Goals as goal

pub told-requires : goal.told-requires
told-requires c = polled_sound c.args.self c.args.handle c.in-Ok.ensures

pub returns-in-Ok-clause-answered : goal.returns-in-Ok-clause-answered
returns-in-Ok-clause-answered c = c.told.ensures ∙ polled_answer c.args.self c.args.handle c.in-Ok.ensures

pub returns-in-Ok-clause-numbered : goal.returns-in-Ok-clause-numbered
returns-in-Ok-clause-numbered c =
    ap poll_numbers (c.told.ensures ∙ polled_answer c.args.self c.args.handle c.in-Ok.ensures)

pub returns-in-Err-clause-answered : goal.returns-in-Err-clause-answered
returns-in-Err-clause-answered c = polled_refused c.args.self c.args.handle c.in-Err.ensures

pub returns-in-Err-clause-numbered : goal.returns-in-Err-clause-numbered
returns-in-Err-clause-numbered c = ap poll_numbers (polled_refused c.args.self c.args.handle c.in-Err.ensures)
