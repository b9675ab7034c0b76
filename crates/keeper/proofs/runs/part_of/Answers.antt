-- `keeper::runs::part_of` tells the part that a run is. Assumes nothing.
use Rattle.keeper.proofs.Answers.{part_stopped, part_went}
use Rattle.keeper.proofs.runs.part_of.Goals as goal

pub returns-in-Ok : goal.returns-in-Ok
returns-in-Ok c = part_went c.args.length c.args.first c.args.n c.in-Ok.ensures

pub returns-in-Err : goal.returns-in-Err
returns-in-Err c = part_stopped c.args.length c.args.first c.args.n c.in-Err.ensures
