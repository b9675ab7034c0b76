-- `keeper::returns::give_back` makes a run free, or hands the word back. Assumes nothing.
use Rattle.keeper.proofs.Answers.{back_stopped, back_went}
use Rattle.keeper.proofs.returns.give_back.Goals as goal

pub returns-in-Ok : goal.returns-in-Ok
returns-in-Ok c = back_went c.args.table c.args.word c.args.first c.args.n c.in-Ok.ensures

pub returns-in-Err : goal.returns-in-Err
returns-in-Err c = back_stopped c.args.table c.args.word c.args.first c.args.n c.in-Err.ensures
