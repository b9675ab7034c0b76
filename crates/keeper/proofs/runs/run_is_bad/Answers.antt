-- `keeper::runs::run_is_bad` tells whether there is no such run. Assumes nothing.
use Rattle.keeper.proofs.runs.run_is_bad.Goals as goal

pub returns : goal.returns
returns c = rw c.count_is_bad.ensures
