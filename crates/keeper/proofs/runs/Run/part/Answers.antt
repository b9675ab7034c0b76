-- `keeper::runs::Run::part` makes the part that a run is. Assumes nothing.
use mathlib.Core.Path.{refl}
use Rattle.keeper.specs.Calls.{run_part}
use Rattle.keeper.proofs.runs.Run.part.Goals as goal

pub returns : goal.returns
unfolding run_part
returns c = refl
