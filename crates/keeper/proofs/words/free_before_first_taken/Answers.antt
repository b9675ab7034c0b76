-- `keeper::words::free_before_first_taken` tells the number of the first taken block, or 64. Assumes nothing.
use Rattle.keeper.proofs.Search.{trailing_lowest}
use Rattle.keeper.proofs.words.free_before_first_taken.Goals as goal

pub returns : goal.returns
returns c = trailing_lowest 64 c.args.word
