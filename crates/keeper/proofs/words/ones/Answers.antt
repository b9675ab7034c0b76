-- `keeper::words::ones` makes a word whose n lowest bits are ones. Assumes nothing.
use borrow.Author.Rules.{rules}
use Rattle.keeper.proofs.Answers.{low_ones}
use Rattle.keeper.proofs.words.ones.Goals as goal

pub returns : goal.returns
returns c = low_ones c.args.n (search rules)
