-- `transfers::Table::fresh` makes a fresh table, or refuses the length. Assumes nothing.
use Rattle.transfers.proofs.Answers.{fresh-17, fresh-0}
use Rattle.transfers.proofs.Table.fresh.Goals as goal

pub returns-then-length-gt-LIMIT : goal.returns-then-length-gt-LIMIT
returns-then-length-gt-LIMIT c = rw c.empty.ensures (fresh-17 _ c.if-length-gt-LIMIT.true)

pub returns : goal.returns
returns c = rw c.empty-2.ensures (fresh-0 _ c.if-length-gt-LIMIT.false)
