-- `transfers::sound::moved_is_right` tells whether the count is right for the state. Assumes nothing.
use borrow.Author.Rules.{rules}
use Rattle.transfers.proofs.Sounds.{right_1, right_2, right_3, right_none}
use Rattle.transfers.proofs.sound.moved_is_right.Goals as goal

pub returns-in-1 : goal.returns-in-1
returns-in-1 c = right_1 c.args.state c.args.moved c.args.total c.in-1.is

pub returns-in-2 : goal.returns-in-2
returns-in-2 c = right_2 c.args.state c.args.moved c.args.total c.in-2.is

pub returns-in-3 : goal.returns-in-3
returns-in-3 c = right_3 c.args.state c.args.moved c.args.total c.in-3.is

pub returns-in_default : goal.returns-in_default
returns-in_default c =
    right_none c.args.state c.args.moved c.args.total (search rules) (search rules) (search rules)
