-- `transfers::Slot::told` tells what a sound slot is. Assumes nothing.
use mathlib.Core.Path.{ap, ◌∙◌}
use borrow.Author.Rules.{rules}
use Rattle.transfers.specs.declared.Poll.TheVariants as poll
use Rattle.transfers.proofs.Sounds.{busy, right_most}
use Rattle.mover.specs.Within.{total_of}
use Rattle.transfers.proofs.Steps.{slot_free, slot_prepared, slot_running, slot_done}
use Rattle.transfers.proofs.Slot.told.Goals as goal

pub returns-then-self-eq-FREE : goal.returns-then-self-eq-FREE
returns-then-self-eq-FREE c = slot_free c.args.self c.if-self-eq-FREE.true

pub left-left-requires : goal.left-left-requires
left-left-requires c =
    let s = c.args.self in
    let u = busy c.args.n s c.if-self-eq-FREE.false c.requires in
    (u.clear, right_most s.state s.moved (total_of s.job) u.right)

pub returns-in-1 : goal.returns-in-1
returns-in-1 c = ap poll.Prepared c.left-left.ensures ∙ slot_prepared c.args.self c.in-1.is

pub returns-in-2 : goal.returns-in-2
returns-in-2 c = ap poll.Running c.left-left.ensures ∙ slot_running c.args.self c.in-2.is

pub returns-in_default : goal.returns-in_default
returns-in_default c = slot_done c.args.self c.if-self-eq-FREE.false (search rules) (search rules)
