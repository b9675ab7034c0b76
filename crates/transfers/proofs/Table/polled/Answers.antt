-- `transfers::Table::polled` gives the slot that a poll tells of, or 18 or 23. Assumes nothing.
use mathlib.Core.Path.{sym, ◌∙◌}
use Rattle.transfers.proofs.Steps.{polled_18, polled_slot}
use Rattle.transfers.proofs.Table.polled.Goals as goal

pub returns-then-not-is_sound : goal.returns-then-not-is_sound
returns-then-not-is_sound c =
    polled_18 c.args.self c.args.handle (sym c.is_sound.ensures ∙ c.if-not-is_sound.true)

pub returns : goal.returns
returns c =
    c.slot.ensures ∙ polled_slot c.args.self c.args.handle (sym c.is_sound.ensures ∙ c.if-not-is_sound.false)
