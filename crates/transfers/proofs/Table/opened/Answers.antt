-- `transfers::Table::opened` gives 17 or 18, else nothing. Assumes nothing.
use mathlib.Core.Path.{sym, ◌∙◌}
use Rattle.faults.proofs.Outcomes.{passes}
use Rattle.transfers.proofs.Answers.{open-17, open-18, open-0}
use Rattle.transfers.proofs.Table.opened.Goals as goal

pub returns-then-n-self : goal.returns-then-n-self
returns-then-n-self c = open-17 c.args.self c.args.n c.if-n-self.true

pub returns-then-not-is_sound : goal.returns-then-not-is_sound
returns-then-not-is_sound c =
    open-18 c.args.self c.args.n c.if-n-self.false (sym c.is_sound.ensures ∙ c.if-not-is_sound.true)

pub returns : goal.returns
returns c =
    passes _ _ (sym (open-0 c.args.self c.args.n c.if-n-self.false (sym c.is_sound.ensures ∙ c.if-not-is_sound.false)))
