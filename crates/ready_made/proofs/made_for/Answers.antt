-- `ready_made::made_for` meets its contract. Assumes nothing.
use mathlib.Core.Path.{sym, ◌∙◌}
use Rattle.ready_made.specs.ReadyMade.{made_for}
use Rattle.ready_made.proofs.made_for.Goals as goal

pub returns-then-rank_is_bad : goal.returns-then-rank_is_bad
unfolding made_for
returns-then-rank_is_bad c = simp (c.zero.ensures, sym c.rank_is_bad.ensures ∙ c.if-rank_is_bad.true)

pub returns : goal.returns
unfolding made_for
returns c = simp (c.cut_to.ensures, sym c.rank_is_bad.ensures ∙ c.if-rank_is_bad.false)
