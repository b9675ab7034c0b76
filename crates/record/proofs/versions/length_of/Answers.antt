-- `record::versions::length_of` meets its contract. Assumes nothing.
use borrow.Author.Tests.{eq-eqb, ne_eqb}
use Rattle.record.proofs.versions.length_of.Goals as goal

pub returns-then-version-eq-VERSION_2 : goal.returns-then-version-eq-VERSION_2
returns-then-version-eq-VERSION_2 c = simp (eq-eqb _ _ c.if-version-eq-VERSION_2.true)

pub returns : goal.returns
returns c = simp (ne_eqb _ _ c.if-version-eq-VERSION_2.false)
