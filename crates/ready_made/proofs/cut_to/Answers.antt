-- `ready_made::cut_to` meets its contract. Assumes nothing.
use Rattle.ready_made.specs.ReadyMade.{cut_to}
use Rattle.ready_made.proofs.cut_to.Goals as goal

pub returns : goal.returns
unfolding cut_to
returns c =
    rw (
      c.cut-8.ensures,
      c.cut-7.ensures,
      c.cut-6.ensures,
      c.cut-5.ensures,
      c.cut-4.ensures,
      c.cut-3.ensures,
      c.cut-2.ensures,
      c.cut.ensures,
    )
