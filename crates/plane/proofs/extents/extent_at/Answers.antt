-- `plane::extents::extent_at` meets its contract. Assumes nothing.
use Rattle.plane.specs.Moves.{extent, count}
use Rattle.plane.proofs.extents.extent_at.Goals as goal

pub returns : goal.returns
unfolding extent count
returns c =
    rw (c.padded.ensures, c.kept_count.ensures.0, c.taken-m.ensures)
