-- `mover::folded::folded` makes one of the first two dimensions, of the middle two and of the last two, where they are: after each, the
-- plan with the axes so far is the plan of the same move. Assumes nothing.
use Rattle.std.proofs.Common.{refl, ◌∙◌}
use Rattle.mover.specs.Private.Folding.{Folds}
use Rattle.mover.proofs.Folds.{with_axes, folds_same, fold_first, fold_middle, fold_last, fold_not, fits_first, fits_middle, fits_last}
use Rattle.mover.proofs.folded.folded.Goals as goal
use Rattle.mover.proofs.folded.folded.Goals.{Joined-joins, Joined-joins-2, Joined-joins-3, else-joins, else-joins-2, else-joins-3, then-joins, then-joins-2, then-joins-3}

-- after the first, the second and the third
at1 : (c : Joined-joins) → let p = c.args.p in Folds p (with_axes p c.if-joins.d0 c.if-joins.d1 p.d2 p.d3)
at1 c =
    let f = folds_same c.requires.axes in
    elim c.if-joins.branch [
      | then-joins w ↦ fold_first f (c.joins.ensures w.if-joins.true) (w.d0-is ∙ w.lone-d0.ensures) (w.d1-is ∙ w.as_one-d1.ensures)
      | else-joins w ↦ fold_not f w.d0-is w.d1-is refl refl
    ]

at2 : (c : Joined-joins-2) → let p = c.args.p in Folds p (with_axes p c.if-joins-2.d0 c.if-joins-2.d1 c.if-joins-2.d2 p.d3)
at2 c =
    let f = at1 c.before.before in
    elim c.if-joins-2.branch [
      | then-joins-2 w ↦ fold_middle f (c.joins-2.ensures w.if-joins-2.true) (w.d0-is ∙ w.lone-d0-then-joins-2.ensures) w.d1-is (w.d2-is ∙ w.as_one-d2.ensures)
      | else-joins-2 w ↦ fold_not f w.d0-is w.d1-is w.d2-is refl
    ]

at3 : (c : Joined-joins-3) → let p = c.args.p in Folds p (with_axes p c.if-joins-3.d0 c.if-joins-3.d1 c.if-joins-3.d2 c.if-joins-3.d3)
at3 c =
    let f = at2 c.before.before in
    elim c.if-joins-3.branch [
      | then-joins-3 w ↦ fold_last f (c.joins-3.ensures w.if-joins-3.true) (w.d0-is ∙ w.lone-d0-then-joins-3.ensures) w.d1-is w.d2-is (w.d3-is ∙ w.as_one-d3.ensures)
      | else-joins-3 w ↦ fold_not f w.d0-is w.d1-is w.d2-is w.d3-is
    ]

pub as_one-d1-requires : goal.as_one-d1-requires
as_one-d1-requires c =
    let w = fits_first c.requires (folds_same c.requires.axes) in record {
      extent_bound = w.extent;
      extent_bound_2 = w.rest;
    }

pub as_one-d2-requires : goal.as_one-d2-requires
as_one-d2-requires c =
    let w = fits_middle c.requires (at1 (goal.at-as_one-d2-requires c).Joined-joins) in record {
      extent_bound = w.extent;
      extent_bound_2 = w.rest;
    }

pub as_one-d3-requires : goal.as_one-d3-requires
as_one-d3-requires c =
    let w = fits_last c.requires (at2 (goal.at-as_one-d3-requires c).Joined-joins-2) in record {
      extent_bound = w.extent;
      extent_bound_2 = w.rest;
    }

pub returns : goal.returns
returns c = at3 (goal.at-returns c).Joined-joins-3
