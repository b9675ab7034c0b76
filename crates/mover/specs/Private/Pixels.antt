-- One element as the plain engine comes to it: a row with no dimension left.
use Rattle.std.specs.Prelude.{◌≡◌, ℕ, zero, suc, List}
use Rattle.std.specs.Borrow.{Bor}
use Rattle.plane.specs.declared.Tensor.{Tensor}
use Rattle.plane.specs.declared.Config.{Config}
use Rattle.plane.specs.Arrays.{at}
use Rattle.plane.specs.Moves.{room_fault}
use Rattle.mover.specs.declared.elements.Origin.TheVariants.{Lent}
use Rattle.mover.specs.declared.plain.Row.{Row}
use Rattle.mover.specs.Demand2.{IsCoordinate}
use Rattle.mover.specs.Private.Rows.{outermost_of, inward_of}

-- x is a coordinate of a destination that is accepted if it is long enough
abbrev pub Pickable : Tensor → Config → List ℕ → Type 0
Pickable t c x = ((room_fault t c).status ≡ 0) × IsCoordinate t c (at x)

-- from the row w inward by the first i entries of x
unfoldable pub row_to : Row → List ℕ → ℕ → Row
row_to w x zero = w
row_to w x (suc i) = inward_of (row_to w x i) i (at x i)

-- the element at x of a move from s, from the destination as one row
abbrev pub row_at : Tensor → Config → Bor (List ℕ) → List ℕ → Row
row_at t c s x = row_to (outermost_of t c (Lent s) 0 0) x t.rank
