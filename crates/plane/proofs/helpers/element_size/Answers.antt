-- `plane::helpers::element_size` meets its contract. Assumes nothing.
use mathlib.Core.Path.{◌≡◌}
use mathlib.Core.Bool.{true, false, ◌||◌}
use lib.Dec.{ltb}
use Rattle.plane.proofs.helpers.element_size.Goals as goal

pub returns-then-size : goal.returns-then-size
returns-then-size c = let outside : (ltb c.args.size 1 || ltb 4 c.args.size) ≡ true = c.if-size.true in simp outside

pub returns-else-size : goal.returns-else-size
returns-else-size c = let inside : (ltb c.args.size 1 || ltb 4 c.args.size) ≡ false = c.if-size.false in simp inside
