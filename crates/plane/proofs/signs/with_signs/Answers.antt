-- `plane::signs::with_signs` meets its contract. Assumes nothing.
use borrow.Author.Rules.{rules}
use lib.IntN.{pos}
use Rattle.plane.specs.Arrays.{at}
use Rattle.plane.specs.Signs.{is_down, signed, at_z}
use Rattle.plane.proofs.Arrays.{made_array}
use Rattle.plane.proofs.signs.with_signs.Goals as goal

pub returns : goal.returns
returns c =
    made_array (pos 0) _ _ _ (λ d. signed (is_down (at_z c.args.xs d)) (at c.args.size d)) (λ d y q h k. search rules) c.from_fn.ensures.items
