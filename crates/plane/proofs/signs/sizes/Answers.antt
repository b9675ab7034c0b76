-- `plane::signs::sizes` meets its contract. Assumes nothing.
use mathlib.Core.Path.{◌≡◌, ◌∙◌}
use borrow.Author.Rules.{rules}
use lib.IntN.{pos}
use lib.ListN.{length}
use Rattle.plane.specs.Signs.{size_of, at_z}
use Rattle.plane.proofs.Arrays.{is_array}
use Rattle.plane.proofs.Signed.{sizes_array}
use Rattle.plane.proofs.signs.sizes.Goals as goal

pub returns : goal.returns
returns c =
    let l : length c.args.xs ≡ 4 = search rules in
    let items = c.map.ensures.items in
    is_array 0 c.map.result (λ d. size_of (at_z c.args.xs d)) items.long (λ d h. let m = items.at d (pos 0) 0 h in search rules) ∙
    sizes_array c.args.xs l
