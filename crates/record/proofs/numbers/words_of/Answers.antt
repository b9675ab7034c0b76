-- `record::numbers::words_of` meets its contract. Assumes nothing.
use mathlib.Core.Path.{◌≡◌, ◌∙◌}
use borrow.Author.Rules.{rules}
use lib.ListN.{length}
use mir.Syntax.{w32}
use mir.Val.{of_z}
use lib.IntN.{pos}
use Rattle.plane.proofs.Arrays.{is_array}
use Rattle.plane.specs.Arrays.{array}
use Rattle.plane.specs.Signs.{at_z}
use Rattle.record.proofs.TwosComplement.{machine_words}
use Rattle.record.proofs.numbers.words_of.Goals as goal

pub returns : goal.returns
returns c =
    let l : length c.args.xs ≡ 4 = search rules in
    let items = c.map.ensures.items in
    let e : c.map.result ≡ array (λ d. of_z w32 (at_z c.args.xs d)) = is_array 0 c.map.result (λ d. of_z w32 (at_z c.args.xs d)) items.long (λ d h. let m = items.at d (pos 0) 0 h in search rules) in
    e ∙ machine_words c.args.xs l
