-- `record::numbers::of_words` meets its contract. Assumes nothing.
use mathlib.Core.Path.{◌≡◌, ◌∙◌}
use borrow.Author.Rules.{rules}
use lib.ListN.{length}
use mir.Syntax.{w32}
use mir.Val.{to_z}
use lib.IntN.{pos}
use Rattle.plane.proofs.Arrays.{is_array}
use Rattle.plane.specs.Arrays.{at, array}
use Rattle.record.proofs.TwosComplement.{machine_numbers}
use Rattle.record.proofs.numbers.of_words.Goals as goal

pub returns : goal.returns
returns c =
    let l : length c.args.xs ≡ 4 = search rules in
    let items = c.map.ensures.items in
    let e : c.map.result ≡ array (λ d. to_z w32 (at c.args.xs d)) = is_array (pos 0) c.map.result (λ d. to_z w32 (at c.args.xs d)) items.long (λ d h. let m = items.at d 0 (pos 0) h in search rules) in
    e ∙ machine_numbers c.args.xs l (search rules)
