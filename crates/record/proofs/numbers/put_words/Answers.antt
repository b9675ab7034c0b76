-- `record::numbers::put_words` meets its contract. Assumes nothing.
use mathlib.Core.Path.{◌≡◌, ap, ◌∙◌}
use borrow.Author.Rules.{rules}
use Rattle.std.specs.List.{flat_map}
use Rattle.std.proofs.lemmas.List.Edits.{sets}
use Rattle.std.specs.Int.{w32, to_le_bytes}
use mathlib.Core.List.{List, []}
use Prim.Native.Nat.{ℕ}
use Rattle.plane.proofs.Arrays.{is_array}
use Rattle.plane.specs.Arrays.{at, array}
use Rattle.record.proofs.Digits.{words_bytes}
use Rattle.record.proofs.numbers.put_words.Goals as goal

pub returns : goal.returns
returns c =
    let items = c.map.ensures.items in
    let e : c.map.result ≡ array (λ d. to_le_bytes w32 (at c.args.xs d)) = is_array [] c.map.result (λ d. to_le_bytes w32 (at c.args.xs d)) items.long (λ d h. let m = items.at d 0 [] h in search rules) in
    c.put.ensures ∙ ap (sets c.args.room.now c.args.p) (c.as_flattened.ensures.value ∙ ap (λ (l : List (List ℕ)). flat_map (λ x. x) l) e ∙ words_bytes c.args.xs)
