-- `mover::pixels::bytes_of` is the bytes of an element, with 0 behind them. Assumes nothing.
use Rattle.std.proofs.Common.{◌≡◌, [], sym, ◌∙◌, rules, arith}
use native.Mathlib.Decide.{dec_lt}
use Rattle.plane.specs.Arrays.{below, firsts_or}
use Rattle.plane.proofs.Arrays.{below_lt, below_past, made_array}
use Rattle.mover.specs.Private.Rows.{size_of, row_byte}
use Rattle.mover.proofs.pixels.bytes_of.Goals as goal

pub returns : goal.returns
unfolding firsts_or
returns c =
    let n = size_of c.args.row.now in
    let f = row_byte c.args.row.now [] in
    made_array 0 _ _ _ (λ d. below 0 n d (f d))
    (λ d y q h k. elim (dec_lt d n) [
      | yes l ↦ (search rules, let e : y ≡ f d = search rules in e ∙ sym (below_lt 0 n d (f d) l))
      | no l ↦ (search rules, let e : y ≡ 0 = search rules in e ∙ sym (below_past 0 n d (f d) (omega arith)))
    ])
    c.from_fn.ensures.items
