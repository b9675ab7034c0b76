-- `record::numbers::words` meets its contract. Assumes nothing.
use Prim.Native.Nat.{ℕ, ◌+◌, ◌*◌}
use mathlib.Core.Path.{◌≡◌, ap}
use native.Mathlib.Omega.{arith}
use borrow.Author.Rules.{rules}
use mir.Syntax.{w32}
use Rattle.std.specs.Int.{from_le_bytes}
use Rattle.plane.proofs.Arrays.{is_array}
use Rattle.plane.specs.Arrays.{at}
use Rattle.plane.specs.Numbers.{number}
use Rattle.record.specs.Layout.{part}
use Rattle.record.proofs.Digits.{word_is}
use Rattle.record.proofs.numbers.words.Goals as goal

pub returns : goal.returns
returns c =
    let p = c.args.p in
    let bs = c.args.bytes.now in
    let items = c.from_fn.ensures.items in
    is_array 0 c.from_fn.result (λ d. number (part (p + d * 4) 4 bs)) items.long
    (λ d h.
    let m = items.at d 0 h in
    let e : at c.from_fn.result d ≡ from_le_bytes w32 (part (p + 4 * d) 4 bs) = search rules in
    let q : p + 4 * d ≡ p + d * 4 = omega arith in
    word_is (p + d * 4) bs (omega arith) (ap (λ (k : ℕ). part k 4 bs) q) e)
