-- `mover::arrays::pairs` is each pair as a number. Assumes nothing.
use Rattle.std.proofs.Common.{◌≡◌, ◌+◌, ◌*◌, rules, arith}
use Rattle.mover.proofs.Filling.{pair_at, made_from}
use Rattle.mover.proofs.arrays.pairs.Goals as goal

pub returns : goal.returns
returns c =
    made_from _ c.from_fn.result 16 (pair_at c.args.src.now c.args.from)
    (λ k y q p.
    let e : c.args.from + k + k ≡ c.args.from + 2 * k = omega arith in
    rw (← e) (search rules))
    c.from_fn.ensures.items
