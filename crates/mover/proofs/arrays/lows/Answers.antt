-- `mover::arrays::lows` is the low byte of each. Assumes nothing.
use Rattle.std.proofs.Common.{◌%◌, get_or, rules}
use Rattle.mover.proofs.Shuffled.{made_by}
use Rattle.mover.proofs.arrays.lows.Goals as goal

pub returns : goal.returns
returns c =
    let items = c.map.ensures.items in
    made_by 16 (λ k. get_or c.args.a k 0 % 256) c.map.result items.long (λ k h. let m = items.at k 0 0 h in search rules)
