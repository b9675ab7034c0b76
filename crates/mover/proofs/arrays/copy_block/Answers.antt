-- `mover::arrays::copy_block` copies a part over a part. Assumes nothing.
use Rattle.std.proofs.Common.{◌≡◌, ◌+◌, ◌-◌, arith}
use Rattle.mover.proofs.Blocking.{block_put}
use Rattle.mover.proofs.arrays.copy_block.Goals as goal

pub returns : goal.returns
returns c =
    let r = c.requires in
    let a = c.args in
    block_put a.dst.now a.src.now c.copy_from_slice.new.self a.at a.to a.n (a.to + a.n - a.to) r.n_in_bounds r.n_in_bounds_2 (omega arith)
    (let e : a.at + a.n - a.at ≡ a.to + a.n - a.to = omega arith in rw (← e) c.copy_from_slice.ensures.after)
