-- `mover::arrays::read_evens`: the low bytes of pairs. Assumes nothing.
use Rattle.mover.proofs.Filling.{evens_made}
use Rattle.mover.proofs.arrays.read_evens.Goals as goal

pub returns : goal.returns
returns c =
    rw (c.lows.ensures, c.pairs.ensures) (evens_made c.args.src.now c.args.at 16 (λ i. (c.type_inv.src i).fits))
