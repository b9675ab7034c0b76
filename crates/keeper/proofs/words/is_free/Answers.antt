-- `keeper::words::is_free` tells whether each block of a run is free. Assumes nothing.
use mathlib.Core.Path.{◌≡◌, sym}
use Prim.Native.Nat.{◌-◌, ◌^◌}
use Rattle.keeper.proofs.Bits.{run_free}
use Rattle.keeper.proofs.words.is_free.Goals as goal

pub returns : goal.returns
returns c =
    let e : c.ones.result ≡ 2 ^ c.args.n - 1 = c.ones.ensures in
    rw e (sym (run_free c.args.word c.args.first c.args.n))
