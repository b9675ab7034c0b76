-- `keeper::runs::Run::is_taken` tells whether each block of a run is taken. Assumes nothing.
use mathlib.Core.Path.{◌≡◌, sym}
use Prim.Native.Nat.{◌-◌, ◌^◌}
use Rattle.keeper.proofs.Bits.{run_taken}
use Rattle.keeper.proofs.runs.Run.is_taken.Goals as goal

pub returns : goal.returns
returns c =
    let e : c.ones-run.result ≡ 2 ^ c.args.self.n - 1 = c.ones-run.ensures in
    rw e (sym (run_taken c.args.word c.args.self.first c.args.self.n))
