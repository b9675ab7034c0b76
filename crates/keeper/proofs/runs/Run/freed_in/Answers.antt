-- `keeper::runs::Run::freed_in` makes a run free. Assumes nothing.
use mathlib.Core.Path.{◌≡◌}
use Prim.Native.Nat.{◌-◌, ◌^◌}
use Rattle.keeper.proofs.Answers.{run-left-out}
use Rattle.keeper.proofs.runs.Run.freed_in.Goals as goal

pub returns : goal.returns
returns c =
    let e : c.ones.result ≡ 2 ^ c.args.self.n - 1 = c.ones.ensures in
    rw e (run-left-out c.args.word c.args.self.first c.args.self.n c.ranges.word.fits c.args.self.inside)
