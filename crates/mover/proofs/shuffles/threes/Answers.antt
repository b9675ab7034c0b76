use Rattle.std.proofs.Common.{refl, arith}
use Rattle.mover.proofs.Filling.{threes_start, threes_more, threes_done}
use Rattle.mover.proofs.shuffles.threes.Goals as goal

pub loop-init : goal.loop-init
loop-init c = (threes_start c.args.t _ refl, refl, refl)

pub loop-preserved : goal.loop-preserved
loop-preserved c =
    let l = c.loop in
    (threes_more c.args.t l.o l.k l.j l.invariant.0 (omega (arith, l.invariant, c.loop-test.true)) (omega (arith, l.invariant)), omega (arith, l.invariant), omega (arith, l.invariant))

pub returns : goal.returns
returns c =
    let l = c.loop in
    threes_done c.args.t l.o l.j l.invariant.0 (omega (arith, l.invariant, c.loop-test.false))
