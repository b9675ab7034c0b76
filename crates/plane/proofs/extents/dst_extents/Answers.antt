use native.Mathlib.Omega.{arith}
use Rattle.plane.specs.Arrays.{at}
use Rattle.plane.specs.Moves.{dst_extents}
use Rattle.plane.proofs.Arrays.{filled_start, filled_more, filled_end}
use Rattle.plane.proofs.extents.dst_extents.Goals as goal

pub extent_at-requires : goal.extent_at-requires
extent_at-requires c =
    let q = c.requires.1 c.loop-i.i c.loop-i-test.true in
    let p = c.requires.2 (at c.args.c.perm c.loop-i.i) q in
    (omega (arith, c.requires.0), p.0, p.1)

pub overflow_cast-out : goal.overflow_cast-out
overflow_cast-out c =
    let q = c.requires.1 c.loop-i.i c.loop-i-test.true in
    let p = (c.requires.2 (at c.args.c.perm c.loop-i.i) q).2 in
    omega (arith, c.extent_at.ensures)

pub loop-i-preserved : goal.loop-i-preserved
loop-i-preserved c =
    filled_more c.requires.0 c.loop-i.invariant c.loop-i-test.true c.extent_at.ensures

pub returns : goal.returns
unfolding dst_extents
returns c = filled_end c.loop-i.invariant c.loop-i-test.false

pub loop-i-init : goal.loop-i-init
loop-i-init c = filled_start
