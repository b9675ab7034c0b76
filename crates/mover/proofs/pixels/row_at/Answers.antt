use Rattle.std.proofs.Common.{sym, ◌∙◌, arith}
use Rattle.mover.proofs.Making.{room_source}
use Rattle.mover.proofs.Picking.{to_none, to_more, to_passable}
use Rattle.mover.proofs.pixels.row_at.Goals as goal

pub loop-i-init : goal.loop-i-init
loop-i-init c = (omega arith, sym (to_none c.outermost-row.result c.args.x))

pub bounds-x-i : goal.bounds-x-i
bounds-x-i c =
    omega (arith, c.loop-i-test.true, (room_source c.args.t c.args.c c.requires.0).rank.1)

pub inward-row-requires : goal.inward-row-requires
inward-row-requires c =
    rw (c.loop-i.invariant.1, c.outermost-row.ensures)
    (to_passable c.args.t c.args.c c.args.src c.args.x c.requires c.loop-i.i c.loop-i-test.true)

pub loop-i-preserved : goal.loop-i-preserved
loop-i-preserved c =
    let l = c.loop-i in
    (omega (arith, c.loop-i-test.true), c.inward-row.ensures ∙ to_more _ _ l.i l.invariant.1)
