use mathlib.Core.Path.{sym, ap, ◌∙◌}
use native.Mathlib.Omega.{arith}
use Rattle.std.specs.Prelude.{Ok}
use Rattle.faults.proofs.Outcomes.{ends_if, ok_if}
use Rattle.plane.specs.Signs.{at_z}
use Rattle.plane.proofs.Signed.{read_back}
use Rattle.plane.proofs.Staying.{shrunk_start, shrunk_gone, shrunk_kept, shrunk_short, shrunk_enough, shrunk_end}
use Rattle.plane.proofs.sub.without_units.Goals as goal
use Rattle.plane.proofs.sub.without_units.Goals.{else-size-i, then-size-i}

pub loop-d-preserved : goal.loop-d-preserved
loop-d-preserved c =
    let w = c.loop-d.invariant in
    let h = c.loop-d-test.true in
    elim c.if-size-i.branch [
      | then-size-i v ↦ rw (v.shape-is, v.out-is, v.lacking-is, v.k-is) (shrunk_gone _ _ _ _ w h v.if-size-i.true)
      | else-size-i v ↦ rw (v.shape-is, v.out-is, v.lacking-is, v.k-is, read_back (at_z c.args.stride c.loop-d.d) v.out-1.given)
          (shrunk_kept _ _ _ _ w h c.args.rank.small v.if-size-i.false)
    ]

pub loop-d-init : goal.loop-d-init
loop-d-init c = shrunk_start _ _ _ _

pub returns-then-lacking-ne0 : goal.returns-then-lacking-ne0
returns-then-lacking-ne0 c =
    sym (ends_if 15 _ _ (omega arith) (shrunk_short _ _ _ _ c.loop-d.invariant c.loop-d-test.false c.if-lacking-ne0.true))

pub returns : goal.returns
returns c =
    let w = c.loop-d.invariant in
    let h = c.loop-d-test.false in
    ap Ok (shrunk_end _ _ _ _ w h) ∙ sym (ok_if 15 _ _ (shrunk_enough _ _ _ _ w h c.if-lacking-ne0.false))
