use mathlib.Core.Path.{◌≡◌, ap, ◌∙◌}
use native.Mathlib.Omega.{arith}
use Rattle.std.specs.Prelude.{Ok}
use Rattle.faults.proofs.Faults.{status}
use Rattle.faults.proofs.Outcomes.{passes, refuses}
use Rattle.plane.proofs.Resolving.{walked_start, walked_more, walked_bad, walked_clear, walked_end}
use Rattle.plane.proofs.strides.resolve.Goals as goal

pub loop-dim-init : goal.loop-dim-init
loop-dim-init c = walked_start _ _ _ _

pub returns-then-s-inner : goal.returns-then-s-inner
returns-then-s-inner c =
    refuses _ (walked_bad _ _ _ _ (omega arith) c.loop-dim.invariant c.resolved-s.ensures c.requires c.if-s-inner.true) (λ z. omega arith)

pub loop-dim-preserved : goal.loop-dim-preserved
loop-dim-preserved c =
    walked_more _ _ _ _ (omega arith) c.loop-dim.invariant c.resolved-s.ensures c.args.rank.small c.if-s-inner.false c.times-inner.ensures.0

pub returns : goal.returns
returns c =
    let z : c.loop-dim.dim ≡ 0 = omega arith in
    ap Ok (walked_end _ _ _ _ z c.loop-dim.invariant) ∙
    passes _ _ (status (walked_clear _ _ _ _ z c.loop-dim.invariant))
