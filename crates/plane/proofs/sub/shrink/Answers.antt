-- `plane::sub::shrink` answers 14 and 15, else the sub-tensor. Assumes nothing.
use Prim.Native.Nat.{ℕ, ◌≤◌}
use mathlib.Core.Path.{sym, ap, subst⁻¹, ◌∙◌}
use mathlib.Core.List.{List}
use native.Mathlib.Omega.{arith}
use Rattle.std.proofs.Common.{rules}
use Rattle.std.specs.Prelude.{Ok}
use Rattle.plane.specs.Arrays.{at}
use Rattle.plane.specs.Helpers.{rank_fault}
use Rattle.faults.proofs.Outcomes.{outcome_ok, clear, passed_value, ends, stops, goes_if, halts_if}
use Rattle.plane.proofs.SubAnswers.{sub_given, strides_most, low_small}
use Rattle.plane.proofs.sub.shrink.Goals as goal

pub returns-then-s-t : goal.returns-then-s-t
unfolding rank_fault
returns-then-s-t c = sym (halts_if 14 _ _ _ (omega arith) c.if-s-t.true)

pub with_signs-requires : goal.with_signs-requires
with_signs-requires c =
    λ d h. subst⁻¹ (λ (l : List ℕ). at l d ≤ 2147483647) c.requires.1 (strides_most c.requires.0 d h)

pub returns-in_err-shape : goal.returns-in_err-shape
unfolding rank_fault
returns-in_err-shape c =
    stops (goes_if 14 _ _ _ c.if-s-t.false ∙ ends _ _ _ c.without_units.ensures c.in_err-shape.was) (search rules)

pub distance-requires : goal.distance-requires
distance-requires c = low_small c.args.t c.args.s c.requires.0.rank.1 c.requires.2 c.lows-lowest.ensures

pub returns : goal.returns
unfolding rank_fault
returns c =
    let z = clear _ _ c.without_units.ensures c.in_ok-shape.was in
    ap Ok
    (sub_given _ _ c.if-s-t.false c.requires.1 c.with_signs.ensures (passed_value _ _ c.without_units.ensures c.in_ok-shape.was)
    c.requires.0.rank.1 z c.lows-lowest.ensures c.distance.ensures.0) ∙
    sym (goes_if 14 _ _ _ c.if-s-t.false ∙ outcome_ok _ _ z)
