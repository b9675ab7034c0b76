-- `plane::destination::placement` meets its contract. Assumes nothing.
use mathlib.Core.Path.{sym, ap, ◌∙◌}
use native.Mathlib.Omega.{arith}
use Rattle.std.proofs.Common.{rules}
use Rattle.std.specs.Prelude.{Ok}
use Rattle.plane.specs.Moves.{dst_fault}
use Rattle.faults.proofs.Outcomes.{outcome_ok, clear, passed_value, goes, halts, ends, stops}
use Rattle.plane.proofs.Rules.{accepts, place_strides, place_offsets, place_offset_small}
use Rattle.plane.proofs.destination.placement.Goals as goal

pub returns-in_err-stride : goal.returns-in_err-stride
unfolding dst_fault
returns-in_err-stride c =
    stops (halts _ _ _ _ (place_strides c.args.t c.args.c c.requires.1 c.resolve.ensures) c.in_err-stride.was) (search rules)

pub returns-in_err-check_dst_offset : goal.returns-in_err-check_dst_offset
unfolding dst_fault
returns-in_err-check_dst_offset c =
    let a = c.args in
    let w = place_strides a.t a.c c.requires.1 c.resolve.ensures in
    let l = passed_value _ _ w c.in_ok-stride.was in
    stops
    (goes _ _ _ _ w c.in_ok-stride.was ∙
    ends _ _ _ (place_offsets a.t a.c c.requires.1 l c.check_dst_offset.ensures) c.in_err-check_dst_offset.was)
    (search rules)

pub bytes-requires : goal.bytes-requires
bytes-requires c = λ d h.
    let p = c.requires.2 d h in
    let q = place_offset_small c.args.t c.args.c _ _ (clear _ _ c.check_dst_offset.ensures c.in_ok-check_dst_offset.was) d h in
    (p.0, omega arith)

pub returns : goal.returns
unfolding dst_fault
returns c =
    let a = c.args in
    let w = place_strides a.t a.c c.requires.1 c.resolve.ensures in
    let l = passed_value _ _ w c.in_ok-stride.was in
    let o = place_offsets a.t a.c c.requires.1 l c.check_dst_offset.ensures in
    ap Ok (accepts a.t a.c c.requires.1 l c.bytes.ensures) ∙
    sym (goes _ _ _ _ w c.in_ok-stride.was ∙ outcome_ok _ _ (clear _ _ o c.in_ok-check_dst_offset.was))
