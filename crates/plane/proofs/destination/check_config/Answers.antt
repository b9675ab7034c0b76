-- `plane::destination::check_config` meets its contract. Assumes nothing.
use mathlib.Core.Path.{sym, ◌∙◌}
use native.Mathlib.Omega.{arith}
use Rattle.std.proofs.Common.{rules}
use Rattle.plane.specs.Moves.{config_fault}
use Rattle.faults.proofs.Outcomes.{clear, goes, halts, stops}
use Rattle.plane.proofs.Good.{offset_good, step_good}
use Rattle.plane.proofs.destination.check_config.Goals as goal

pub returns-in_err-check_perm : goal.returns-in_err-check_perm
unfolding config_fault
returns-in_err-check_perm c =
    stops (halts _ _ _ _ c.check_perm.ensures c.in_err-check_perm.was) (search rules)

pub returns-in_err-check_offset : goal.returns-in_err-check_offset
unfolding config_fault
returns-in_err-check_offset c =
    stops
    (goes _ _ _ _ c.check_perm.ensures c.in_ok-check_perm.was ∙ halts _ _ _ _ c.check_offset.ensures c.in_err-check_offset.was)
    (search rules)

pub returns-in_err-check_size : goal.returns-in_err-check_size
unfolding config_fault
returns-in_err-check_size c =
    stops
    (goes _ _ _ _ c.check_perm.ensures c.in_ok-check_perm.was ∙ goes _ _ _ _ c.check_offset.ensures c.in_ok-check_offset.was ∙
    halts _ _ _ _ c.check_size.ensures c.in_err-check_size.was)
    (search rules)

pub returns-in_err-check_step : goal.returns-in_err-check_step
unfolding config_fault
returns-in_err-check_step c =
    stops
    (goes _ _ _ _ c.check_perm.ensures c.in_ok-check_perm.was ∙ goes _ _ _ _ c.check_offset.ensures c.in_ok-check_offset.was ∙
    goes _ _ _ _ c.check_size.ensures c.in_ok-check_size.was ∙ halts _ _ _ _ c.check_step.ensures c.in_err-check_step.was)
    (search rules)

-- the extents are worked out where offsets and steps are good
pub check_extent-requires : goal.check_extent-requires
check_extent-requires c =
    let oz = clear _ _ c.check_offset.ensures c.in_ok-check_offset.was in
    let sz = clear _ _ c.check_step.ensures c.in_ok-check_step.was in (
      c.requires,
      λ d h. let l = offset_good c.args.t c.args.c oz d h in (omega arith, (step_good c.args.t c.args.c sz d h).0),
    )

pub returns : goal.returns
unfolding config_fault
returns c =
    c.check_extent.ensures ∙
    sym
    (goes _ _ _ _ c.check_perm.ensures c.in_ok-check_perm.was ∙ goes _ _ _ _ c.check_offset.ensures c.in_ok-check_offset.was ∙
    goes _ _ _ _ c.check_size.ensures c.in_ok-check_size.was ∙ goes _ _ _ _ c.check_step.ensures c.in_ok-check_step.was)
