-- `plane::destination::destination` meets its contract. Assumes nothing.
use mathlib.Core.Path.{sym, ◌∙◌}
use native.Mathlib.Omega.{arith}
use Rattle.std.proofs.Common.{rules}
use Rattle.faults.proofs.Outcomes.{clear, goes, halts, stops}
use Rattle.plane.proofs.Good.{config_good}
use Rattle.plane.proofs.Rules.{dst_extent}
use Rattle.plane.proofs.destination.destination.Goals as goal

pub returns-in_err-check_config : goal.returns-in_err-check_config
returns-in_err-check_config c =
    stops (halts _ _ _ _ c.check_config.ensures c.in_err-check_config.was) (search rules)

-- 6 to 10 were passed
pub dst_extents-requires : goal.dst_extents-requires
dst_extents-requires c =
    let g = config_good _ _ (clear _ _ c.check_config.ensures c.in_ok-check_config.was) in (
      c.requires,
      g.perm,
      λ d h. let o = g.offset d h in (omega arith, (g.step d h).0, g.extent d h),
    )

pub placement-requires : goal.placement-requires
placement-requires c =
    let g = config_good _ _ (clear _ _ c.check_config.ensures c.in_ok-check_config.was) in (
      c.requires,
      c.dst_extents.ensures,
      λ i h. rw c.dst_extents.ensures (dst_extent g i c.requires h),
    )

pub returns : goal.returns
returns c =
    c.placement.ensures ∙ sym (goes _ _ _ _ c.check_config.ensures c.in_ok-check_config.was)
