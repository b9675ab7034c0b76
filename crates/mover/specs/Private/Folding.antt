-- Dimensions that are one, and the plan that has them as one.
use Rattle.std.specs.Prelude.{◌≡◌, ℕ, ◌*◌, ◌^◌, ◌<◌, Bool, true, cond, ◌⊎◌, ◌==◌}
use Rattle.mover.specs.declared.plan.Axis.{Axis}
use Rattle.mover.specs.declared.plan.Plan.{Plan}
use Rattle.mover.specs.Private.Plans.{goes_down, jump_length}
use Rattle.mover.specs.Private.Elements.{plan_kept, home_of, plan_total, co0, co1, co2, co3}
use Rattle.mover.specs.Private.Ready.{reach_of, place_end, GoodAxes, place_by}

-- nothing of y is padding, and x goes on where y ends, in the same direction
pub record Follows (x y : Axis) : Type 0 where
  pub all : y.count ≡ y.extent
  pub way : goes_down x.jump ≡ goes_down y.jump
  pub jump : jump_length x.jump ≡ y.extent * jump_length y.jump
  pub stride : x.stride ≡ y.extent * y.stride

-- two neighbouring dimensions are one: the inner has one coordinate, or the outer goes on where it ends
abbrev pub Joins : Axis → Axis → Type 0
Joins x y = (y.extent ≡ 1) ⊎ Follows x y

-- both as one
unfoldable pub as_one : Axis → Axis → Axis
as_one x y =
    cond (y.extent == 1) x
    (record { extent = x.extent * y.extent; pre = x.pre * y.extent; count = x.count * y.extent; jump = y.jump; stride = y.stride })

-- whether element number q is kept, and the byte of its source element
unfoldable pub kept_by : Plan → ℕ → Bool
kept_by p q = plan_kept p (co0 p q) (co1 p q) (co2 p q) (co3 p q)

unfoldable pub home_by : Plan → ℕ → ℕ
home_by p q = home_of p (co0 p q) (co1 p q) (co2 p q) (co3 p q)

-- what folding asks of a plan
pub record Foldable (p : Plan) : Type 0 where
  pub axes : GoodAxes p
  pub few : plan_total p < 2 ^ 64

-- r is the plan of the same move as p: element by element, and over the same bytes
pub record Folds (p r : Plan) : Type 0 where
  pub axes : GoodAxes r
  pub total : plan_total r ≡ plan_total p
  pub size : r.size ≡ p.size
  pub pad : r.pad ≡ p.pad
  pub base : r.base ≡ p.base
  pub place : (q : ℕ) → q < plan_total p → place_by r q ≡ place_by p q
  pub kept : (q : ℕ) → q < plan_total p → kept_by r q ≡ kept_by p q
  pub home : (q : ℕ) → q < plan_total p → kept_by p q ≡ true → home_by r q ≡ home_by p q
  pub reach : reach_of r ≡ reach_of p
  pub place_end_lem : place_end r ≡ place_end p
