-- `plane::entries::firsts` meets its contract. Assumes nothing.
use native.Mathlib.Decide.{dec_lt}
use native.Mathlib.Omega.{arith}
use mathlib.Core.Path.{◌≡◌, sym, ◌∙◌}
use Rattle.std.proofs.Common.{rules}
use Rattle.plane.specs.Arrays.{below, firsts_or}
use Rattle.plane.proofs.Arrays.{below_lt, below_past, made_array}
use Rattle.plane.proofs.entries.firsts.Goals as goal

pub returns : goal.returns
unfolding firsts_or
returns g c = λ f t.
    made_array 0 _ _ _ (λ d. below 0 c.args.n d (f d))
    (λ d y q h k. elim (dec_lt d c.args.n) [
      | yes l ↦ (search rules, t d y l (search rules) ∙ sym (below_lt 0 c.args.n d (f d) l))
      | no l ↦ (search rules, let e : y ≡ 0 = search rules in e ∙ sym (below_past 0 c.args.n d (f d) (omega arith)))
    ])
    c.from_fn.ensures.items
