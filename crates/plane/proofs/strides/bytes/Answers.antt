-- `plane::strides::bytes` meets its contract. Assumes nothing.
use Prim.Native.Nat.{ℕ, ◌+◌, ◌-◌, ◌*◌, ◌<◌}
use mathlib.Core.Path.{◌≡◌, ap, ◌∙◌}
use mathlib.Core.List.{List}
use native.Mathlib.Omega.{arith}
use Rattle.plane.specs.Arrays.{at}
use Rattle.plane.proofs.Arrays.{firsts_at, sum_same}
use Rattle.plane.proofs.strides.bytes.Goals as goal
use Rattle.plane.proofs.strides.bytes.Goals.{After-last}

-- the last coordinate is the offset and the extent less 1
last-at : (c : After-last) (d : ℕ) → d < c.args.rank.n → at c.last.result d ≡ at c.args.offset d + at c.args.extent d - 1
last-at c d h = ap (λ (l : List ℕ). at l d) c.last.ensures ∙ firsts_at 0 _ _ d c.args.rank.small h

pub distance-requires : goal.distance-requires
distance-requires c = λ d h. let e = last-at c d h in let p = c.requires d h in omega arith

pub returns : goal.returns
returns c =
    let s = c.args in
    ap (λ (x : ℕ). (1 + x) * s.size)
    (c.distance.ensures.0 ∙ sum_same s.rank.n _ _ (λ d h. ap (λ (x : ℕ). x * at s.stride d) (last-at c.before d h)))
