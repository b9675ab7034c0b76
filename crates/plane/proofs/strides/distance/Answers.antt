-- `plane::strides::distance` meets its contract. Assumes nothing.
use Prim.Native.Nat.{ℕ, ◌*◌, ◌≤◌, ◌<◌}
use native.Mathlib.Nat.{mul-le-mul}
use native.Mathlib.Omega.{arith}
use borrow.Author.Rules.{rules}
use Rattle.std.proofs.lemmas.Iterator.{YieldsList-from_range, YieldsList-from_map}
use Rattle.plane.specs.Arrays.{at, sum}
use Rattle.plane.proofs.Bounds.{sum_most}
use Rattle.plane.proofs.Ranges.{from_0, sum_fits, sum_is}
use Rattle.plane.proofs.strides.distance.Goals as goal
use Rattle.plane.proofs.strides.distance.Goals.{After-map}

-- a term
abbrev term : After-map → ℕ → ℕ
term c d = at c.args.count d * at c.args.stride d

-- so many of them
few : (c : After-map) (k : ℕ) → k ≤ c.args.rank.n → sum k (term c) ≤ k * (131072 * 4294967295)
few c k h =
    let m : (d : ℕ) → d < 4 → at c.args.stride d ≤ 4294967295 = search rules in
    let s = c.args.rank.small in
    sum_most k (term c) (131072 * 4294967295) (λ d l. mul-le-mul (c.requires d (omega arith)) (m d (omega arith)))

pub sum-requires-clause-fits : goal.sum-requires-clause-fits
sum-requires-clause-fits c =
    let n = c.args.rank.n in
    sum_fits (term c) 0 n
    (YieldsList-from_map _ _ (YieldsList-from_range 0 n n c.map.ensures.source (omega arith)) c.map.ensures.closure (λ x r q k. search rules))
    (term c) (from_0 (term c)) _
    (λ k l. let s = c.args.rank.small in let w = few c k l in omega arith)

pub returns : goal.returns
returns c =
    let n = c.args.rank.n in
    let e = sum_is (term c.before) 0 n
    (YieldsList-from_map _ _ (YieldsList-from_range 0 n n c.map.ensures.source (omega arith)) c.map.ensures.closure (λ x r q k. search rules))
    (term c.before) (from_0 (term c.before)) c.sum.ensures.ran in
    let s = c.args.rank.small in
    let w = few c.before n (omega arith) in
    (e, omega arith)
