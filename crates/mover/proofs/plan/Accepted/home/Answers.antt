-- `mover::plan::Accepted::home` sums over the dimensions how far up the first kept coordinate lies. Assumes nothing.
use Rattle.std.proofs.Common.{◌≡◌, ℕ, ◌*◌, ◌^◌, ◌<◌, ◌≤◌, mul-le-mul, ap, rules, tests, arith}
use Rattle.plane.specs.Arrays.{at, sum}
use Rattle.plane.specs.Planes.{shape_at, down_at, up}
use Rattle.mover.specs.Element.{dim_of}
use Rattle.mover.specs.Private.Plans.{above_made}
use Rattle.mover.proofs.Fitting.{up_within}
use Rattle.mover.proofs.Chains.{chain_sum, sum_fits}
use Rattle.mover.proofs.Making.{bytes_fit}
use Rattle.mover.proofs.plan.Accepted.home.Goals as goal
use Rattle.mover.proofs.plan.Accepted.home.Goals.{After-map, After-sum-total}

small : (c : After-map) (i : ℕ) → i < c.args.self.answer.rank → above_made c.args.self.tensor c.args.self.config c.args.self.sizes i ≤ 65535 * 4294967295
small c i h =
    let t = c.args.self in
    let d = dim_of t.config i in
    let w = c.well_formed in
    let z : at t.sizes d ≤ 4294967295 = search (rules, arith) in
    let u = up_within (down_at t.tensor d) (shape_at t.tensor d) (at t.config.offset d) (omega (arith, t.fit.offset i h)) in
    let most : up (down_at t.tensor d) (shape_at t.tensor d) (at t.config.offset d) ≤ 65535 = omega (arith, t.fit.shape i h) in
    mul-le-mul most z

pub sum-total-requires-clause-fits : goal.sum-total-requires-clause-fits
sum-total-requires-clause-fits c =
    let t = c.args.self in
    sum_fits t.answer.rank (above_made t.tensor t.config t.sizes) c.map.ensures.source c.map.ensures.closure (λ x r q k. search (rules, tests))
    (65535 * 4294967295) _ (small c) (omega (arith, t.fit.rank))

summed : (c : After-sum-total) → let t = c.args.self in c.sum-total.result ≡ sum t.answer.rank (above_made t.tensor t.config t.sizes)
summed c =
    let t = c.args.self in
    chain_sum t.answer.rank (above_made t.tensor t.config t.sizes) c.map.ensures.source c.map.ensures.closure (λ x r q k. search (rules, tests)) c.sum-total.ensures.ran

pub overflow_mul-result : goal.overflow_mul-result
overflow_mul-result c =
    let t = c.args.self in
    let fits : c.sum-total.result * t.answer.element_size < 2 ^ 64 =
    rw (summed c) (bytes_fit t.answer.rank _ t.answer.element_size t.fit.rank t.fit.element (small (goal.at-overflow_mul-result c).After-map)) in
    omega (arith, fits)

pub returns : goal.returns
returns c = ap (λ (y : ℕ). y * c.args.self.answer.element_size) (summed c)
