-- `mover::plan::Accepted::base` sums destination offset times stride over the dimensions. Assumes nothing.
use Rattle.std.proofs.Common.{◌≡◌, ℕ, ◌*◌, ◌^◌, ◌<◌, ◌≤◌, mul-le-mul, ap, rules, tests, arith}
use Rattle.plane.specs.Arrays.{at, sum}
use Rattle.mover.proofs.Chains.{chain_sum, sum_fits}
use Rattle.mover.proofs.Making.{bytes_fit}
use Rattle.mover.proofs.plan.Accepted.base.Goals as goal
use Rattle.mover.proofs.plan.Accepted.base.Goals.{After-map, After-sum-total}

small : (c : After-map) (i : ℕ) → i < c.args.self.answer.rank → at c.args.self.config.dst_offset i * at c.args.self.answer.stride i ≤ 65535 * 4294967295
small c i h =
    let w = c.well_formed in
    let z : at c.args.self.answer.stride i ≤ 4294967295 = search (rules, arith) in
    mul-le-mul (c.args.self.fit.dst_offset_lem i h) z

pub sum-total-requires-clause-fits : goal.sum-total-requires-clause-fits
sum-total-requires-clause-fits c =
    let t = c.args.self in
    sum_fits t.answer.rank (λ i. at t.config.dst_offset i * at t.answer.stride i) c.map.ensures.source c.map.ensures.closure (λ x r q k. search (rules, tests))
    (65535 * 4294967295) _ (small c) (omega (arith, t.fit.rank))

summed : (c : After-sum-total) → let t = c.args.self in
    c.sum-total.result ≡ sum t.answer.rank (λ i. at t.config.dst_offset i * at t.answer.stride i)
summed c =
    let t = c.args.self in
    chain_sum t.answer.rank (λ i. at t.config.dst_offset i * at t.answer.stride i) c.map.ensures.source c.map.ensures.closure (λ x r q k. search (rules, tests)) c.sum-total.ensures.ran

pub overflow_mul-result : goal.overflow_mul-result
overflow_mul-result c =
    let t = c.args.self in
    let fits : c.sum-total.result * t.answer.element_size < 2 ^ 64 =
    rw (summed c) (bytes_fit t.answer.rank _ t.answer.element_size t.fit.rank t.fit.element (small (goal.at-overflow_mul-result c).After-map)) in
    omega (arith, fits)

pub returns : goal.returns
returns c = ap (λ (y : ℕ). y * c.args.self.answer.element_size) (summed c)
