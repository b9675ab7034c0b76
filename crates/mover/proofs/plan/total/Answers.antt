-- `mover::plan::total` multiplies the extents. Assumes nothing.
use Rattle.std.proofs.Common.{rules, tests}
use Rattle.plane.specs.Arrays.{at}
use Rattle.mover.proofs.Chains.{chain_product, product_fits}
use Rattle.mover.proofs.plan.total.Goals as goal

pub product-requires-clause-fits : goal.product-requires-clause-fits
product-requires-clause-fits c =
    product_fits c.args.a.rank (at c.args.a.extent) c.map.ensures.source c.map.ensures.closure (λ x r q k. search (rules, tests)) c.requires.0 c.requires.1

pub returns : goal.returns
returns c =
    chain_product c.args.a.rank (at c.args.a.extent) c.map.ensures.source c.map.ensures.closure (λ x r q k. search (rules, tests)) c.product.ensures.ran
