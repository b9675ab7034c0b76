-- `plane::helpers::product_from` meets its contract. Assumes nothing.
use Prim.Native.Nat.{◌+◌, ◌-◌}
use native.Mathlib.Omega.{arith}
use borrow.Author.Rules.{rules}
use mathlib.Core.Path.{refl}
use Rattle.std.proofs.lemmas.Iterator.{YieldsList-from_range, YieldsList-from_map}
use Rattle.plane.specs.Arrays.{at}
use Rattle.plane.proofs.Bounds.{product_most}
use Rattle.plane.proofs.Ranges.{product_fits, product_is}
use Rattle.plane.proofs.helpers.product_from.Goals as goal

pub product-requires-clause-fits : goal.product-requires-clause-fits
product-requires-clause-fits c =
    let a = c.args in
    product_fits (at a.shape) a.start (a.rank.n - a.start)
    (YieldsList-from_map _ _ (YieldsList-from_range a.start a.rank.n (a.rank.n - a.start) c.map.ensures.source refl) c.map.ensures.closure (λ x r q k. search rules))
    (λ k. at a.shape (a.start + k)) (λ k. refl) _
    (λ k l.
    let s = a.rank.small in
    let w = product_most k _ (omega arith) (λ j h. c.requires (a.start + j) (omega arith)) in
    omega arith)

pub returns : goal.returns
returns c =
    let a = c.args in
    product_is (at a.shape) a.start (a.rank.n - a.start)
    (YieldsList-from_map _ _ (YieldsList-from_range a.start a.rank.n (a.rank.n - a.start) c.map.ensures.source refl) c.map.ensures.closure (λ x r q k. search rules))
    (λ k. at a.shape (a.start + k)) (λ k. refl) c.product.ensures.ran
