-- `plane::refusals::check_each` refuses the lowest dimension that is bad. Assumes nothing.
use mathlib.Core.Path.{◌≡◌, sym}
use mathlib.Core.Bool.{true, false}
use Rattle.std.proofs.Common.{◌<◌, rules, arith}
use Rattle.std.proofs.lemmas.Iterator.{first_from_Range}
use Rattle.faults.proofs.Outcomes.{lowest_found, lowest_none}
use Rattle.plane.proofs.refusals.check_each.Goals as goal

pub returns-in-Some : goal.returns-in-Some
returns-in-Some g c = λ bad t.
    let first = first_from_Range _ _ _ c.find-found.result (λ i. i < c.args.n → bad i ≡ true) (λ i. i < c.args.n → bad i ≡ false) c.find-found.ensures.ran
    (λ x q k l. sym (t x true l (search rules))) (λ x q k. (search rules, λ l. sym (t x false l (search rules)))) in
    let w = rw c.in-Some.is at first in
    let h : c.in-Some.dim < c.args.n = w.1 in
    lowest_found tt c.args.status c.args.n bad c.requires.positive h (w.2 h) (λ k l. w.3 k (omega arith) l (omega arith))

pub returns : goal.returns
returns g c = λ bad t.
    let first = first_from_Range _ _ _ c.find-found.result (λ i. i < c.args.n → bad i ≡ true) (λ i. i < c.args.n → bad i ≡ false) c.find-found.ensures.ran
    (λ x q k l. sym (t x true l (search rules))) (λ x q k. (search rules, λ l. sym (t x false l (search rules)))) in
    let w = rw c.in-None.is at first in
    lowest_none tt c.args.status c.args.n bad (λ k l. w k (omega arith) l l)
