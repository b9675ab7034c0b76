-- `record::checks::check_stray` refuses the lowest dimension at or past the rank that has an entry. Assumes nothing.
use mathlib.Core.Path.{◌≡◌, ◌∙◌}
use mathlib.Core.Bool.{true, false}
use native.Mathlib.Omega.{arith}
use borrow.Author.Rules.{rules}
use Rattle.std.proofs.lemmas.Iterator.{first_from_Range}
use Rattle.faults.proofs.Outcomes.{lowest_found, lowest_none}
use Rattle.record.specs.Records.{stray}
use Rattle.record.proofs.Strays.{has, stray_is, none_stray}
use Rattle.record.proofs.checks.check_stray.Goals as goal

pub returns-in-Some : goal.returns-in-Some
returns-in-Some c =
    let t = c.args.t.now in
    let x = c.args.c.now in
    let first = first_from_Range _ _ _ c.find.result (λ d. has t x d ≡ true) (λ d. has t x d ≡ false) c.find.ensures.ran (λ d q k. search rules) (λ d q k. search rules) in
    let w = rw c.in-Some.is at first in
    lowest_found tt 28 4 (stray t x) (omega arith) w.1 (stray_is t x c.in-Some.dim w.0 ∙ w.2) (none_stray t x c.in-Some.dim w.3)

pub returns-in-None : goal.returns-in-None
returns-in-None c =
    let t = c.args.t.now in
    let x = c.args.c.now in
    let first = first_from_Range _ _ _ c.find.result (λ d. has t x d ≡ true) (λ d. has t x d ≡ false) c.find.ensures.ran (λ d q k. search rules) (λ d q k. search rules) in
    let w = rw c.in-None.is at first in
    lowest_none tt 28 4 (stray t x) (none_stray t x 4 w)
