-- `mover::pixels::coordinate_fault` refuses the lowest dimension whose coordinate is not below its extent. Assumes nothing.
use Rattle.std.proofs.Common.{◌<◌, ◌≤◌, ℕ, rules, arith, le-leb}
use borrow.Author.Tests.{tests, lt-leb}
use Rattle.std.proofs.lemmas.Iterator.{first_from_Range}
use Rattle.faults.proofs.Outcomes.{lowest_found, lowest_none}
use Rattle.plane.specs.Arrays.{at}
use Rattle.mover.specs.Pixel.{bad_coordinate}
use Rattle.mover.proofs.pixels.coordinate_fault.Goals as goal

pub returns-in-Some : goal.returns-in-Some
returns-in-Some c =
    let first = first_from_Range _ _ _ c.find.result (λ i. at c.args.extent i ≤ at c.args.x i) (λ i. at c.args.x i < at c.args.extent i) c.find.ensures.ran (λ x q k. search (rules, tests)) (λ x q k. search (rules, tests)) in
    let w = rw c.in-Some.is at first in
    lowest_found tt 35 c.args.n (λ (i : ℕ). bad_coordinate (at c.args.extent i) (at c.args.x i)) (omega arith) w.1 (le-leb _ _ w.2) (λ k l. lt-leb _ _ (w.3 k (omega arith) l))

pub returns-in-None : goal.returns-in-None
returns-in-None c =
    let first = first_from_Range _ _ _ c.find.result (λ i. at c.args.extent i ≤ at c.args.x i) (λ i. at c.args.x i < at c.args.extent i) c.find.ensures.ran (λ x q k. search (rules, tests)) (λ x q k. search (rules, tests)) in
    let w = rw c.in-None.is at first in
    lowest_none tt 35 c.args.n (λ (i : ℕ). bad_coordinate (at c.args.extent i) (at c.args.x i)) (λ k l. lt-leb _ _ (w k (omega arith) l))
