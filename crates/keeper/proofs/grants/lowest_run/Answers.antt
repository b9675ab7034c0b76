-- `keeper::grants::lowest_run` finds the lowest free run. Assumes nothing.
use Prim.Native.Nat.{ℕ, ◌≤◌, ◌<◌}
use mathlib.Core.Path.{◌≡◌, refl, sym, ◌∙◌}
use mathlib.Core.Bool.{true, false}
use native.Mathlib.Omega.{arith}
use borrow.Author.Rules.{rules}
use Rattle.std.specs.Option.{MatchOption}
use Rattle.std.proofs.lemmas.Iterator.{first_from_Range}
use Rattle.faults.proofs.Bools.{in_range}
use Rattle.plane.proofs.Arrays.{some_none}
use Rattle.keeper.specs.Blocks.{bad_block_count, all_free, starts}
use Rattle.keeper.proofs.Answers.{granted-31, granted-32, granted-0}
use Rattle.keeper.proofs.grants.lowest_run.Goals as goal
use Rattle.keeper.proofs.grants.lowest_run.Goals.{Else-count_is_bad, After-find}

pub returns-then-count_is_bad-clause-refused : goal.returns-then-count_is_bad-clause-refused
returns-then-count_is_bad-clause-refused c =
    granted-31 c.args.word c.args.n (sym c.count_is_bad.ensures ∙ c.if-count_is_bad.true)

-- past the first test: n is 1 to 64
fair : (c : Else-count_is_bad) → bad_block_count c.args.n ≡ false
fair c = sym c.count_is_bad.ensures ∙ c.if-count_is_bad.false

-- what is found is free, and nothing before it
found : (c : After-find)
    → let free = λ (b : ℕ). all_free c.args.word b c.args.n in
    MatchOption c.find.result ((b : ℕ) → 0 ≤ b → b < starts c.args.n → free b ≡ false)
    (λ i. (0 ≤ i) × (i < starts c.args.n) × (free i ≡ true) × ((b : ℕ) → 0 ≤ b → b < i → free b ≡ false))
found c =
    let free = λ (b : ℕ). all_free c.args.word b c.args.n in
    first_from_Range _ _ _ c.find.result (λ b. free b ≡ true) (λ b. free b ≡ false) c.find.ensures.ran (λ b q k. search rules) (λ b q k. search rules)

pub invariant_of-result : goal.invariant_of-result
invariant_of-result c =
    let at = goal.at-invariant_of-result c in
    let w = rw c.in-Some.is at (found at.After-find) in
    let r = in_range c.args.n 1 64 (fair at.Else-count_is_bad) in
    record { some = omega arith; inside = omega arith }

pub returns-in-Some-clause-granted : goal.returns-in-Some-clause-granted
returns-in-Some-clause-granted c =
    let at = goal.at-returns-in-Some-clause-granted c in
    let w = rw c.in-Some.is at (found at.After-find) in
    let i = c.in-Some.first in (
      granted-0 c.args.word c.args.n (fair at.Else-count_is_bad) i w.1 w.2 (some_none i (λ (b : ℕ). all_free c.args.word b c.args.n) (λ b l. w.3 b (omega arith) l)),
      refl,
    )

pub returns-in-None-clause-refused : goal.returns-in-None-clause-refused
returns-in-None-clause-refused c =
    let at = goal.at-returns-in-None-clause-refused c in
    let w = rw c.in-None.is at (found at.After-find) in
    granted-32 c.args.word c.args.n (fair at.Else-count_is_bad)
    (some_none (starts c.args.n) (λ (b : ℕ). all_free c.args.word b c.args.n) (λ b l. w b (omega arith) l))
