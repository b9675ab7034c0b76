-- `keeper::returns::opened` gives 17 and 18; a poll tells 18. Assumes nothing.
use Prim.Native.Nat.{ℕ}
use mathlib.Core.Path.{◌≡◌, refl, sym, ◌∙◌}
use native.Mathlib.Omega.{arith}
use Rattle.faults.proofs.Outcomes.{passes}
use Rattle.transfers.specs.declared.Poll.{Poll}
use Rattle.transfers.specs.declared.Poll.TheVariants as says
use Rattle.transfers.specs.Calls.{poll_status}
use Rattle.keeper.proofs.Answers.{table-17, table-polled, table-refused}
use Rattle.keeper.proofs.returns.opened.Goals as goal

pub returns-then-table-lt64 : goal.returns-then-table-lt64
returns-then-table-lt64 c = table-17 c.args.table (omega (arith, c.if-table-lt64.true))

pub returns-in-Refused : goal.returns-in-Refused
returns-in-Refused c =
    table-refused c.args.table c.if-table-lt64.false (sym c.in-Refused.is ∙ c.poll-told.ensures.answered)

-- an answer of the other four cases
accepted : (p : Poll) → ((x : ℕ) → p ≡ says.Refused x → ⊥) → 0 ≡ poll_status p
accepted says.Free z = refl
accepted (says.Prepared k) z = refl
accepted (says.Running k) z = refl
accepted says.Done z = refl
accepted (says.Refused n) z = absurd (z n refl)

pub returns-in_default : goal.returns-in_default
returns-in_default c =
    passes _ _ (sym (accepted c.poll-told.result c.in_default.not-Refused ∙
    table-polled c.args.table c.if-table-lt64.false c.poll-told.ensures.answered))
