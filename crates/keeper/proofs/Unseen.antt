-- To give back looks at no entry past the rank, and at no unused byte of a fill. Assumes nothing.
use Prim.Native.Nat.{ℕ}
use native.Mathlib.Decide.{ℕ_discrete}
use mathlib.Core.Path.{◌≡◌, sym, ap, ◌∙◌}
use mathlib.Core.Bool.{not, ◌||◌}
use borrow.Author.Tests.{eq-eqb}
use lib.Dec.{ltb}
use Rattle.faults.specs.declared.Fault.{Fault}
use Rattle.faults.specs.Faults.{if_fault, overall, ◌then◌, first_fault}
use Rattle.plane.proofs.Arrays.{some_same}
use Rattle.parts.specs.declared.Part.{Part}
use Rattle.transfers.specs.declared.Slot.{Slot}
use Rattle.transfers.specs.declared.Table.{Table}
use Rattle.transfers.specs.Slots.{slot_at}
use Rattle.transfers.specs.Unseen.{SameSlot, SameTable}
use Rattle.transfers.proofs.Unseen.{tables_unseen}
use Rattle.keeper.specs.declared.GivenBack.{GivenBack}
use Rattle.keeper.specs.Blocks.{bad_run, all_taken, without_run}
use Rattle.keeper.specs.Calls.{run_part, uses, in_use, give_back_fault, give_back_of}
use Rattle.keeper.specs.Claims.{BackUnseen}

-- two slots that agree use the same parts
same_uses : (s s' : Slot) → SameSlot s s' → (p : Part) → uses s p ≡ uses s' p
unfolding uses
same_uses s s' a p = elim (ℕ_discrete s.state 0) [
  | yes z ↦ rw (eq-eqb s.state 0 z, eq-eqb s'.state 0 (sym a.state ∙ z))
  | no b ↦ let j = (a.taken b).asked in
      rw (a.state, j.source, j.destination)
]

module _ (t t' : Table) (same : SameTable t t') where
  same_in_use : (p : Part) → in_use t p ≡ in_use t' p
  unfolding in_use
  same_in_use p = some_same 4 (λ h. uses (slot_at t h) p) (λ h. uses (slot_at t' h) p) (λ h l. same_uses (slot_at t h) (slot_at t' h) (same.slot h l) p)

  module _ (w first n : ℕ) where
    same_fault : give_back_fault t w first n ≡ give_back_fault t' w first n
    unfolding give_back_fault
    same_fault =
        let long = same.long in
        let sound = (tables_unseen t t' same).sound in
        let used = ap (λ (l : ℕ). in_use t (run_part l first n)) long ∙ same_in_use (run_part t'.length first n) in
        λ i. first_fault ((overall 17 (ltb (long i) 64) then overall 18 (not (sound i))) then
        overall 31 (bad_run first n) then
        overall 33 (not (all_taken w first n) || used i))

    same_back : give_back_of t w first n ≡ give_back_of t' w first n
    unfolding give_back_of
    same_back =
        ap (λ (f : Fault). if_fault {A = GivenBack} f (record { status = f.status; word = w }) (record { status = 0; word = without_run w first n })) same_fault

pub back_unseen : BackUnseen
back_unseen = same_back
