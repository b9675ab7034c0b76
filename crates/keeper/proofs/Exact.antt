-- Each refusal in its exact case and order; a refused call hands the word back, with zeros besides. Assumes nothing.
use Prim.Native.Nat.{ℕ}
use native.Mathlib.Omega.{arith}
use mathlib.Core.Path.{◌≡◌, refl, sym, ap, ◌∙◌}
use Rattle.faults.proofs.Faults.{if_fault_lem, number_of}
use Rattle.faults.proofs.Chains.{exact_overall}
use Rattle.transfers.specs.declared.Table.{Table}
use Rattle.transfers.specs.Slots.{zero_part}
use Rattle.keeper.specs.declared.Granted.{Granted}
use Rattle.keeper.specs.declared.GivenBack.{GivenBack}
use Rattle.keeper.specs.declared.Placed.{Placed}
use Rattle.keeper.specs.Calls.{request_rules, request_fault, request_of, part_rules, part_fault, part_of, give_back_rules, give_back_fault, give_back_of}
use Rattle.keeper.specs.Claims.{ExactKeeper, RefusedKeeper}

-- ---- numbers of the answers

pub request_number : (w n : ℕ) → (request_of w n).status ≡ (request_fault w n).status
unfolding request_of
request_number w n = number_of (request_fault w n) _ _ (λ (r : Granted). r.status) refl refl

pub back_number : (t : Table) (w first n : ℕ) → (give_back_of t w first n).status ≡ (give_back_fault t w first n).status
unfolding give_back_of
back_number t w first n = number_of (give_back_fault t w first n) _ _ (λ (r : GivenBack). r.status) refl refl

part_number : (l first n : ℕ) → (part_of l first n).status ≡ (part_fault l first n).status
unfolding part_of
part_number l first n = number_of (part_fault l first n) _ _ (λ (r : Placed). r.status) refl refl

-- ---- the theorems

pub exact_keeper : ExactKeeper
unfolding request_fault give_back_fault part_fault
exact_keeper = record {
  request = λ w n. exact_overall (request_rules w n) (omega arith) refl (request_number w n);
  give_back = λ t w first n. exact_overall (give_back_rules t w first n) (omega arith) refl (back_number t w first n);
  part = λ l first n. exact_overall (part_rules l first n) (omega arith) refl (part_number l first n);
}

pub refused_keeper : RefusedKeeper
unfolding request_of give_back_of part_of
refused_keeper = record {
  request = λ w n b.
      let e = if_fault_lem (request_fault w n) _ _ (λ z. b (request_number w n ∙ z)) in
      e ∙ ap (λ (r : Granted). record { status = r.status; first = 0; word = w }) (sym e);
  give_back = λ t w first n b.
      let e = if_fault_lem (give_back_fault t w first n) _ _ (λ z. b (back_number t w first n ∙ z)) in
      e ∙ ap (λ (r : GivenBack). record { status = r.status; word = w }) (sym e);
  part = λ l first n b.
      let e = if_fault_lem (part_fault l first n) _ _ (λ z. b (part_number l first n ∙ z)) in
      e ∙ ap (λ (r : Placed). record { status = r.status; part = zero_part }) (sym e);
}
