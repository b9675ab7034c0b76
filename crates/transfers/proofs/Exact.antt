-- Each refusal in its exact case and order, as in plane's file of this name. A refused call hands back the table that it was given,
-- with zeros besides, and leaves the memory as it was. Assumes nothing.
use Prim.Native.Nat.{ℕ}
use native.Mathlib.Decide.{dec_lt}
use native.Mathlib.Omega.{arith}
use mathlib.Core.Path.{◌≡◌, refl, sym, ap, ◌∙◌}
use mathlib.Core.Bool.{Bool, true, false, cond}
use mathlib.Core.List.{List}
use lib.Dec.{eqb}
use lib.ListN.{length}
use Rattle.faults.specs.declared.Fault.{Fault}
use Rattle.faults.specs.Exactness.{Exact}
use Rattle.faults.proofs.Faults.{if_fault_lem, if_none, number_of}
use Rattle.faults.proofs.Chains.{exact, exact_overall}
use Rattle.mover.specs.declared.Job.{Job}
use Rattle.transfers.specs.declared.Slot.{Slot}
use Rattle.transfers.specs.declared.Table.{Table}
use Rattle.transfers.specs.declared.FreshTable.{FreshTable}
use Rattle.transfers.specs.declared.Prepared.{Prepared}
use Rattle.transfers.specs.declared.Changed.{Changed}
use Rattle.transfers.specs.declared.Stepped.{Stepped}
use Rattle.transfers.specs.Slots.{fresh_table, slot_at, with_slot, is_free, limit}
use Rattle.transfers.specs.Calls.{fresh_rules, fresh_fault, fresh_of, prepare_rules, prepare_fault, call_rules, call_fault, prepare_of, changed, start_of, release_of, step_of, step_memory, left, poll_slot, poll_rules, poll_fault, poll_of, poll_status}
use Rattle.transfers.specs.Claims.{ExactCalls, RefusedCalls}
use Rattle.transfers.proofs.Answers.{fresh-17, fresh-0}
use Rattle.transfers.specs.declared.Poll.TheVariants as poll

-- ---- numbers of the answers

-- of a call that names no dimension
call_exact : (t : Table) (n h want : ℕ) {number : ℕ} → number ≡ (call_fault t n h want).status → Exact (call_rules t n h want) number 0
unfolding call_fault
call_exact t n h want e = exact_overall (call_rules t n h want) (omega arith) refl e

-- ---- the theorems

module _ (n : ℕ) where
  pub fresh_exact : Exact (fresh_rules n) (fresh_of n).status 0
  unfolding fresh_of fresh_fault
  fresh_exact = exact_overall (fresh_rules n) (omega arith) refl (number_of (fresh_fault n) _ _ (λ (r : FreshTable). r.status) refl refl)

  pub fresh_refused : ((fresh_of n).status ≡ 0 → ⊥) → fresh_of n ≡ record { status = 17; table = fresh_table 0 }
  fresh_refused h = elim (dec_lt limit n) [
    | yes b ↦ sym (fresh-17 n b)
    | no b ↦ absurd (h (ap (λ (r : FreshTable). r.status) (sym (fresh-0 n (omega arith)))))
  ]

module _ (t : Table) (n : ℕ) (j : Job) where
  pub prepare_number : (prepare_of t n j).status ≡ (prepare_fault t n j).status
  unfolding prepare_of
  prepare_number = number_of (prepare_fault t n j) _ _ (λ (r : Prepared). r.status) refl refl

  prepare_plain : (prepare_fault t n j).status ≡ 0 → (prepare_of t n j).dim ≡ 0
  unfolding prepare_of
  prepare_plain z = ap (λ (r : Prepared). r.dim) (if_none (prepare_fault t n j) _ _ z)

  -- where there is a fault, the answer has its dimension, no handle, and the table that was given
  prepare_back : ((prepare_fault t n j).status ≡ 0 → ⊥) → prepare_of t n j ≡ record { status = (prepare_fault t n j).status; dim = (prepare_fault t n j).dim; handle = 0; table = t }
  unfolding prepare_of
  prepare_back b = if_fault_lem (prepare_fault t n j) _ _ b

  pub prepare_exact : Exact (prepare_rules t n j) (prepare_of t n j).status (prepare_of t n j).dim
  unfolding prepare_fault
  prepare_exact =
      exact (prepare_rules t n j) (omega arith) prepare_number prepare_plain (λ b. ap (λ (r : Prepared). r.dim) (prepare_back b))

  pub prepare_refused : ((prepare_of t n j).status ≡ 0 → ⊥) → prepare_of t n j ≡ record { status = (prepare_of t n j).status; dim = (prepare_of t n j).dim; handle = 0; table = t }
  prepare_refused b =
      let e = prepare_back (λ z. b (prepare_number ∙ z)) in
      e ∙ ap (λ (r : Prepared). record { status = r.status; dim = r.dim; handle = 0; table = t }) (sym e)

module _ (t : Table) (n h : ℕ) where
  change_number : (f : Fault) (s : Slot) → (changed f t h s).status ≡ f.status
  unfolding changed
  change_number f s = number_of f _ _ (λ (r : Changed). r.status) refl refl

  change_back : (f : Fault) (s : Slot) → ((changed f t h s).status ≡ 0 → ⊥) → changed f t h s ≡ record { status = (changed f t h s).status; table = t }
  unfolding changed
  change_back f s b =
      let e = if_fault_lem {A = Changed} f (record { status = f.status; table = t }) (record { status = 0; table = with_slot t h s }) (λ z. b (change_number f s ∙ z)) in
      e ∙ ap (λ (r : Changed). record { status = r.status; table = t }) (sym e)

  pub start_exact : Exact (call_rules t n h 1) (start_of t n h).status 0
  unfolding start_of
  start_exact = call_exact t n h 1 (change_number (call_fault t n h 1) _)

  pub start_refused : ((start_of t n h).status ≡ 0 → ⊥) → start_of t n h ≡ record { status = (start_of t n h).status; table = t }
  unfolding start_of
  start_refused b = change_back (call_fault t n h 1) _ b

  pub release_exact : Exact (call_rules t n h 3) (release_of t n h).status 0
  unfolding release_of
  release_exact = call_exact t n h 3 (change_number (call_fault t n h 3) _)

  pub release_refused : ((release_of t n h).status ≡ 0 → ⊥) → release_of t n h ≡ record { status = (release_of t n h).status; table = t }
  unfolding release_of
  release_refused b = change_back (call_fault t n h 3) _ b

module _ (t : Table) (h budget : ℕ) where
  step_number : (n : ℕ) → (step_of t n h budget).status ≡ (call_fault t n h 2).status
  unfolding step_of
  step_number n = number_of (call_fault t n h 2) _ _ (λ (r : Stepped). r.status) refl refl

  pub step_exact : (n : ℕ) → Exact (call_rules t n h 2) (step_of t n h budget).status 0
  step_exact n = call_exact t n h 2 (step_number n)

  pub step_refused : (m : List ℕ) → ((step_of t (length m) h budget).status ≡ 0 → ⊥) →
      (step_of t (length m) h budget ≡ record { status = (step_of t (length m) h budget).status; count = 0; table = t }) ×
      (step_memory t h budget m ≡ m)
  unfolding step_of step_memory
  step_refused m b =
      let d : (call_fault t (length m) h 2).status ≡ 0 → ⊥ = λ z. b (step_number (length m) ∙ z) in
      let e = if_fault_lem (call_fault t (length m) h 2) _ _ d in
      (e ∙ ap (λ (r : Stepped). record { status = r.status; count = 0; table = t }) (sym e), if_fault_lem (call_fault t (length m) h 2) _ _ d)

pub refused_calls : RefusedCalls
refused_calls = record { fresh = fresh_refused; prepare = prepare_refused; start = start_refused; step = step_refused; release = release_refused }

module _ (t : Table) (h : ℕ) where
  slot_number : (a b c : Bool) (k : ℕ) → poll_status (cond a poll.Free (cond b (poll.Prepared k) (cond c (poll.Running k) poll.Done))) ≡ 0
  slot_number true b c k = refl
  slot_number false true c k = refl
  slot_number false false true k = refl
  slot_number false false false k = refl

  pub poll_exact : Exact (poll_rules t h) (poll_status (poll_of t h)) 0
  unfolding poll_of poll_fault poll_slot
  poll_exact =
      exact_overall (poll_rules t h) (omega arith) refl
      (number_of (poll_fault t h) _ _ poll_status refl
      (slot_number (is_free t h) (eqb (slot_at t h).state 1) (eqb (slot_at t h).state 2) (left (slot_at t h))))

pub exact_calls : ExactCalls
exact_calls = record {
  fresh = fresh_exact;
  prepare = prepare_exact;
  start = start_exact;
  step = λ t n h budget. step_exact t h budget n;
  release = release_exact;
  poll = poll_exact;
}
