-- A step, and a poll: what they know of the slot, and what they answer. Assumes nothing.
use Prim.Native.Nat.{ℕ, ◌+◌, ◌≤◌, ◌<◌}
use native.Mathlib.Omega.{arith}
use mathlib.Core.Path.{◌≡◌, sym, ap, subst, ◌∙◌}
use mathlib.Core.Bool.{true, false, not}
use mathlib.Core.List.{List}
use borrow.Author.Tests.{eq-eqb, ne_eqb, ltb-true, ltb-false, lt-ltb, le-ltb, not-false}
use lib.Dec.{ltb}
use lib.ListN.{length}
use Rattle.std.specs.Prelude.{Ok, Err}
use Rattle.faults.specs.declared.Fault.{Fault}
use Rattle.faults.specs.Faults.{fault, when, outcome}
use Rattle.faults.proofs.Faults.{status, is_fault, given, spared, when_bad, when_zero, if_fault_lem, if_none}
use Rattle.mover.specs.declared.Advanced.{Advanced}
use Rattle.mover.specs.Within.{job_fault, total_of, advanced_by, advance_of, advance_memory}
use Rattle.transfers.specs.declared.Slot.{Slot}
use Rattle.transfers.specs.declared.Table.{Table}
use Rattle.transfers.specs.declared.Poll.TheVariants as poll
use Rattle.transfers.specs.Slots.{slot_at, with_slot, slot_sound, table_sound}
use Rattle.transfers.specs.Calls.{call_fault, step_count, later, step_of, step_memory, left, poll_slot, poll_rules, poll_fault, poll_of}
use Rattle.transfers.proofs.Sounds.{Busy, busy, right_2, right_most, sound_tells}
use Rattle.faults.proofs.Chains.{unbroken}
use Rattle.faults.proofs.Outcomes.{refuses, tells_ok, tells_err, answer_ok, answer_err}
use Rattle.transfers.proofs.Answers.{called}

-- ---- step

-- a slot that is running has an element left
pub running_left : (n : ℕ) (s : Slot) → Busy n s → s.state ≡ 2 → s.moved < total_of s.job
running_left n s u e =
    ltb-true s.moved (total_of s.job) (right_2 s.state s.moved (total_of s.job) e ∙ u.right)

pub count_within : (s : Slot) (budget : ℕ) → s.moved ≤ total_of s.job → s.moved + step_count s budget ≤ total_of s.job
count_within s budget h = omega arith

-- a slot after a step, by what the code finds it to be
module _ (s : Slot) (k : ℕ) {r : ℕ} where
  pub later_done : s.moved + k ≡ total_of s.job → r ≡ 3 → record { state = r; job = s.job; moved = s.moved + k } ≡ later s k
  unfolding later
  later_done e p = rw (p, eq-eqb (s.moved + k) (total_of s.job) e)

  pub later_going : (s.moved + k ≡ total_of s.job → ⊥) → r ≡ 2 → record { state = r; job = s.job; moved = s.moved + k } ≡ later s k
  unfolding later
  later_going h p = rw (p, ne_eqb (s.moved + k) (total_of s.job) h)

module _ (t : Table) (h budget : ℕ) (m : List ℕ) where
  pub step_refused : {r : ℕ} → r ≡ (call_fault t (length m) h 2).status → (r ≡ 0 → ⊥) →
      (record { status = r; count = 0; table = t } ≡ step_of t (length m) h budget) × (m ≡ step_memory t h budget m)
  unfolding step_of step_memory
  step_refused e b =
      let d : (call_fault t (length m) h 2).status ≡ 0 → ⊥ = λ z. b (e ∙ z) in (
        ap (λ (k : ℕ). record { status = k; count = 0; table = t }) e ∙ sym (if_fault_lem (call_fault t (length m) h 2) _ _ d),
        sym (if_fault_lem (call_fault t (length m) h 2) _ _ d),
      )

  module _ (z : (call_fault t (length m) h 2).status ≡ 0) where
    pub step_range : h < 4
    step_range = (called t (length m) h 2 z).range

    pub step_busy : Busy (length m) (slot_at t h)
    step_busy =
        let k = called t (length m) h 2 z in
        busy (length m) (slot_at t h) k.taken (rw k.long ((sound_tells t k.sound).each h k.range))

    module _ {s : Slot} (es : s ≡ slot_at t h) where
      its_busy : Busy (length m) s
      its_busy = subst (Busy (length m)) (sym es) step_busy

      module _ {a : Advanced} (ea : a ≡ advance_of s.job s.moved budget m) where
        its_count : a.count ≡ step_count s budget
        unfolding advance_of
        its_count =
            ap (λ (x : Advanced). x.count) ea ∙ if_none (job_fault (length m) s.job) 0 (step_count s budget) its_busy.clear

        -- what `later` asks
        pub step_fits : ((job_fault (length m) s.job).status ≡ 0) × (s.moved + a.count ≤ total_of s.job)
        step_fits =
            let l = right_most s.state s.moved (total_of s.job) its_busy.right in
            let e = its_count in
            let w = count_within s budget l in (its_busy.clear, omega arith)

        pub step_answer : {u : Table} {x : Slot} → x ≡ later s a.count → u ≡ with_slot t h x →
            record { status = 0; count = a.count; table = u } ≡ step_of t (length m) h budget
        unfolding step_of
        step_answer ex eu =
            let p = its_count ∙ ap (λ (y : Slot). step_count y budget) es in
            let q =
            eu ∙ ap (with_slot t h) (ex ∙ ap (later s) p ∙ ap (λ (y : Slot). later y (step_count (slot_at t h) budget)) es) in
            (λ i. record { status = 0; count = p i; table = q i }) ∙ sym (if_none (call_fault t (length m) h 2) _ _ z)

      pub step_memory_lem : {out : List ℕ} → out ≡ advance_memory s.job s.moved budget m → out ≡ step_memory t h budget m
      unfolding step_memory advance_memory
      step_memory_lem eo =
          eo ∙
          if_none (job_fault (length m) s.job) _ _ its_busy.clear ∙
          ap (λ (y : Slot). advanced_by y.job y.moved (step_count y budget) m) es ∙
          sym (if_none (call_fault t (length m) h 2) _ _ z)

-- ---- poll

module _ (s : Slot) where
  pub slot_free : s.state ≡ 0 → poll.Free ≡ poll_slot s
  unfolding poll_slot
  slot_free e = simp e

  pub slot_prepared : s.state ≡ 1 → poll.Prepared (left s) ≡ poll_slot s
  unfolding poll_slot
  slot_prepared e = simp e

  pub slot_running : s.state ≡ 2 → poll.Running (left s) ≡ poll_slot s
  unfolding poll_slot
  slot_running e = simp e

  pub slot_done : (s.state ≡ 0 → ⊥) → (s.state ≡ 1 → ⊥) → (s.state ≡ 2 → ⊥) → poll.Done ≡ poll_slot s
  unfolding poll_slot
  slot_done a b d = simp (ne_eqb s.state 0 a, ne_eqb s.state 1 b, ne_eqb s.state 2 d)

module _ (t : Table) (h : ℕ) where
  refused_by : {num : ℕ} → 0 < num → poll_fault t h ≡ fault num 0 → poll.Refused num ≡ poll_of t h
  unfolding poll_of
  refused_by {num} p e = ap poll.Refused (sym (status e)) ∙ sym (if_fault_lem (poll_fault t h) _ _ (is_fault num 0 p e))

  pub poll_18 : table_sound t ≡ false → poll.Refused 18 ≡ poll_of t h
  unfolding poll_fault
  poll_18 e = refused_by (omega arith) (given 18 0 _ _ (omega arith) (ap not e))

  module _ (e : table_sound t ≡ true) where
    pub poll_23 : 3 < h → poll.Refused 23 ≡ poll_of t h
    unfolding poll_fault
    poll_23 b = refused_by (omega arith) (spared 18 0 _ _ (ap not e) ∙ when_bad 23 0 _ (lt-ltb 3 h b))

    module _ (b : h ≤ 3) {s : Slot} (es : s ≡ slot_at t h) where
      pub its_poll : poll_slot s ≡ poll_of t h
      unfolding poll_of poll_fault
      its_poll =
          ap poll_slot es ∙ sym (if_none (poll_fault t h) _ _ (status (spared 18 0 _ _ (ap not e)) ∙ when_zero 23 0 _ (le-ltb 3 h b)))

      pub poll_free : s.state ≡ 0 → poll.Free ≡ poll_of t h
      poll_free z = slot_free s z ∙ its_poll

      pub poll_prepared : {k : ℕ} → k ≡ left s → s.state ≡ 1 → poll.Prepared k ≡ poll_of t h
      poll_prepared p z = ap poll.Prepared p ∙ slot_prepared s z ∙ its_poll

      pub poll_running : {k : ℕ} → k ≡ left s → s.state ≡ 2 → poll.Running k ≡ poll_of t h
      poll_running p z = ap poll.Running p ∙ slot_running s z ∙ its_poll

      pub poll_done : (s.state ≡ 0 → ⊥) → (s.state ≡ 1 → ⊥) → (s.state ≡ 2 → ⊥) → poll.Done ≡ poll_of t h
      poll_done x y z = slot_done s x y z ∙ its_poll

  -- the check before it
  pub polled_18 : table_sound t ≡ false → Err (fault 18 0) ≡ outcome (poll_fault t h) (slot_at t h)
  unfolding poll_fault
  polled_18 e = refuses (slot_at t h) (given 18 0 _ _ (omega arith) (ap not e)) (λ z. omega arith)

  pub polled_slot : table_sound t ≡ true → outcome (when 23 0 (ltb 3 h)) (slot_at t h) ≡ outcome (poll_fault t h) (slot_at t h)
  unfolding poll_fault
  polled_slot e = ap (λ (f : Fault). outcome f (slot_at t h)) (sym (spared 18 0 _ _ (ap not e)))

  -- what it tells of the slot
  module _ {x : Slot} (q : Ok x ≡ outcome (poll_fault t h) (slot_at t h)) where
    pub polled_sound : slot_sound t.length x ≡ true
    unfolding poll_fault
    polled_sound =
        let w = tells_ok _ _ q in
        let u = unbroken (poll_rules t h) (omega arith) w.1 in
        let b = ltb-false 3 h u.1 in
        rw w.0 ((sound_tells t (not-false (table_sound t) u.0)).each h (omega arith))

    pub polled_answer : poll_slot x ≡ poll_of t h
    unfolding poll_of
    polled_answer = ap poll_slot (tells_ok _ _ q).0 ∙ answer_ok (poll_fault t h) (slot_at t h) _ _ q

  pub polled_refused : {f : Fault} → Err f ≡ outcome (poll_fault t h) (slot_at t h) → poll.Refused f.status ≡ poll_of t h
  unfolding poll_of
  polled_refused q =
      ap (λ (f : Fault). poll.Refused f.status) (tells_err _ _ q).0 ∙ answer_err (poll_fault t h) (slot_at t h) _ _ q
