-- The answers of the calls: what each check of the code tells, in the paper's order. Assumes nothing.
use Prim.Native.Nat.{ℕ, ◌≤◌, ◌<◌}
use native.Mathlib.Omega.{arith}
use mathlib.Core.Path.{◌≡◌, refl, sym, ap, ◌∙◌}
use mathlib.Core.Bool.{Bool, true, false, not, ◌||◌}
use borrow.Author.Tests.{eq-eqb, ne_eqb, eqb-true, eqb-false, lt-ltb, le-ltb, ltb-false, not-false}
use lib.Dec.{ltb, eqb}
use Rattle.faults.specs.declared.Fault.{Fault}
use Rattle.std.specs.Prelude.{Ok, Err}
use Rattle.faults.specs.Faults.{fault, when, ◌or_else◌, if_fault, outcome}
use Rattle.faults.proofs.Bools.{either_clear, either_first, either_second, neither}
use Rattle.faults.proofs.Faults.{status, or_none, if_none, when_bad, when_zero, given, spared}
use Rattle.faults.specs.Exactness.{Unbroken}
use Rattle.faults.proofs.Chains.{unbroken, unbroken_accepts}
use Rattle.faults.proofs.Outcomes.{passes, refuses, halts, tells_ok, tells_err, answer_ok, answer_err}
use Rattle.mover.specs.declared.Job.{Job}
use Rattle.mover.specs.Within.{job_rules, job_fault}
use Rattle.transfers.specs.declared.Slot.{Slot}
use Rattle.transfers.specs.declared.Table.{Table}
use Rattle.transfers.specs.declared.FreshTable.{FreshTable}
use Rattle.transfers.specs.Slots.{fresh_table, slot_at, with_slot, is_free, lowest_free, clashes, table_sound, limit}
use Rattle.transfers.specs.Calls.{fresh_fault, fresh_of, open_rules, open_fault, prepare_rules, prepare_fault, call_rules, call_fault, new_slot, prepare_of, changed}

-- a condition of which a fault tells
bad_of : (num d : ℕ) (b : Bool) → ((when num d b).status ≡ 0 → ⊥) → b ≡ true
unfolding when
bad_of num d true h = refl
bad_of num d false h = absurd (h refl)

-- ---- a fresh table: 17

module _ (n : ℕ) where
  pub fresh-17 : limit < n → record { status = 17; table = fresh_table 0 } ≡ fresh_of n
  unfolding fresh_of fresh_fault
  fresh-17 h =
      ap (λ (f : Fault). if_fault {A = FreshTable} f (record { status = f.status; table = fresh_table 0 }) (record { status = 0; table = fresh_table n }))
      (sym (when_bad 17 0 _ (lt-ltb limit n h)))

  pub fresh-0 : n ≤ limit → record { status = 0; table = fresh_table n } ≡ fresh_of n
  unfolding fresh_of fresh_fault
  fresh-0 h = sym (if_none (fresh_fault n) _ _ (when_zero 17 0 _ (le-ltb limit n h)))

-- ---- 17, 18

module _ (t : Table) (n : ℕ) where
  pub open-17 : (n ≡ t.length → ⊥) → Err (fault 17 0) ≡ outcome (open_fault t n) (tt {0})
  unfolding open_fault
  open-17 h = refuses (tt {0}) (given 17 0 _ _ (omega arith) (ap not (ne_eqb n t.length h))) (λ z. omega arith)

  module _ (l : n ≡ t.length) where
    long : open_fault t n ≡ when 18 0 (not (table_sound t))
    unfolding open_fault
    long = spared 17 0 _ _ (ap not (eq-eqb n t.length l))

    pub open-18 : table_sound t ≡ false → Err (fault 18 0) ≡ outcome (open_fault t n) (tt {0})
    open-18 e = refuses (tt {0}) (long ∙ when_bad 18 0 _ (ap not e)) (λ z. omega arith)

    pub open-0 : table_sound t ≡ true → 0 ≡ (open_fault t n).status
    open-0 e = sym (status long ∙ when_zero 18 0 _ (ap not e))

  pub record Open : Type 0 where
    pub long : n ≡ t.length
    pub sound : table_sound t ≡ true

  open-tells : Unbroken (open_rules t n) → Open
  open-tells u = record { long = eqb-true n t.length (not-false (eqb n t.length) u.0); sound = not-false (table_sound t) u.1 }

  pub opened : (open_fault t n).status ≡ 0 → Open
  unfolding open_fault
  opened z = open-tells (unbroken (open_rules t n) (omega arith) z)

-- ---- 17, 18, 23, 24

module _ (t : Table) (n h want : ℕ) where
  pub call-closed : {e : Fault} → Err e ≡ outcome (open_fault t n) (tt {0}) → Err e ≡ outcome (call_fault t n h want) (slot_at t h)
  unfolding call_fault open_fault
  call-closed q = sym (halts (open_fault t n) _ _ (slot_at t h) q refl)

  module _ (z : (open_fault t n).status ≡ 0) where
    call-open : call_fault t n h want ≡ (when 23 0 (ltb 3 h || is_free t h) or_else when 24 0 (not (eqb (slot_at t h).state want)))
    unfolding call_fault open_fault
    call-open = or_none _ _ z

    pub call-high : {e : Fault} → Err e ≡ outcome (when 23 0 (ltb 3 h)) (slot_at t h) → Err e ≡ outcome (call_fault t n h want) (slot_at t h)
    call-high q =
        let w = tells_err _ _ q in
        let b = bad_of 23 0 (ltb 3 h) w.1 in
        ap Err (w.0 ∙ when_bad 23 0 _ b) ∙
        refuses (slot_at t h) (call-open ∙ given 23 0 _ _ (omega arith) (either_first (ltb 3 h) (is_free t h) b)) (λ z. omega arith)

    pub call-free : (slot_at t h).state ≡ 0 → Err (fault 23 0) ≡ outcome (call_fault t n h want) (slot_at t h)
    call-free b =
        refuses (slot_at t h)
        (call-open ∙ given 23 0 _ _ (omega arith) (either_second (ltb 3 h) (is_free t h) (eq-eqb (slot_at t h).state 0 b)))
        (λ z. omega arith)

    module _ (b : h ≤ 3) (d : (slot_at t h).state ≡ 0 → ⊥) where
      call-taken : call_fault t n h want ≡ when 24 0 (not (eqb (slot_at t h).state want))
      call-taken =
          call-open ∙ spared 23 0 _ _ (neither (ltb 3 h) (is_free t h) (le-ltb 3 h b) (ne_eqb (slot_at t h).state 0 d))

      pub call-24 : ((slot_at t h).state ≡ want → ⊥) → Err (fault 24 0) ≡ outcome (call_fault t n h want) (slot_at t h)
      call-24 e =
          refuses (slot_at t h) (call-taken ∙ when_bad 24 0 _ (ap not (ne_eqb (slot_at t h).state want e))) (λ z. omega arith)

      pub call-0 : (slot_at t h).state ≡ want → 0 ≡ (call_fault t n h want).status
      call-0 e = sym (status call-taken ∙ when_zero 24 0 _ (ap not (eq-eqb (slot_at t h).state want e)))

  -- what a call that is not refused knows
  pub record Called : Type 0 where
    pub long : n ≡ t.length
    pub sound : table_sound t ≡ true
    pub range : h < 4
    pub taken : (slot_at t h).state ≡ 0 → ⊥
    pub state : (slot_at t h).state ≡ want

  pub called : (call_fault t n h want).status ≡ 0 → Called
  unfolding call_fault
  called z =
      let u = unbroken (call_rules t n h want) (omega arith) z in
      let o = open-tells t n u.0 in
      let b = either_clear (ltb 3 h) (is_free t h) u.1.0 in
      record {
        long = o.long;
        sound = o.sound;
        range = omega (arith, ltb-false 3 h b.0);
        taken = eqb-false (slot_at t h).state 0 b.1;
        state = eqb-true (slot_at t h).state want (not-false (eqb (slot_at t h).state want) u.1.1);
      }

-- ---- prepare: 17 to 20, 1 to 13, 34, 21, 22

module _ (t : Table) (n : ℕ) (j : Job) where
  pub prepare-closed : {e : Fault} → Err e ≡ outcome (open_fault t n) (tt {0}) → Err e ≡ outcome (prepare_fault t n j) (lowest_free t)
  unfolding prepare_fault open_fault job_fault
  prepare-closed q = sym (halts (open_fault t n) _ _ (lowest_free t) q refl)

  module _ (z : (open_fault t n).status ≡ 0) where
    prepare-open : prepare_fault t n j ≡ (when 19 0 (eqb (lowest_free t) 4) or_else job_fault n j or_else when 22 0 (clashes t j 4))
    unfolding prepare_fault open_fault job_fault
    prepare-open = or_none _ _ z

    pub prepare-19 : lowest_free t ≡ 4 → Err (fault 19 0) ≡ outcome (prepare_fault t n j) (lowest_free t)
    prepare-19 e =
        refuses (lowest_free t) (prepare-open ∙ given 19 0 _ _ (omega arith) (eq-eqb (lowest_free t) 4 e)) (λ z. omega arith)

    module _ (b : lowest_free t ≡ 4 → ⊥) where
      prepare-room : prepare_fault t n j ≡ (job_fault n j or_else when 22 0 (clashes t j 4))
      prepare-room = prepare-open ∙ spared 19 0 _ _ (ne_eqb (lowest_free t) 4 b)

      pub prepare-job : (k : ℕ) {e : Fault} → Err e ≡ outcome (job_fault n j) k → Err e ≡ outcome (prepare_fault t n j) (lowest_free t)
      prepare-job k q =
          sym (ap (λ (f : Fault). outcome f (lowest_free t)) prepare-room ∙ halts (job_fault n j) k _ (lowest_free t) q refl)

      module _ (y : (job_fault n j).status ≡ 0) where
        prepare-clear : prepare_fault t n j ≡ when 22 0 (clashes t j 4)
        prepare-clear = prepare-room ∙ or_none _ _ y

        pub prepare-22 : clashes t j 4 ≡ true → Err (fault 22 0) ≡ outcome (prepare_fault t n j) (lowest_free t)
        prepare-22 p = refuses (lowest_free t) (prepare-clear ∙ when_bad 22 0 _ p) (λ z. omega arith)

        pub prepare-given : clashes t j 4 ≡ false → {h : ℕ} → h ≡ lowest_free t → Ok h ≡ outcome (prepare_fault t n j) (lowest_free t)
        prepare-given p e = ap Ok e ∙ passes _ (lowest_free t) (status prepare-clear ∙ when_zero 22 0 _ p)

  -- what a prepare that is not refused knows
  pub record Preparing : Type 0 where
    pub long : n ≡ t.length
    pub sound : table_sound t ≡ true
    pub room : lowest_free t ≡ 4 → ⊥
    pub clear : (job_fault n j).status ≡ 0
    pub apart : clashes t j 4 ≡ false

  pub preparing : (prepare_fault t n j).status ≡ 0 → Preparing
  unfolding prepare_fault job_fault
  preparing z =
      let u = unbroken (prepare_rules t n j) (omega arith) z in
      let o = open-tells t n u.0 in
      record {
        long = o.long;
        sound = o.sound;
        room = eqb-false (lowest_free t) 4 u.1.0;
        clear = unbroken_accepts (job_rules n j) u.1.1.0;
        apart = u.1.1.1;
      }

module _ (t : Table) (n : ℕ) (j : Job) where
  pub prepare_stopped : {e : Fault} → Err e ≡ outcome (prepare_fault t n j) (lowest_free t) →
      record { status = e.status; dim = e.dim; handle = 0; table = t } ≡ prepare_of t n j
  unfolding prepare_of
  prepare_stopped q =
      ap (λ (f : Fault). record { status = f.status; dim = f.dim; handle = 0; table = t }) (tells_err _ _ q).0 ∙
      answer_err (prepare_fault t n j) (lowest_free t) _ _ q

  pub prepare_went : {h : ℕ} {u : Table} → Ok h ≡ outcome (prepare_fault t n j) (lowest_free t) → u ≡ with_slot t h (new_slot j) →
      record { status = 0; dim = 0; handle = h; table = u } ≡ prepare_of t n j
  unfolding prepare_of
  prepare_went {h} q e =
      let is = (tells_ok _ _ q).0 in
      let w = e ∙ ap (λ (k : ℕ). with_slot t k (new_slot j)) is in
      (λ i. record { status = 0; dim = 0; handle = is i; table = w i }) ∙ answer_ok (prepare_fault t n j) (lowest_free t) _ _ q

-- ---- start and release

module _ (f : Fault) (x : Slot) (t : Table) (h : ℕ) (s : Slot) where
  pub change_stopped : {e : Fault} → Err e ≡ outcome f x → record { status = e.status; table = t } ≡ changed f t h s
  unfolding changed
  change_stopped q =
      ap (λ (g : Fault). record { status = g.status; table = t }) (tells_err f x q).0 ∙ answer_err f x _ _ q

  pub change_went : {y : Slot} {u : Table} → Ok y ≡ outcome f x → u ≡ with_slot t h s → record { status = 0; table = u } ≡ changed f t h s
  unfolding changed
  change_went q e = ap (λ (z : Table). record { status = 0; table = z }) e ∙ answer_ok f x _ _ q
