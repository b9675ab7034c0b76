-- Every call that is handed a sound table hands back a sound one of the same length, and a fresh table is sound. Assumes nothing.
use Prim.Native.Nat.{ℕ, zero, suc, ◌+◌, ◌≤◌, ◌<◌}
use native.Mathlib.Decide.{ℕ_discrete, dec_lt}
use native.Mathlib.Omega.{arith}
use mathlib.Core.Path.{◌≡◌, refl, sym, subst, ◌∙◌}
use mathlib.Core.Bool.{Bool, true, false, cond}
use borrow.Author.Tests.{eqb-true, eqb-false, lt-ltb}
use lib.Dec.{eqb}
use Rattle.faults.specs.declared.Fault.{Fault}
use Rattle.faults.specs.Faults.{if_fault}
use Rattle.plane.specs.Arrays.{every}
use Rattle.plane.proofs.Arrays.{some_clear}
use Rattle.faults.proofs.Faults.{if_fault_lem, if_none}
use Rattle.mover.specs.declared.Job.{Job}
use Rattle.mover.specs.Within.{total_of}
use Rattle.mover.proofs.Laws.{job_total}
use Rattle.transfers.specs.declared.Slot.{Slot}
use Rattle.transfers.specs.declared.Table.{Table}
use Rattle.transfers.specs.declared.Prepared.{Prepared}
use Rattle.transfers.specs.declared.Changed.{Changed}
use Rattle.transfers.specs.declared.Stepped.{Stepped}
use Rattle.plane.specs.Signs.{sizes}
use Rattle.transfers.specs.Slots.{free_slot, fresh_table, slot_at, with_slot, breaks, clashes, is_zero_tensor, is_zero_config, is_zero_job, moved_right, slot_sound, table_sound, limit}
use Rattle.transfers.specs.Calls.{fresh_of, prepare_fault, call_fault, new_slot, prepare_of, changed, running, start_of, release_of, step_count, later, step_of}
use Rattle.transfers.specs.Sound.{SoundTable, SoundFor, TablesStaySound}
use Rattle.transfers.proofs.Fours.{slot_same, slot_other, with_length, lowest_is}
use Rattle.transfers.proofs.Meeting.{breaks_either, empty_breaks}
use Rattle.transfers.proofs.Sounds.{Busy, busy, busy_sound, sound_tells, tells_sound, right_1, right_2, right_3, right_most}
use Rattle.transfers.proofs.Answers.{fresh-17, fresh-0, Called, called, preparing}
use Rattle.transfers.proofs.Steps.{count_within}

-- ---- a fresh table

free_sound : (n : ℕ) → slot_sound n free_slot ≡ true
unfolding sizes slot_sound is_zero_job is_zero_tensor is_zero_config every
free_sound n = refl

fresh_slot : (n i : ℕ) → slot_at (fresh_table n) i ≡ free_slot
fresh_slot n zero = refl
fresh_slot n (suc zero) = refl
fresh_slot n (suc (suc zero)) = refl
fresh_slot n (suc (suc (suc zero))) = refl
fresh_slot n (suc (suc (suc (suc i)))) = refl

free_apart : (j : Job) → breaks free_slot.job j ≡ false
free_apart j = empty_breaks free_slot.job j refl refl

pub free_table : (n : ℕ) → n ≤ limit → table_sound (fresh_table n) ≡ true
free_table n h =
    tells_sound (fresh_table n) (record {
      short = h;
      each = λ i l. subst (λ (s : Slot). slot_sound n s ≡ true) (sym (fresh_slot n i)) (free_sound n);
      apart = λ i k l m d.
          subst (λ (s : Slot). breaks s.job (slot_at (fresh_table n) k).job ≡ false) (sym (fresh_slot n i))
          (free_apart (slot_at (fresh_table n) k).job);
    })

pub fresh_keeps : (n : ℕ) → table_sound (fresh_of n).table ≡ true
fresh_keeps n = elim (dec_lt limit n) [
  | yes h ↦ rw (← fresh-17 n h) (free_table 0 (omega arith))
  | no h ↦ rw (← fresh-0 n (omega arith)) (free_table n (omega arith))
]

-- ---- slots that are not free

-- a job without a fault has an element
running_sound : (n : ℕ) (s : Slot) → Busy n s → s.moved ≡ 0 → slot_sound n (running s) ≡ true
running_sound n s u e =
    let l = job_total n s.job u.clear in
    busy_sound n (running s) (λ y. omega arith) (record {
      clear = u.clear;
      right = sym (right_2 2 s.moved (total_of s.job) refl) ∙ lt-ltb s.moved (total_of s.job) (omega arith);
    })

pub later_state : (v : Bool) → cond {A = ℕ} v 3 2 ≡ 0 → ⊥
later_state true e = omega arith
later_state false e = omega arith

later_right : (m total : ℕ) → m ≤ total → moved_right (cond (eqb m total) 3 2) m total ≡ true
later_right m total h = go (eqb m total) refl where
  go : (v : Bool) → eqb m total ≡ v → moved_right (cond v 3 2) m total ≡ true
  go true e = sym (right_3 3 m total refl) ∙ e
  go false e = let d = eqb-false m total e in sym (right_2 2 m total refl) ∙ lt-ltb m total (omega arith)

later_sound : (n : ℕ) (s : Slot) (budget : ℕ) → Busy n s → slot_sound n (later s (step_count s budget)) ≡ true
unfolding later
later_sound n s budget u =
    let l = right_most s.state s.moved (total_of s.job) u.right in
    busy_sound n (later s (step_count s budget)) (later_state (eqb (s.moved + step_count s budget) (total_of s.job))) (record {
      clear = u.clear;
      right = later_right (s.moved + step_count s budget) (total_of s.job) (count_within s budget l);
    })

-- ---- a slot put in its place

module _ (t : Table) (h : ℕ) (s : Slot) (w : SoundTable t) (q : h < 4) (one : slot_sound t.length s ≡ true) (others : (k : ℕ) → k < 4 → (k ≡ h → ⊥) → breaks s.job (slot_at t k).job ≡ false) where
  put_each : (i : ℕ) → i < 4 → slot_sound t.length (slot_at (with_slot t h s) i) ≡ true
  put_each i l = elim (ℕ_discrete i h) [
    | yes e ↦ rw (e, slot_same t h s q) one
    | no d ↦ rw (slot_other t h s i l d) (w.each i l)
  ]

  put_apart : (i k : ℕ) → i < 4 → k < 4 → (i ≡ k → ⊥) → breaks (slot_at (with_slot t h s) i).job (slot_at (with_slot t h s) k).job ≡ false
  put_apart i k l m d = elim (ℕ_discrete i h) [
    | yes e ↦ rw (e, slot_same t h s q, slot_other t h s k m (λ z. d (e ∙ sym z))) (others k m (λ z. d (e ∙ sym z)))
    | no a ↦ elim (ℕ_discrete k h) [
      | yes e ↦ rw (e, slot_same t h s q, slot_other t h s i l a) (breaks_either (slot_at t i).job s.job ∙ others i l a)
      | no b ↦ rw (slot_other t h s i l a, slot_other t h s k m b) (w.apart i k l m d)
    ]
  ]

  pub put_sound : SoundFor t.length (with_slot t h s)
  put_sound = record {
    sound = tells_sound (with_slot t h s) (record {
      short = rw (with_length t h s) w.short;
      each = λ i l. rw (with_length t h s) (put_each i l);
      apart = put_apart;
    });
    long = with_length t h s;
  }

-- what an answer has, given with a fault and without
either_way : {A : Type 0} (f : Fault) (y x : A) (P : A → Type 0) → P y → (f.status ≡ 0 → P x) → P (if_fault f y x)
either_way f y x P p q = elim (ℕ_discrete f.status 0) [
  | yes z ↦ subst P (sym (if_none f y x z)) (q z)
  | no b ↦ subst P (sym (if_fault_lem f y x b)) p
]

-- ---- the calls

module _ (t : Table) (p : table_sound t ≡ true) where
  same : SoundFor t.length t
  same = record { sound = p; long = refl }

  pub prepare_keeps : (n : ℕ) (j : Job) → SoundFor t.length (prepare_of t n j).table
  unfolding prepare_of clashes
  prepare_keeps n j =
      either_way (prepare_fault t n j) _ _ (λ (r : Prepared). SoundFor t.length r.table) same
      (λ z.
      let k = preparing t n j z in
      let r = lowest_is t k.room in
      put_sound t _ (new_slot j) (sound_tells t p) r.range
      (busy_sound t.length (new_slot j) (λ y. omega arith) (record { clear = rw k.long at k.clear; right = sym (right_1 1 0 (total_of j) refl) }))
      (λ i l d. some_clear 4 (λ (i : ℕ). breaks j (slot_at t i).job) k.apart i l))

  -- a call on one slot, which is put back with the same job, or freed
  change_keeps : (n h want : ℕ) (s : Slot) → (Called t n h want → slot_sound t.length s ≡ true) → ((j : Job) → breaks (slot_at t h).job j ≡ false → breaks s.job j ≡ false) → SoundFor t.length (changed (call_fault t n h want) t h s).table
  unfolding changed
  change_keeps n h want s one b =
      either_way (call_fault t n h want) _ _ (λ (r : Changed). SoundFor t.length r.table) same
      (λ z.
      let k = called t n h want z in
      let w = sound_tells t p in
      put_sound t h s w k.range (one k) (λ i l d. b (slot_at t i).job (w.apart h i k.range l (λ e. d (sym e)))))

  its_busy : (n h want : ℕ) → Called t n h want → Busy t.length (slot_at t h)
  its_busy n h want k = busy t.length (slot_at t h) k.taken ((sound_tells t p).each h k.range)

  pub start_keeps : (n h : ℕ) → SoundFor t.length (start_of t n h).table
  unfolding start_of
  start_keeps n h =
      change_keeps n h 1 (running (slot_at t h))
      (λ k.
      let s = slot_at t h in
      let u = its_busy n h 1 k in
      running_sound t.length s u (eqb-true s.moved 0 (right_1 s.state s.moved (total_of s.job) k.state ∙ u.right)))
      (λ j e. e)

  pub release_keeps : (n h : ℕ) → SoundFor t.length (release_of t n h).table
  unfolding release_of
  release_keeps n h = change_keeps n h 3 free_slot (λ k. free_sound t.length) (λ j e. free_apart j)

  pub step_keeps : (n h budget : ℕ) → SoundFor t.length (step_of t n h budget).table
  unfolding step_of later
  step_keeps n h budget =
      either_way (call_fault t n h 2) _ _ (λ (r : Stepped). SoundFor t.length r.table) same
      (λ z.
      let k = called t n h 2 z in
      let w = sound_tells t p in
      put_sound t h (later (slot_at t h) (step_count (slot_at t h) budget)) w k.range
      (later_sound t.length (slot_at t h) budget (its_busy n h 2 k))
      (λ i l d. w.apart h i k.range l (λ e. d (sym e))))

-- ---- the theorem

pub tables_stay_sound : TablesStaySound
tables_stay_sound = record {
  fresh = fresh_keeps;
  prepare = λ n j t p. prepare_keeps t p n j;
  start = λ n h t p. start_keeps t p n h;
  step = λ n h budget t p. step_keeps t p n h budget;
  release = λ n h t p. release_keeps t p n h;
}
