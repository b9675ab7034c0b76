-- What a sound table tells: of its length, of each slot, and of any two slots. Assumes nothing.
use Prim.Native.Nat.{ℕ, ◌≤◌, ◌<◌}
use native.Mathlib.Decide.{dec_lt, ℕ_discrete}
use native.Mathlib.Omega.{arith}
use mathlib.Core.Path.{◌≡◌, sym, ap, ◌∙◌}
use mathlib.Core.Bool.{Bool, true, false, not, ◌&&◌, true≢false}
use borrow.Author.Tests.{eq-eqb, ne_eqb, eqb-true, ltb-true, leb-true, le-leb, lt-leb, not-true}
use lib.Dec.{ltb, leb, eqb}
use lib.ListN.{length, take}
use Rattle.std.specs.List.{list_any}
use Rattle.faults.specs.Faults.{fault}
use Rattle.plane.specs.Arrays.{every}
use Rattle.faults.proofs.Bools.{both_first, both_second, both, not_first}
use Rattle.plane.proofs.Arrays.{some_clear, some_none, every_all, every_each}
use Rattle.mover.specs.declared.Job.{Job}
use Rattle.mover.specs.declared.Verdict.{Verdict}
use Rattle.mover.specs.Within.{job_fault, total_of, verdict_of}
use Rattle.transfers.specs.declared.Slot.{Slot}
use Rattle.transfers.specs.declared.Table.{Table}
use Rattle.transfers.specs.Sound.{SoundTable, SoundMeans}
use Rattle.transfers.specs.Slots.{slot_at, breaks, clashes, is_zero_part, is_zero_tensor, is_zero_config, is_zero_job, moved_right, slot_sound, sound_at, table_sound, limit}
use Rattle.transfers.proofs.Fours.{any_some}
use Rattle.transfers.proofs.Meeting.{breaks_either, empty_breaks}

-- ---- moved and the state

module _ (state moved total : ℕ) where
  pub right_1 : state ≡ 1 → eqb moved 0 ≡ moved_right state moved total
  unfolding moved_right
  right_1 e = simp e

  pub right_2 : state ≡ 2 → ltb moved total ≡ moved_right state moved total
  unfolding moved_right
  right_2 e = simp e

  pub right_3 : state ≡ 3 → eqb moved total ≡ moved_right state moved total
  unfolding moved_right
  right_3 e = simp e

  pub right_none : (state ≡ 1 → ⊥) → (state ≡ 2 → ⊥) → (state ≡ 3 → ⊥) → false ≡ moved_right state moved total
  unfolding moved_right
  right_none a b d = simp (ne_eqb state 1 a, ne_eqb state 2 b, ne_eqb state 3 d)

  pub right_most : moved_right state moved total ≡ true → moved ≤ total
  right_most e = elim (ℕ_discrete state 1) [
    | yes a ↦ let z = eqb-true moved 0 (right_1 a ∙ e) in omega arith
    | no a ↦ elim (ℕ_discrete state 2) [
      | yes b ↦ let z = ltb-true moved total (right_2 b ∙ e) in omega arith
      | no b ↦ elim (ℕ_discrete state 3) [
        | yes d ↦ let z = eqb-true moved total (right_3 d ∙ e) in omega arith
        | no d ↦ absurd (true≢false (sym e ∙ sym (right_none a b d)))
      ]
    ]
  ]

-- ---- a slot

-- of a slot that is not free
pub record Busy (n : ℕ) (s : Slot) : Type 0 where
  pub clear : (job_fault n s.job).status ≡ 0
  pub right : moved_right s.state s.moved (total_of s.job) ≡ true

module _ (n : ℕ) (s : Slot) where
  pub zero_sound : s.state ≡ 0 → (is_zero_job s.job && eqb s.moved 0) ≡ slot_sound n s
  unfolding slot_sound
  zero_sound e = simp (eq-eqb s.state 0 e)

  module _ (b : s.state ≡ 0 → ⊥) where
    taken : (eqb (job_fault n s.job).status 0 && moved_right s.state s.moved (total_of s.job)) ≡ slot_sound n s
    unfolding slot_sound
    taken = simp (ne_eqb s.state 0 b)

    pub busy : slot_sound n s ≡ true → Busy n s
    busy e =
        let w = taken ∙ e in
        record {
          clear = eqb-true (job_fault n s.job).status 0 (both_first _ (moved_right s.state s.moved (total_of s.job)) w);
          right = both_second (eqb (job_fault n s.job).status 0) _ w;
        }

    pub busy_sound : Busy n s → slot_sound n s ≡ true
    busy_sound u = sym taken ∙ both _ _ (eq-eqb (job_fault n s.job).status 0 u.clear) u.right

    pub fault_unsound : ((job_fault n s.job).status ≡ 0 → ⊥) → false ≡ slot_sound n s
    fault_unsound h =
        sym (not_first _ (moved_right s.state s.moved (total_of s.job)) (ne_eqb (job_fault n s.job).status 0 h)) ∙ taken

    pub clear_sound : (job_fault n s.job).status ≡ 0 → {r : Bool} → r ≡ moved_right s.state s.moved (total_of s.job) → r ≡ slot_sound n s
    clear_sound z p =
        p ∙ sym (ap (λ (x : Bool). x && moved_right s.state s.moved (total_of s.job)) (eq-eqb (job_fault n s.job).status 0 z)) ∙ taken

    -- what the mover says of its job
    module _ {v : Verdict} (e : v ≡ verdict_of n s.job) where
      verdict_status : v.status ≡ (job_fault n s.job).status
      unfolding verdict_of
      verdict_status = ap (λ (x : Verdict). x.status) e

      pub refused_unsound : (v.status ≡ 0 → ⊥) → false ≡ slot_sound n s
      refused_unsound h =
          sym (not_first _ (moved_right s.state s.moved (total_of s.job)) (ne_eqb (job_fault n s.job).status 0 (λ z. h (verdict_status ∙ z)))) ∙
          taken

-- the verdict of a job without a fault
pub verdict_clear : (n : ℕ) (j : Job) {v : Verdict} → v ≡ verdict_of n j → v.status ≡ 0 → (job_fault n j).status ≡ 0
unfolding verdict_of
verdict_clear n j e z = ap (λ (x : Verdict). x.status) (sym e) ∙ z

pub verdict_fault : (n : ℕ) (j : Job) {v : Verdict} → v ≡ verdict_of n j → record { status = v.status; dim = v.dim } ≡ job_fault n j
unfolding verdict_of
verdict_fault n j e = ap (λ (x : Verdict). fault x.status x.dim) e

pub verdict_total : (n : ℕ) (j : Job) {v : Verdict} → v ≡ verdict_of n j → (job_fault n j).status ≡ 0 → v.total ≡ total_of j
unfolding verdict_of
verdict_total n j e z = ap (λ (x : Verdict). x.total) e ∙ simp (eq-eqb (job_fault n j).status 0 z)

module _ (n : ℕ) (s : Slot) (b : s.state ≡ 0 → ⊥) {v : Verdict} (e : v ≡ verdict_of n s.job) where
  pub judged_sound : v.status ≡ 0 → {r : Bool} → r ≡ moved_right s.state s.moved v.total → r ≡ slot_sound n s
  judged_sound z p =
      let q = verdict_clear n s.job e z in
      let w = ap (λ (k : ℕ). moved_right s.state s.moved k) (verdict_total n s.job e q) in
      p ∙ w ∙ sym (ap (λ (x : Bool). x && moved_right s.state s.moved (total_of s.job)) (eq-eqb (job_fault n s.job).status 0 q)) ∙
      taken n s b

-- ---- a table

module _ (t : Table) where
  module _ (e : table_sound t ≡ true) where
    sound_at_lem : (i : ℕ) → i < 4 → sound_at t i ≡ true
    unfolding table_sound
    sound_at_lem i h = every_each (sound_at t) 4 (both_second (leb t.length limit) _ e) i h

    apart_before : (i k : ℕ) → i < 4 → k < i → breaks (slot_at t i).job (slot_at t k).job ≡ false
    unfolding sound_at clashes
    apart_before i k h l =
        some_clear i (λ (k : ℕ). breaks (slot_at t i).job (slot_at t k).job)
        (not-true (clashes t (slot_at t i).job i) (both_second (slot_sound t.length (slot_at t i)) _ (sound_at_lem i h)))
        k l

    pub sound_tells : SoundTable t
    unfolding table_sound sound_at
    sound_tells = record {
      short = leb-true t.length limit (both_first _ (every 4 (sound_at t)) e);
      each = λ i h. both_first _ (not (clashes t (slot_at t i).job i)) (sound_at_lem i h);
      apart = λ i k h l d. elim (dec_lt k i) [
        | yes q ↦ apart_before i k h q
        | no q ↦ breaks_either (slot_at t i).job (slot_at t k).job ∙ apart_before k i l (omega arith)
      ];
    }

  pub tells_sound : SoundTable t → table_sound t ≡ true
  unfolding table_sound sound_at clashes
  tells_sound s =
      both _ _ (le-leb t.length limit s.short)
      (every_all (sound_at t) 4 (λ i h.
      both _ _ (s.each i h)
      (ap not (some_none i (λ (k : ℕ). breaks (slot_at t i).job (slot_at t k).job) (λ k l. s.apart i k h (omega arith) (omega arith))))))

  -- ---- what the code's tests tell

  pub long_unsound : limit < t.length → false ≡ table_sound t
  unfolding table_sound
  long_unsound h = sym (not_first _ (every 4 (sound_at t)) (lt-leb t.length limit h))

  -- the slot at i, as the code reads it
  module _ (i : ℕ) {s : Slot} (e : s ≡ slot_at t i) where
    pub at_unsound : {a : Bool} → a ≡ slot_sound t.length s → a ≡ false → a ≡ sound_at t i
    unfolding sound_at
    at_unsound p f = f ∙ sym (not_first _ (not (clashes t (slot_at t i).job i)) (ap (slot_sound t.length) (sym e) ∙ sym p ∙ f))

    pub at_clashes : {a b : Bool} → a ≡ slot_sound t.length s → a ≡ true → b ≡ clashes t s.job i → not b ≡ sound_at t i
    unfolding sound_at
    at_clashes p f q =
        let w = ap (slot_sound t.length) (sym e) ∙ sym p ∙ f in
        ap not (q ∙ ap (λ (x : Slot). clashes t x.job i) e) ∙
        sym (ap (λ (x : Bool). x && not (clashes t (slot_at t i).job i)) w)

  pub short_sound : t.length ≤ limit → {r : Bool} → r ≡ every 4 (sound_at t) → r ≡ table_sound t
  unfolding table_sound
  short_sound l e = e ∙ sym (ap (λ (x : Bool). x && every 4 (sound_at t)) (le-leb t.length limit l))

-- a test of the first n slots, as the code makes it
pub clashes_told : (t : Table) (j : Job) (n : ℕ) → length t.slots ≡ 4 → n ≤ 4 → list_any (λ s. breaks j s.job) (take n t.slots) ≡ clashes t j n
unfolding clashes
clashes_told t j n e h = any_some (λ (s : Slot). breaks j s.job) t.slots n (omega arith)

pub sound_means : SoundMeans
sound_means t = (sound_tells t, tells_sound t)

-- ---- a free slot

-- in a sound table it breaks the rule with none: its parts are empty
pub free_breaks_none : (n : ℕ) (s : Slot) (j : Job) → slot_sound n s ≡ true → s.state ≡ 0 → breaks s.job j ≡ false
unfolding is_zero_job
free_breaks_none n s j p e =
    let z = both_first (is_zero_job s.job) (eqb s.moved 0) (zero_sound n s e ∙ p) in
    let w = both_first _ (is_zero_tensor s.job.tensor) (both_first _ (is_zero_config s.job.config) z) in
    let source = both_first (is_zero_part s.job.source) (is_zero_part s.job.destination) w in
    let destination = both_second (is_zero_part s.job.source) (is_zero_part s.job.destination) w in
    empty_breaks s.job j
    (eqb-true s.job.source.length 0 (both_second (eqb s.job.source.start 0) _ source))
    (eqb-true s.job.destination.length 0 (both_second (eqb s.job.destination.start 0) _ destination))
