-- Entries at or past the rank, and bytes of the fill past the element size, are not looked at by the calls on a table: tables and jobs
-- that agree in the rest have the same answers and the same memory, and the tables handed back agree again. Assumes nothing.
use Prim.Native.Nat.{ℕ, ◌+◌, ◌-◌, ◌≤◌, ◌<◌, min}
use native.Mathlib.Decide.{dec_lt, ℕ_discrete}
use native.Mathlib.Omega.{arith}
use mathlib.Core.Path.{◌≡◌, refl, sym, ap, subst, subst₂, ◌∙◌}
use mathlib.Core.Bool.{Bool, true, false, cond, not, ◌||◌, ◌&&◌}
use mathlib.Core.List.{List}
use borrow.Author.Tests.{lt-ltb}
use lib.Dec.{ltb, leb, eqb}
use lib.ListN.{length}
use Rattle.faults.specs.declared.Fault.{Fault}
use Rattle.faults.specs.Faults.{when, ◌or_else◌, if_fault}
use Rattle.faults.proofs.Bools.{either_first}
use Rattle.faults.proofs.Faults.{status, or_path, if_fault_lem, if_none, given}
use Rattle.plane.proofs.Arrays.{some_same, every_same}
use Rattle.mover.specs.declared.Job.{Job}
use Rattle.mover.specs.Claims.{SameJob}
use Rattle.mover.specs.Within.{meets, job_fault, total_of, verdict_of, advance_memory}
use Rattle.mover.proofs.Unseen.{job_fault_unseen, job_unseen, advance_memory_unseen}
use Rattle.transfers.specs.declared.Slot.{Slot}
use Rattle.transfers.specs.declared.Table.{Table}
use Rattle.transfers.specs.declared.Poll.TheVariants as poll
use Rattle.transfers.specs.Slots.{free_slot, slot_at, with_slot, is_free, lowest_free, breaks, clashes, moved_right, slot_sound, sound_at, table_sound, limit}
use Rattle.transfers.specs.Calls.{open_fault, prepare_fault, call_fault, new_slot, prepare_of, changed, running, start_of, release_of, step_count, later, step_of, step_memory, poll_slot, poll_of}
use Rattle.transfers.specs.Unseen.{SameSlot, SameTable, SamePrepared, SameChanged, SameStepped, TablesUnseen}
use Rattle.transfers.proofs.Fours.{slot_same, slot_other, with_length, lowest_is}
use Rattle.transfers.proofs.Sounds.{busy, refused_unsound, verdict_total, judged_sound, sound_tells}
use Rattle.transfers.proofs.Answers.{Called, called, preparing}
use Rattle.transfers.proofs.Steps.{step_busy, step_memory_lem, step_refused, poll_18, poll_23, its_poll}
use Rattle.transfers.proofs.Keeps.{later_state}

-- ---- jobs

pub record SameParts (j j' : Job) : Type 0 where
  pub source : j.source ≡ j'.source
  pub destination : j.destination ≡ j'.destination

same_breaks : (j j' k k' : Job) → SameParts j j' → SameParts k k' → breaks j k ≡ breaks j' k'
unfolding breaks
same_breaks j j' k k' a b =
    let x = a.source in
    let y = a.destination in
    let u = b.source in
    let v = b.destination in
    λ i. meets (y i) (v i) || meets (y i) (u i) || meets (x i) (v i)

same_total : (n : ℕ) (j j' : Job) → SameJob j j' → (job_fault n j).status ≡ 0 → total_of j ≡ total_of j'
same_total n j j' a z =
    sym (verdict_total n j refl z) ∙ verdict_total n j' (job_unseen n j j' a.asked) (sym (status (job_fault_unseen j j' a.asked n)) ∙ z)

-- ---- slots

module _ (s s' : Slot) (a : SameSlot s s') where
  same_free : s.state ≡ 0 → s ≡ s'
  same_free z =
      let state = a.state in
      let job = a.free z in
      let moved = a.moved in
      λ i. record { state = state i; job = job i; moved = moved i }

  same_parts : SameParts s.job s'.job
  same_parts = elim (ℕ_discrete s.state 0) [
    | yes z ↦ record { source = ap (λ (j : Job). j.source) (a.free z); destination = ap (λ (j : Job). j.destination) (a.free z) }
    | no b ↦ record { source = (a.taken b).asked.source; destination = (a.taken b).asked.destination }
  ]

  taken_sound : (n : ℕ) → (s.state ≡ 0 → ⊥) → slot_sound n s ≡ slot_sound n s'
  taken_sound n b =
      let e = job_unseen n s.job s'.job (a.taken b).asked in
      let b' : s'.state ≡ 0 → ⊥ = λ z. b (a.state ∙ z) in
      let state = a.state in
      let moved = a.moved in
      elim (ℕ_discrete (verdict_of n s.job).status 0) [
        | yes z ↦ sym (judged_sound n s b refl z refl) ∙ judged_sound n s' b' e z (λ i. moved_right (state i) (moved i) (verdict_of n s.job).total)
        | no z ↦ sym (refused_unsound n s b refl z) ∙ refused_unsound n s' b' e z
      ]

  same_slot_sound : (n : ℕ) → slot_sound n s ≡ slot_sound n s'
  same_slot_sound n = elim (ℕ_discrete s.state 0) [
    | yes z ↦ ap (slot_sound n) (same_free z)
    | no b ↦ taken_sound n b
  ]

  -- where a slot that is not free passes over n bytes
  module _ (n : ℕ) (b : s.state ≡ 0 → ⊥) (z : (job_fault n s.job).status ≡ 0) where
    its_total : total_of s.job ≡ total_of s'.job
    its_total = same_total n s.job s'.job (a.taken b) z

    same_count : (budget : ℕ) → step_count s budget ≡ step_count s' budget
    same_count budget =
        let total = its_total in
        let moved = a.moved in
        λ i. min budget (total i - moved i)

    same_later : (budget : ℕ) → SameSlot (later s (step_count s budget)) (later s' (step_count s' budget))
    unfolding later
    same_later budget =
        let total = its_total in
        let moved = a.moved in
        let count = same_count budget in
        record {
          state = λ i. cond (eqb (moved i + count i) (total i)) 3 2;
          moved = λ i. moved i + count i;
          taken = λ d. a.taken b;
          free = λ e. absurd (later_state (eqb (s.moved + step_count s budget) (total_of s.job)) e);
        }

    same_poll : poll_slot s ≡ poll_slot s'
    unfolding poll_slot
    same_poll =
        let state = a.state in
        let total = its_total in
        let moved = a.moved in
        λ i.
        cond (eqb (state i) 0) poll.Free
        (cond (eqb (state i) 1) (poll.Prepared (total i - moved i))
        (cond (eqb (state i) 2) (poll.Running (total i - moved i)) poll.Done))

  same_running : (s.state ≡ 0 → ⊥) → SameSlot (running s) (running s')
  same_running b = record { state = refl; moved = a.moved; taken = λ d. a.taken b; free = λ e. absurd (omega arith) }

same_new : (j j' : Job) → SameJob j j' → SameSlot (new_slot j) (new_slot j')
same_new j j' a = record { state = refl; moved = refl; taken = λ d. a; free = λ e. absurd (omega arith) }

freed : SameSlot free_slot free_slot
freed = record { state = refl; moved = refl; taken = λ d. absurd (d refl); free = λ e. refl }

-- ---- tables

-- two answers with one fault
by_same : {A : Type 0} (R : A → A → Type 0) (f f' : Fault) → f ≡ f' → {x x' y y' : A} → (f.status ≡ 0 → R x x') → R y y'
    → R (if_fault f y x) (if_fault f' y' x')
by_same R f f' e {x} {x'} {y} {y'} go stop = elim (ℕ_discrete f.status 0) [
  | yes z ↦ subst₂ R (sym (if_none f y x z)) (sym (if_none f' y' x' (sym (status e) ∙ z))) (go z)
  | no b ↦ subst₂ R (sym (if_fault_lem f y x b)) (sym (if_fault_lem f' y' x' (λ z. b (status e ∙ z)))) stop
]

module _ (t t' : Table) (a : SameTable t t') where
  same_clashes : (j j' : Job) → SameParts j j' → (n : ℕ) → n ≤ 4 → clashes t j n ≡ clashes t' j' n
  unfolding clashes
  same_clashes j j' p n l =
      some_same n (λ k. breaks j (slot_at t k).job) (λ k. breaks j' (slot_at t' k).job)
      (λ k h. same_breaks j j' (slot_at t k).job (slot_at t' k).job p (same_parts (slot_at t k) (slot_at t' k) (a.slot k (omega arith))))

  same_at : (i : ℕ) → i < 4 → sound_at t i ≡ sound_at t' i
  unfolding sound_at
  same_at i h =
      let s = slot_at t i in
      let s' = slot_at t' i in
      let one = same_slot_sound s s' (a.slot i h) t.length ∙ ap (λ (n : ℕ). slot_sound n s') a.long in
      let others = same_clashes s.job s'.job (same_parts s s' (a.slot i h)) i (omega arith) in
      λ k. one k && not (others k)

  same_sound : table_sound t ≡ table_sound t'
  unfolding table_sound
  same_sound =
      let long = a.long in
      let each = every_same 4 (sound_at t) (sound_at t') same_at in
      λ i. leb (long i) limit && each i

  -- ---- faults

  same_open : (n : ℕ) → open_fault t n ≡ open_fault t' n
  unfolding open_fault
  same_open n =
      let long = a.long in
      let sound = same_sound in
      λ i. when 17 0 (not (eqb n (long i))) or_else when 18 0 (not (sound i))

  -- a handle above 3 gives 23, whatever would follow
  same_call : (n h want : ℕ) → call_fault t n h want ≡ call_fault t' n h want
  unfolding call_fault open_fault
  same_call n h want = or_path (same_open n) (elim (dec_lt h 4) [
    | yes l ↦ let state = (a.slot h l).state in λ i. when 23 0 (ltb 3 h || eqb (state i) 0) or_else when 24 0 (not (eqb (state i) want))
    | no l ↦ given 23 0 _ _ (omega arith) (either_first (ltb 3 h) (is_free t h) (lt-ltb 3 h (omega arith))) ∙
        sym (given 23 0 _ _ (omega arith) (either_first (ltb 3 h) (is_free t' h) (lt-ltb 3 h (omega arith))))
  ])

  same_lowest : lowest_free t ≡ lowest_free t'
  unfolding lowest_free
  same_lowest =
      let s0 = (a.slot 0 (omega arith)).state in
      let s1 = (a.slot 1 (omega arith)).state in
      let s2 = (a.slot 2 (omega arith)).state in
      let s3 = (a.slot 3 (omega arith)).state in
      λ i. cond (eqb (s0 i) 0) 0 (cond (eqb (s1 i) 0) 1 (cond (eqb (s2 i) 0) 2 (cond (eqb (s3 i) 0) 3 4)))

  same_prepare : (n : ℕ) (j j' : Job) → SameJob j j' → prepare_fault t n j ≡ prepare_fault t' n j'
  unfolding prepare_fault open_fault job_fault
  same_prepare n j j' b =
      let first = same_open n in
      let lowest = same_lowest in
      let job = job_fault_unseen j j' b.asked n in
      let clash = same_clashes j j' (record { source = b.asked.source; destination = b.asked.destination }) 4 (omega arith) in
      λ i. first i or_else when 19 0 (eqb (lowest i) 4) or_else job i or_else when 22 0 (clash i)

  -- ---- a slot put in its place

  same_with : (h : ℕ) → h < 4 → (s s' : Slot) → SameSlot s s' → SameTable (with_slot t h s) (with_slot t' h s')
  same_with h q s s' b = record {
    long = with_length t h s ∙ a.long ∙ sym (with_length t' h s');
    slot = λ i l. elim (ℕ_discrete i h) [
      | yes e ↦ rw (e, slot_same t h s q, slot_same t' h s' q) b
      | no d ↦ rw (slot_other t h s i l d, slot_other t' h s' i l d) (a.slot i l)
    ];
  }

  -- ---- the calls

  prepare_unseen : (n : ℕ) (j j' : Job) → SameJob j j' → SamePrepared (prepare_of t n j) (prepare_of t' n j')
  unfolding prepare_of
  prepare_unseen n j j' b =
      let e = same_prepare n j j' b in
      by_same SamePrepared (prepare_fault t n j) (prepare_fault t' n j') e
      (λ z.
      let l = lowest_is t (preparing t n j z).room in
      record {
        status = refl;
        dim = refl;
        handle = same_lowest;
        table = subst (λ (h : ℕ). SameTable (with_slot t (lowest_free t) (new_slot j)) (with_slot t' h (new_slot j'))) same_lowest
            (same_with (lowest_free t) l.range (new_slot j) (new_slot j') (same_new j j' b));
      })
      (record { status = status e; dim = ap (λ (f : Fault). f.dim) e; handle = refl; table = a })

  change_unseen : (n h want : ℕ) (s s' : Slot) → (Called t n h want → SameSlot s s')
      → SameChanged (changed (call_fault t n h want) t h s) (changed (call_fault t' n h want) t' h s')
  unfolding changed
  change_unseen n h want s s' b =
      let e = same_call n h want in
      by_same SameChanged (call_fault t n h want) (call_fault t' n h want) e
      (λ z. let k = called t n h want z in record { status = refl; table = same_with h k.range s s' (b k) })
      (record { status = status e; table = a })

  start_unseen : (n h : ℕ) → SameChanged (start_of t n h) (start_of t' n h)
  unfolding start_of
  start_unseen n h =
      change_unseen n h 1 (running (slot_at t h)) (running (slot_at t' h))
      (λ k. same_running (slot_at t h) (slot_at t' h) (a.slot h k.range) k.taken)

  release_unseen : (n h : ℕ) → SameChanged (release_of t n h) (release_of t' n h)
  unfolding release_of
  release_unseen n h = change_unseen n h 3 free_slot free_slot (λ k. freed)

  module _ (h budget : ℕ) (m : List ℕ) where
    step_unseen : SameStepped (step_of t (length m) h budget) (step_of t' (length m) h budget)
    unfolding step_of
    step_unseen =
        let e = same_call (length m) h 2 in
        by_same SameStepped (call_fault t (length m) h 2) (call_fault t' (length m) h 2) e
        (λ z.
        let k = called t (length m) h 2 z in
        let s = slot_at t h in
        let s' = slot_at t' h in
        let b = a.slot h k.range in
        let u = (step_busy t h budget m z).clear in
        record {
          status = refl;
          count = same_count s s' b (length m) k.taken u budget;
          table = same_with h k.range (later s (step_count s budget)) (later s' (step_count s' budget))
              (same_later s s' b (length m) k.taken u budget);
        })
        (record { status = status e; count = refl; table = a })

    memory_unseen : step_memory t h budget m ≡ step_memory t' h budget m
    memory_unseen =
        let e = same_call (length m) h 2 in
        elim (ℕ_discrete (call_fault t (length m) h 2).status 0) [
          | yes z ↦ let k = called t (length m) h 2 z in
              let s = slot_at t h in
              let s' = slot_at t' h in
              let b = a.slot h k.range in
              sym (step_memory_lem t h budget m z refl refl) ∙
              step_memory_lem t' h budget m (sym (status e) ∙ z) refl
              (advance_memory_unseen s.moved budget m s.job s'.job (b.taken k.taken) ∙
              ap (λ (n : ℕ). advance_memory s'.job n budget m) b.moved)
          | no d ↦ sym (step_refused t h budget m refl d).1 ∙ (step_refused t' h budget m refl (λ z. d (status e ∙ z))).1
        ]

  poll_unseen : (h : ℕ) → poll_of t h ≡ poll_of t' h
  poll_unseen h = by_test (table_sound t) refl
    where
      slots : table_sound t ≡ true → (l : h < 4) → poll_slot (slot_at t h) ≡ poll_slot (slot_at t' h)
      slots p l = elim (ℕ_discrete (slot_at t h).state 0) [
        | yes z ↦ ap poll_slot (same_free (slot_at t h) (slot_at t' h) (a.slot h l) z)
        | no b ↦ same_poll (slot_at t h) (slot_at t' h) (a.slot h l) t.length b (busy t.length (slot_at t h) b ((sound_tells t p).each h l)).clear
      ]

      by_test : (v : Bool) → table_sound t ≡ v → poll_of t h ≡ poll_of t' h
      by_test false p = sym (poll_18 t h p) ∙ poll_18 t' h (sym same_sound ∙ p)
      by_test true p = elim (dec_lt h 4) [
        | yes l ↦ sym (its_poll t h p (omega arith) refl) ∙ slots p l ∙ its_poll t' h (sym same_sound ∙ p) (omega arith) refl
        | no l ↦ sym (poll_23 t h p (omega arith)) ∙ poll_23 t' h (sym same_sound ∙ p) (omega arith)
      ]

-- ---- the theorem

pub tables_unseen : TablesUnseen
tables_unseen t t' a = record {
  sound = same_sound t t' a;
  prepare = prepare_unseen t t' a;
  start = start_unseen t t' a;
  step = step_unseen t t' a;
  memory = memory_unseen t t' a;
  release = release_unseen t t' a;
  poll = poll_unseen t t' a;
}
