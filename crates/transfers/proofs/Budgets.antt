-- Budgets that add up to what a running transfer has left finish it, whatever other calls come between, as long as none releases it. Assumes nothing.
use mathlib.Core.Path.{◌≡◌, refl, sym, subst, ◌∙◌}
use mathlib.Core.Logic.{◌⊎◌, ⊎_elim, inl, inr}
use Prim.Native.Nat.{ℕ, ◌+◌, ◌-◌, ◌≤◌, ◌<◌, min}
use native.Mathlib.Nat.{zero-add}
use native.Mathlib.Omega.{arith}
use native.Mathlib.Decide.{ℕ_discrete}
use mathlib.Core.Bool.{Bool, true, false, not, cond}
use mathlib.Core.List.{List, [], ◌∷◌}
use lib.Dec.{eqb, ltb}
use lib.ListN.{length}
use borrow.Author.Tests.{eq-eqb, ne_eqb, eqb-true, ltb-false}
use Rattle.faults.specs.Faults.{when, ◌or_else◌, if_fault}
use Rattle.faults.proofs.Faults.{by_fault}
use Rattle.mover.specs.declared.Job.{Job}
use Rattle.mover.specs.Within.{total_of}
use Rattle.mover.proofs.Laws.{advanced_length}
use Rattle.transfers.specs.declared.Slot.{Slot}
use Rattle.transfers.specs.declared.Table.{Table}
use Rattle.transfers.specs.declared.Prepared.{Prepared}
use Rattle.transfers.specs.declared.Changed.{Changed}
use Rattle.transfers.specs.declared.Stepped.{Stepped}
use Rattle.transfers.specs.declared.Poll.{Poll}
use Rattle.transfers.specs.declared.Poll.TheVariants as says
use Rattle.transfers.specs.Slots.{slot_at, free_slot, with_slot, lowest_free, table_sound}
use Rattle.transfers.specs.Calls.{call_fault, prepare_fault, new_slot, prepare_of, changed, running, start_of, release_of, step_count, later, step_of, step_memory, left, poll_slot, poll_fault, poll_of}
use Rattle.transfers.specs.Demand3.{Call, prepare, start, step, release, poll, World, after, run}
use Rattle.transfers.specs.Claims.{spends, spend, Unreleased, BudgetsFinish}
use Rattle.transfers.proofs.Fours.{slot_same, slot_other, lowest_is}
use Rattle.transfers.proofs.Sounds.{sound_tells, busy}
use Rattle.transfers.proofs.Answers.{open-0, called, preparing, call-0}
use Rattle.transfers.proofs.Steps.{running_left, poll_done}
use Rattle.transfers.proofs.Keeps.{prepare_keeps, start_keeps, step_keeps, release_keeps}

-- the transfer at h is done, or it is running with at most n elements left
abbrev AtMost : Slot → ℕ → Type 0
AtMost s n = (s.state ≡ 3) ⊎ ((s.state ≡ 2) × (left s ≤ n))

no_two : (x a b : ℕ) → x ≡ a → x ≡ b → (a ≡ b → ⊥) → ⊥
no_two x a b p q d = d (sym p ∙ q)

-- so it is neither free nor prepared
at_most_taken : (s : Slot) (n k : ℕ) → k < 2 → AtMost s n → s.state ≡ k → ⊥
at_most_taken s n k l a e =
    ⊎_elim {C = ⊥} (λ x. no_two s.state 3 k x e (λ q. omega arith)) (λ x. no_two s.state 2 k x.0 e (λ q. omega arith)) a

-- a slot set elsewhere
at_most_other : (t : Table) (h g n : ℕ) (s : Slot) → h < 4 → (h ≡ g → ⊥) → AtMost (slot_at t h) n → AtMost (slot_at (with_slot t g s) h) n
at_most_other t h g n s l d a = subst (λ (x : Slot). AtMost x n) (sym (slot_other t g s h l d)) a

less_left : (total moved n b : ℕ) → total - moved ≤ b + n → total - (moved + min b (total - moved)) ≤ n
less_left total moved n b h = omega arith

-- the slot's own step
at_most_later : (s : Slot) (n b : ℕ) → left s ≤ b + n → AtMost (later s (step_count s b)) n
unfolding later
at_most_later s n b l = elim (ℕ_discrete (s.moved + step_count s b) (total_of s.job)) [
  | yes e ↦ inl (simp (eq-eqb (s.moved + step_count s b) (total_of s.job) e))
  | no e ↦ inr (simp (ne_eqb (s.moved + step_count s b) (total_of s.job) e), less_left (total_of s.job) s.moved n b l)
]

-- ---- one call

-- the table is sound, the memory has its length, and the transfer at h has at most n elements left
pub record Going (h n : ℕ) (w : World) : Type 0 where
  pub sound : table_sound w.table ≡ true
  pub long : length w.memory ≡ w.table.length
  pub most : AtMost (slot_at w.table h) n

module _ (h : ℕ) (q : h < 4) (t : Table) (n : ℕ) (most : AtMost (slot_at t h) n) where
  prepare_most : (m : ℕ) (j : Job) → AtMost (slot_at (prepare_of t m j).table h) n
  unfolding prepare_of
  prepare_most m j =
      by_fault (λ (a : Prepared). AtMost (slot_at a.table h) n) (prepare_fault t m j)
      (λ z.
      let l = lowest_is t (preparing t m j z).room in
      at_most_other t h (lowest_free t) n (new_slot j) q (λ e. at_most_taken (slot_at t h) n 0 (omega arith) most (rw e l.free)) most)
      (λ z. most)

  start_most : (m g : ℕ) → AtMost (slot_at (start_of t m g).table h) n
  unfolding start_of changed
  start_most m g =
      by_fault (λ (a : Changed). AtMost (slot_at a.table h) n) (call_fault t m g 1)
      (λ z. at_most_other t h g n (running (slot_at t g)) q (λ e. at_most_taken (slot_at t h) n 1 (omega arith) most (rw e (called t m g 1 z).state)) most)
      (λ z. most)

  -- a release of another slot, or one that is refused
  release_most : (m g : ℕ) → ((release_of t m g).status ≡ 0 → h ≡ g → ⊥) → AtMost (slot_at (release_of t m g).table h) n
  unfolding release_of changed
  release_most m g =
      by_fault (λ (a : Changed). (a.status ≡ 0 → h ≡ g → ⊥) → AtMost (slot_at a.table h) n) (call_fault t m g 3)
      (λ z u. at_most_other t h g n free_slot q (u refl) most) (λ z u. most)

  -- a step of another slot
  step_other : (m g b : ℕ) → (h ≡ g → ⊥) → AtMost (slot_at (step_of t m g b).table h) n
  unfolding step_of
  step_other m g b d =
      by_fault (λ (a : Stepped). AtMost (slot_at a.table h) n) (call_fault t m g 2)
      (λ z. at_most_other t h g n (later (slot_at t g) (step_count (slot_at t g) b)) q d most) (λ z. most)

-- a step of the slot itself: where it is running, the step is not refused
step_own : (h : ℕ) → h < 4 → (t : Table) (n m b : ℕ) → table_sound t ≡ true → m ≡ t.length → AtMost (slot_at t h) (b + n) → AtMost (slot_at (step_of t m h b).table h) n
unfolding step_of
step_own h q t n m b p l most =
    by_fault (λ (a : Stepped). AtMost (slot_at a.table h) n) (call_fault t m h 2)
    (λ z. subst (λ (x : Slot). AtMost x n) (sym (slot_same t h (later (slot_at t h) (step_count (slot_at t h) b)) q)) (accepted z))
    refused
  where
    accepted : (call_fault t m h 2).status ≡ 0 → AtMost (later (slot_at t h) (step_count (slot_at t h) b)) n
    accepted z =
        ⊎_elim (λ e. absurd (no_two (slot_at t h).state 3 2 e (called t m h 2 z).state (λ y. omega arith))) (λ e. at_most_later (slot_at t h) n b e.1) most

    refused : ((call_fault t m h 2).status ≡ 0 → ⊥) → AtMost (slot_at t h) n
    refused d =
        ⊎_elim (λ e. inl e)
        (λ e. absurd (d (sym (call-0 t m h 2 (sym (open-0 t m l p)) (omega arith) (at_most_taken (slot_at t h) (b + n) 0 (omega arith) most) e.0))))
        most

step_most : (h : ℕ) → h < 4 → (t : Table) (n m i b : ℕ) → table_sound t ≡ true → m ≡ t.length → AtMost (slot_at t h) (cond (eqb i h) b 0 + n) → AtMost (slot_at (step_of t m i b).table h) n
step_most h q t n m i b p l most = elim (ℕ_discrete i h) [
  | yes e ↦ rw e (step_own h q t n m b p l (rw (eq-eqb i h e) at most))
  | no e ↦ step_other h q t n (rw (ne_eqb i h e, zero-add) at most) m i b (λ x. e (sym x))
]

step_long : (t : Table) (g b : ℕ) (m : List ℕ) → length (step_memory t g b m) ≡ length m
unfolding step_memory
step_long t g b m =
    by_fault (λ (x : List ℕ). length x ≡ length m) (call_fault t (length m) g 2)
    (λ z. advanced_length (slot_at t g).job (slot_at t g).moved (step_count (slot_at t g) b) m) (λ z. refl)

-- ---- a list of calls

module _ (h : ℕ) (q : h < 4) where
  pub going : (cs : List Call) (w : World) → Unreleased h cs w → Going h (spend h cs) w → Going h 0 (run cs w)
  unfolding run after spend spends
  going [] w u g = g
  going (prepare j ∷ cs) w u g =
      let k = prepare_keeps w.table g.sound (length w.memory) j in
      going cs (after (prepare j) w) u (record {
        sound = k.sound;
        long = g.long ∙ sym k.long;
        most = prepare_most h q w.table (spend h cs) (rw zero-add at g.most) (length w.memory) j;
      })
  going (start i ∷ cs) w u g =
      let k = start_keeps w.table g.sound (length w.memory) i in
      going cs (after (start i) w) u (record {
        sound = k.sound;
        long = g.long ∙ sym k.long;
        most = start_most h q w.table (spend h cs) (rw zero-add at g.most) (length w.memory) i;
      })
  going (step i b ∷ cs) w u g =
      let k = step_keeps w.table g.sound (length w.memory) i b in
      going cs (after (step i b) w) u (record {
        sound = k.sound;
        long = step_long w.table i b w.memory ∙ g.long ∙ sym k.long;
        most = step_most h q w.table (spend h cs) (length w.memory) i b g.sound g.long g.most;
      })
  going (release i ∷ cs) w u g =
      let k = release_keeps w.table g.sound (length w.memory) i in
      going cs (after (release i) w) u.1 (record {
        sound = k.sound;
        long = g.long ∙ sym k.long;
        most = release_most h q w.table (spend h cs) (rw zero-add at g.most) (length w.memory) i u.0;
      })
  going (poll i ∷ cs) w u g = going cs w u (record { sound = g.sound; long = g.long; most = rw zero-add at g.most })

-- ---- the theorem

-- what a poll that says running tells
record Tells (t : Table) (h n : ℕ) : Type 0 where
  sound : table_sound t ≡ true
  range : h < 4
  state : (slot_at t h).state ≡ 2
  rest : left (slot_at t h) ≡ n

tells : (t : Table) (h n : ℕ) → poll_of t h ≡ says.Running n → Tells t h n
unfolding poll_of poll_fault poll_slot when ◌or_else◌
tells t h n =
    by_tests (table_sound t) (ltb 3 h) (eqb (slot_at t h).state 0) (eqb (slot_at t h).state 1) (eqb (slot_at t h).state 2) refl refl refl
  where
    not_so : {x : Poll} → x ≡ says.Running n → (says.Running n ≡ x → ◌≡◌ {A = ℕ} 0 1) → Tells t h n
    not_so p f = absurd (let z = f (sym p) in omega arith)

    by_tests : (a b c d e : Bool) → table_sound t ≡ a → ltb 3 h ≡ b → eqb (slot_at t h).state 2 ≡ e
        → (let f = (when 18 0 (not a) or_else when 23 0 b) in if_fault f (says.Refused f.status) (cond c says.Free (cond d (says.Prepared (left (slot_at t h))) (cond e (says.Running (left (slot_at t h))) says.Done)))) ≡ says.Running n
        → Tells t h n
    by_tests false b c d e pa pb pe r = not_so r (λ z. cc)
    by_tests true true c d e pa pb pe r = not_so r (λ z. cc)
    by_tests true false true d e pa pb pe r = not_so r (λ z. cc)
    by_tests true false false true e pa pb pe r = not_so r (λ z. cc)
    by_tests true false false false false pa pb pe r = not_so r (λ z. cc)
    by_tests true false false false true pa pb pe r =
        record { sound = pa; range = less (ltb-false 3 h pb); state = eqb-true (slot_at t h).state 2 pe; rest = cc }
      where
        less : h ≤ 3 → h < 4
        less x = omega arith

pub budgets_finish : BudgetsFinish
budgets_finish h n w cs l r u b =
    let k = tells w.table h n r in
    let g = going h k.range cs w u (record { sound = k.sound; long = l; most = inr (k.state, rw k.rest b) }) in
    ended (run cs w).table k.range g.sound g.most
  where
    ended : (t : Table) → h < 4 → table_sound t ≡ true → AtMost (slot_at t h) 0 → poll_of t h ≡ says.Done
    ended t q p most =
        ⊎_elim
        (λ e.
        sym (poll_done t h p (omega arith) refl (at_most_taken (slot_at t h) 0 0 (omega arith) most) (at_most_taken (slot_at t h) 0 1 (omega arith) most) (λ z. no_two (slot_at t h).state 3 2 e z (λ y. omega arith))))
        (λ e.
        let s = slot_at t h in
        let i = running_left t.length s (busy t.length s (at_most_taken s 0 0 (omega arith) most) ((sound_tells t p).each h q)) e.0 in
        absurd (none_left (total_of s.job) s.moved i e.1))
        most
      where
        none_left : (total moved : ℕ) → moved < total → total - moved ≤ 0 → ⊥
        none_left total moved x y = omega arith
