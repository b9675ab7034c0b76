-- Demand 3 on the calls' own definitions: each accepted call is one of the crate serial's transitions, on the table as it sees it.
-- Assumes nothing.
use mathlib.Core.Path.{◌≡◌, refl, sym, subst}
use Prim.Native.Nat.{ℕ, zero, suc}
use native.Mathlib.Decide.{dec_lt}
use native.Mathlib.Omega.{arith}
use mathlib.Core.Bool.{cond}
use mathlib.Core.List.{List, [], ◌∷◌}
use lib.Dec.{eqb}
use lib.ListN.{length, get_or}
use borrow.Author.Tests.{ne_eqb}
use Rattle.plane.proofs.Arrays.{some_clear}
use Rattle.faults.proofs.Faults.{by_fault, by_fault₂}
use Rattle.mover.specs.declared.Job.{Job}
use Rattle.mover.specs.Within.{advanced_by}
use Rattle.serial.specs.Machine.{Clear, Reached}
use Rattle.serial.specs.Machine as machine
use Rattle.serial.proofs.Serial as serial
use Rattle.transfers.specs.declared.Slot.{Slot}
use Rattle.transfers.specs.declared.Table.{Table}
use Rattle.transfers.specs.declared.Prepared.{Prepared}
use Rattle.transfers.specs.declared.Changed.{Changed}
use Rattle.transfers.specs.declared.Stepped.{Stepped}
use Rattle.transfers.specs.Slots.{free_slot, fresh_table, slot_at, with_slot, lowest_free, breaks, clashes, limit}
use Rattle.transfers.specs.Calls.{fresh_of, prepare_fault, call_fault, new_slot, prepare_of, changed, running, start_of, release_of, step_count, later, step_of, step_memory}
use Rattle.transfers.specs.Demand3.{the_mover, Log, note_prepare, note_step, note_release, History, made, prepared, started, stepped, freed, Call, prepare, start, step, release, poll, World, fresh_world, after, run, ForHistories, ForRuns}
use Rattle.transfers.proofs.Fours.{lowest_is}
use Rattle.transfers.proofs.Answers.{fresh-17, fresh-0, called, preparing}
use Rattle.transfers.proofs.Lawful.{lawful, applied_advanced, whole_moves, clear_of}
use Rattle.transfers.proofs.View.{view, view_with, view_free, view_taken, shown_job, later_view, quiet_view}
use Rattle.transfers.proofs.Midway.{in_place_each}

-- ---- each call

module _ (m₀ : List ℕ) where
  abbrev Shown : Table → List ℕ → Log → Type 0
  Shown t m log = Reached the_mover m₀ (view t) m log

  module _ (t : Table) (m : List ℕ) (log : Log) (r : Shown t m log) where
    prepare_shown : (j : Job) → Shown (prepare_of t (length m) j).table m (note_prepare j (prepare_of t (length m) j) m log)
    unfolding prepare_of note_prepare clashes
    prepare_shown j =
        by_fault (λ (a : Prepared). Shown a.table m (cond (eqb a.status 0) (machine.entered a.handle j m ∷ log) log))
        (prepare_fault t (length m) j) accepted (λ z. rw (ne_eqb (prepare_fault t (length m) j).status 0 z) r)
      where
        accepted : (prepare_fault t (length m) j).status ≡ 0 → Shown (with_slot t (lowest_free t) (new_slot j)) m (machine.entered (lowest_free t) j m ∷ log)
        accepted z =
            let p = preparing t (length m) j z in
            let l = lowest_is t p.room in
            rw (view_with t (lowest_free t) (new_slot j) l.range)
            (machine.prepare r (lowest_free t) l.range (view_free t (lowest_free t) l.range l.free) j p.clear
            (λ g st i c q.
            let x = shown_job t g st i c q in
            subst (λ (k : Job). Clear the_mover j k) (sym x.1) (clear_of j (slot_at t g).job (some_clear 4 (λ k. breaks j (slot_at t k).job) p.apart g x.0))))

    start_shown : (h : ℕ) → Shown (start_of t (length m) h).table m log
    unfolding start_of changed
    start_shown h =
        by_fault (λ (a : Changed). Shown a.table m log) (call_fault t (length m) h 1) accepted (λ z. r)
      where
        accepted : (call_fault t (length m) h 1).status ≡ 0 → Shown (with_slot t h (running (slot_at t h))) m log
        accepted z =
            let w = called t (length m) h 1 z in
            rw (view_with t h (running (slot_at t h)) w.range) (machine.start r h (slot_at t h).job (slot_at t h).moved (view_taken t h 0 w.range w.state))

    release_shown : (h : ℕ) → Shown (release_of t (length m) h).table m (note_release h (release_of t (length m) h) log)
    unfolding release_of changed note_release
    release_shown h =
        by_fault (λ (a : Changed). Shown a.table m (cond (eqb a.status 0) (machine.edit h (machine.ended machine.released) log) log))
        (call_fault t (length m) h 3) accepted (λ z. rw (ne_eqb (call_fault t (length m) h 3).status 0 z) r)
      where
        accepted : (call_fault t (length m) h 3).status ≡ 0 → Shown (with_slot t h free_slot) m (machine.edit h (machine.ended machine.released) log)
        accepted z =
            let w = called t (length m) h 3 z in
            rw (view_with t h free_slot w.range) (machine.release r h (slot_at t h).job (slot_at t h).moved (view_taken t h 2 w.range w.state))

    step_shown : (h b : ℕ) → Shown (step_of t (length m) h b).table (step_memory t h b m) (note_step h (step_of t (length m) h b) log)
    unfolding step_of step_memory note_step
    step_shown h b =
        by_fault₂ (λ (a : Stepped) (n : List ℕ). Shown a.table n (cond (eqb a.status 0) (machine.edit h (machine.reporting a.count) log) log))
        (call_fault t (length m) h 2) (accepted (slot_at t h) refl) (λ z. rw (ne_eqb (call_fault t (length m) h 2).status 0 z) r)
      where
        accepted : (s : Slot) → slot_at t h ≡ s → (call_fault t (length m) h 2).status ≡ 0
            → Shown (with_slot t h (later s (step_count s b))) (advanced_by s.job s.moved (step_count s b) m) (machine.edit h (machine.reporting (step_count s b)) log)
        accepted s e z =
            let w = called t (length m) h 2 z in
            rw (view_with t h (later s (step_count s b)) w.range, later_view s (step_count s b), ← applied_advanced s.job s.moved (step_count s b) m)
            (machine.step r h s.job s.moved (rw e at (view_taken t h 1 w.range w.state)) b (step_count s b) refl)

  fresh_shown : (n : ℕ) → Shown (fresh_of n).table m₀ []
  fresh_shown n = elim (dec_lt limit n) [
    | yes h ↦ rw (← fresh-17 n h) (machine.fresh (all_free_lem 0))
    | no h ↦ rw (← fresh-0 n (omega arith)) (machine.fresh (all_free_lem n))
  ]
    where
      all_free_lem : (n h : ℕ) → get_or (view (fresh_table n)) h machine.free ≡ machine.free
      all_free_lem n zero = refl
      all_free_lem n (suc zero) = refl
      all_free_lem n (suc (suc zero)) = refl
      all_free_lem n (suc (suc (suc zero))) = refl
      all_free_lem n (suc (suc (suc (suc h)))) = refl

  shown : {t : Table} {m : List ℕ} {log : Log} → History m₀ t m log → Shown t m log
  shown (made n e) = rw e (fresh_shown n)
  shown (prepared {t = t} {m = m} {log = log} s j e) = rw e (prepare_shown t m log (shown s) j)
  shown (started {t = t} {m = m} {log = log} s h e) = rw e (start_shown t m log (shown s) h)
  shown (stepped {t = t} {m = m} {log = log} s h b e f) = rw (e, f) (step_shown t m log (shown s) h b)
  shown (freed {t = t} {m = m} {log = log} s h e) = rw e (release_shown t m log (shown s) h)

-- ---- a list of calls is a history of calls

history_after : (m₀ : List ℕ) (c : Call) (w : World) → History m₀ w.table w.memory w.log
    → History m₀ (after c w).table (after c w).memory (after c w).log
unfolding after
history_after m₀ (prepare j) w s = prepared s j refl
history_after m₀ (start h) w s = started s h refl
history_after m₀ (step h b) w s = stepped s h b refl refl
history_after m₀ (release h) w s = freed s h refl
history_after m₀ (poll h) w s = s

history_run : (m₀ : List ℕ) (cs : List Call) (w : World) → History m₀ w.table w.memory w.log
    → History m₀ (run cs w).table (run cs w).memory (run cs w).log
unfolding run
history_run m₀ [] w s = s
history_run m₀ (c ∷ cs) w s = history_run m₀ cs (after c w) (history_after m₀ c w s)

pub listed : (n : ℕ) (m₀ : List ℕ) (cs : List Call)
    → History m₀ (run cs (fresh_world n m₀)).table (run cs (fresh_world n m₀)).memory (run cs (fresh_world n m₀)).log
unfolding fresh_world
listed n m₀ cs = history_run m₀ cs (fresh_world n m₀) (made n refl)

-- ---- the theorems

pub demand_3 : ForHistories
demand_3 m₀ t m log s =
    let r = shown m₀ s in
    let p = serial.passed the_mover lawful m₀ (view t) m log r in
    let w = serial.midway the_mover lawful m₀ (view t) m log r in
    record {
      serial = serial.serial the_mover lawful m₀ (view t) m log r;
      passed = p.1;
      moves = whole_moves.each m₀ log p.1;
      long = p.0;
      finished = λ q. serial.settled the_mover lawful m₀ (view t) m log r (quiet_view t q);
      midway = w;
      in_place = in_place_each m log w;
    }

pub demand_3_run : ForRuns
demand_3_run n m₀ cs = demand_3 m₀ _ _ _ (listed n m₀ cs)
