-- The table as the crate serial sees it. Assumes nothing.
use mathlib.Core.Path.{◌≡◌, refl, sym, ◌∙◌, subst}
use mathlib.Core.Logic.{◌⊎◌, ⊎_elim}
use Prim.Native.Nat.{ℕ, zero, suc, ◌+◌, ◌<◌}
use native.Mathlib.Omega.{arith}
use native.Mathlib.Decide.{dec_lt}
use mathlib.Core.Bool.{Bool, true, false, not, cond}
use mathlib.Core.List.{List}
use lib.Dec.{eqb, ltb, eqb-suc-zero}
use lib.ListN.{get_or, set, get_or-eq_default}
use Rattle.faults.specs.Faults.{when, ◌or_else◌, if_fault}
use Rattle.plane.specs.Arrays.{array}
use Rattle.mover.specs.declared.Job.{Job}
use Rattle.mover.specs.Within.{total_of}
use Rattle.serial.specs.Machine.{Stage, prepared, running, done, free, taken, stage_after}
use Rattle.serial.specs.Machine as machine
use Rattle.serial.specs.Claims.{Settled}
use Rattle.serial.proofs.Tied.{free_taken}
use Rattle.transfers.specs.declared.Slot.{Slot}
use Rattle.transfers.specs.declared.Table.{Table}
use Rattle.transfers.specs.declared.Poll.{Poll}
use Rattle.transfers.specs.declared.Poll.TheVariants as says
use Rattle.transfers.specs.Slots.{slot_at, with_slot, table_sound}
use Rattle.transfers.specs.Calls.{later, left, poll_slot, poll_fault, poll_of}
use Rattle.transfers.specs.Demand3.{the_mover}

abbrev pub stage_of : ℕ → Stage
stage_of n = cond (eqb n 1) prepared (cond (eqb n 2) running done)

abbrev pub view_slot : Slot → machine.Slot Job
view_slot s = cond (eqb s.state 0) free (taken (stage_of s.state) s.job s.moved)

abbrev pub view : Table → List (machine.Slot Job)
view t = array (λ i. view_slot (slot_at t i))

pub view_at : (t : Table) (h : ℕ) → h < 4 → get_or (view t) h free ≡ view_slot (slot_at t h)
view_at t zero b = refl
view_at t (suc zero) b = refl
view_at t (suc (suc zero)) b = refl
view_at t (suc (suc (suc zero))) b = refl
view_at t (suc (suc (suc (suc h)))) b = absurd (omega arith)

pub view_with : (t : Table) (h : ℕ) (s : Slot) → h < 4 → view (with_slot t h s) ≡ set (view t) h (view_slot s)
unfolding with_slot
view_with t zero s b = refl
view_with t (suc zero) s b = refl
view_with t (suc (suc zero)) s b = refl
view_with t (suc (suc (suc zero))) s b = refl
view_with t (suc (suc (suc (suc h)))) s b = absurd (omega arith)

pub view_free : (t : Table) (h : ℕ) → h < 4 → (slot_at t h).state ≡ 0 → get_or (view t) h free ≡ free
view_free t h b e = view_at t h b ∙ simp e

-- a slot in state g + 1
pub view_taken : (t : Table) (h g : ℕ) → h < 4 → (slot_at t h).state ≡ suc g
    → get_or (view t) h free ≡ taken (stage_of (suc g)) (slot_at t h).job (slot_at t h).moved
view_taken t h g b e = view_at t h b ∙ rw (e, eqb-suc-zero g)

-- a slot that is not free is one of the four, and the view shows its job
pub shown_job : (t : Table) (h : ℕ) (st : Stage) (i : Job) (c : ℕ) → get_or (view t) h free ≡ taken st i c
    → (h < 4) × (i ≡ (slot_at t h).job)
shown_job t h st i c q = by_place (dec_lt h 4)
  where
    by_test : (b : Bool) → cond b free (taken (stage_of (slot_at t h).state) (slot_at t h).job (slot_at t h).moved) ≡ taken st i c
        → i ≡ (slot_at t h).job
    by_test true e = absurd (free_taken refl e)
    by_test false e = cc

    by_place : Dec (h < 4) → (h < 4) × (i ≡ (slot_at t h).job)
    by_place (yes b) = (b, by_test (eqb (slot_at t h).state 0) (sym (view_at t h b) ∙ q))
    by_place (no b) = absurd (free_taken (get_or-eq_default (view t) free {n = h} (omega arith)) q)

-- the slot after a step, as the view shows it
pub later_view : (s : Slot) (k : ℕ) → view_slot (later s k) ≡ taken (stage_after the_mover s.job (s.moved + k)) s.job (s.moved + k)
unfolding later stage_after
later_view s k = by_test (eqb (s.moved + k) (total_of s.job))
  where
    by_test : (b : Bool)
        → view_slot (record { state = cond b 3 2; job = s.job; moved = s.moved + k })
        ≡ taken (cond b done running) s.job (s.moved + k)
    by_test true = refl
    by_test false = refl

-- ---- a poll that says free or done

abbrev Quiet : Poll → Type 0
Quiet says.Free = Unit {0}
Quiet (says.Prepared k) = ⊥
Quiet (says.Running k) = ⊥
Quiet says.Done = Unit {0}
Quiet (says.Refused n) = ⊥

quiet_poll : (p : Poll) → (p ≡ says.Free) ⊎ (p ≡ says.Done) → Quiet p
quiet_poll p = ⊎_elim (λ e. subst Quiet (sym e) tt) (λ e. subst Quiet (sym e) tt)

quiet_slot : (t : Table) (h : ℕ) → Quiet (poll_of t h) → Settled the_mover (view_slot (slot_at t h))
unfolding poll_of poll_fault poll_slot when ◌or_else◌
quiet_slot t h = by_tests (table_sound t) (ltb 3 h) (eqb (slot_at t h).state 0) (eqb (slot_at t h).state 1) (eqb (slot_at t h).state 2)
  where
    by_tests : (a b c d e : Bool)
        → Quiet (let f = (when 18 0 (not a) or_else when 23 0 b) in if_fault f (says.Refused f.status) (cond c says.Free (cond d (says.Prepared (left (slot_at t h))) (cond e (says.Running (left (slot_at t h))) says.Done))))
        → Settled the_mover
        (cond c free (taken (cond d prepared (cond e running done)) (slot_at t h).job (slot_at t h).moved))
    by_tests a b true d e q = tt
    by_tests true true false d e q = absurd q
    by_tests true false false true e q = absurd q
    by_tests true false false false true q = absurd q
    by_tests true false false false false q = tt
    by_tests false b false d e q = absurd q

pub quiet_view : (t : Table) → ((h : ℕ) → h < 4 → (poll_of t h ≡ says.Free) ⊎ (poll_of t h ≡ says.Done)) → (h : ℕ) → Settled the_mover (get_or (view t) h free)
quiet_view t q h = elim (dec_lt h 4) [
  | yes b ↦ subst (Settled the_mover) (sym (view_at t h b)) (quiet_slot t h (quiet_poll (poll_of t h) (q h b)))
  | no b ↦ subst (Settled the_mover) (sym (get_or-eq_default (view t) free {n = h} (omega arith))) tt
]
