-- What a poll tells, in the paper's numbers: the slot's state, what is left of a prepared or running transfer, and zeros besides a
-- refusal. Assumes nothing.
use Prim.Native.Nat.{ℕ, ◌<◌}
use native.Mathlib.Decide.{ℕ_discrete}
use native.Mathlib.Omega.{arith}
use mathlib.Core.Path.{◌≡◌, refl, sym, ap, ◌∙◌}
use mathlib.Core.Bool.{true, true≢false}
use Rattle.transfers.specs.declared.Table.{Table}
use Rattle.transfers.specs.declared.Poll.{Poll}
use Rattle.transfers.specs.Slots.{slot_at, table_sound}
use Rattle.transfers.specs.Calls.{poll_numbers}
use Rattle.transfers.specs.Claims.{Polled, EveryPoll}
use Rattle.transfers.proofs.Sounds.{busy, right_none, sound_tells}
use Rattle.transfers.proofs.Steps.{poll_18, poll_23, poll_free, poll_prepared, poll_running, poll_done}

-- the numbers of an answer are those of a poll that gives it
said : {p q : Poll} → p ≡ q → poll_numbers q ≡ poll_numbers p
said e = ap poll_numbers (sym e)

module _ (t : Table) (h : ℕ) where
  -- a slot that is not free is prepared, running or done
  states : table_sound t ≡ true → h < 4 → (slot_at t h).state < 4
  states z l = elim (ℕ_discrete (slot_at t h).state 0) [
    | yes e ↦ omega arith
    | no a ↦ elim (ℕ_discrete (slot_at t h).state 1) [
      | yes e ↦ omega arith
      | no b ↦ elim (ℕ_discrete (slot_at t h).state 2) [
        | yes e ↦ omega arith
        | no c ↦ elim (ℕ_discrete (slot_at t h).state 3) [
          | yes e ↦ omega arith
          | no d ↦ absurd (true≢false (sym (busy _ _ a ((sound_tells t z).each h l)).right ∙ sym (right_none _ _ _ b c d)))
        ]
      ]
    ]
  ]

  told : Polled t h
  told = record {
    unsound = λ e. said (poll_18 t h e);
    no_slot = λ z l. said (poll_23 t h z l);
    free = λ z l e. said (poll_free t h z (omega arith) refl e);
    prepared = λ z l e. said (poll_prepared t h z (omega arith) refl refl e);
    running = λ z l e. said (poll_running t h z (omega arith) refl refl e);
    done = λ z l e. said (poll_done t h z (omega arith) refl (λ x. omega arith) (λ x. omega arith) (λ x. omega arith));
    known = states;
  }

pub polls : EveryPoll
polls = told
