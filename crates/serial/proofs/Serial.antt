-- The theorems, for every lawful mover: whatever accepted calls lead to, the serial sentence and the midway sentence hold of it.
-- Assumes nothing.
use mathlib.Core.Path.{◌≡◌, refl}
use Prim.Native.Nat.{ℕ, ◌+◌, ◌≤◌}
use native.Mathlib.Omega.{arith}
use mathlib.Core.Bool.{Bool, true, false, cond}
use mathlib.Core.List.{List}
use lib.Dec.{eqb}
use borrow.Author.Tests.{eqb-true}
use Rattle.serial.specs.Machine.{Mover, prepared, running, done, Slot, released, Entry, stage_after, Reached, fresh, prepare, start, step, release}
use Rattle.serial.specs.Claims.{Lawful, PassedClaim, SerialClaim, MidwayClaim, SettledClaim, OfLawful}
use Rattle.serial.proofs.Tied.{Stands}
use Rattle.serial.proofs.Holds.{Holds, at_first, accept, behind_slot, restage, advance, free_slot_lem, passed_of, serial_of, midway_of, settled_of}

-- the stage after a step is right
stage_stands : (M : Mover) (j : M.Job) (c : ℕ) → c ≤ M.total j → Stands M (stage_after M j c) j c
unfolding stage_after
stage_stands M j c most = by_test (eqb c (M.total j)) refl
  where
    by_test : (b : Bool) → eqb c (M.total j) ≡ b → Stands M (cond b done running) j c
    by_test true e = eqb-true c (M.total j) e
    by_test false e = most

module _ (M : Mover) (L : Lawful M) (m₀ : List ℕ) where
  holds : {ss : List (Slot M.Job)} {m : List ℕ} {log : List (Entry M.Job)} → Reached M m₀ ss m log → Holds M L m₀ ss m log
  holds (fresh {ss = ss} all) = at_first M L m₀ ss all
  holds (prepare {ss = ss} {m = m} {log = log} r h room q j passed clear) =
      accept M L m₀ ss m log (holds r) h room q j passed clear
  holds (start {ss = ss} {m = m} {log = log} r h j n q) =
      restage M L m₀ ss m log (holds r) h prepared j n q running (behind_slot M L m₀ ss m log (holds r) h prepared j n q).stands
  holds (step {ss = ss} {m = m} {log = log} r h j n q b k e) =
      let most : n ≤ M.total j = (behind_slot M L m₀ ss m log (holds r) h running j n q).stands in
      advance M L m₀ ss m log (holds r) h running j n q k (stage_after M j (n + k)) (stage_stands M j (n + k) (omega arith))
  holds (release {ss = ss} {m = m} {log = log} r h j n q) =
      free_slot_lem M L m₀ ss m log (holds r) h done j n q released refl (behind_slot M L m₀ ss m log (holds r) h done j n q).stands

-- ---- the theorems

pub passed : OfLawful PassedClaim
passed M L m₀ ss m log r = passed_of M L m₀ ss m log (holds M L m₀ r)

pub serial : OfLawful SerialClaim
serial M L m₀ ss m log r = serial_of M L m₀ ss m log (holds M L m₀ r)

pub midway : OfLawful MidwayClaim
midway M L m₀ ss m log r = midway_of M L m₀ ss m log (holds M L m₀ r)

pub settled : OfLawful SettledClaim
settled M L m₀ ss m log r = settled_of M L m₀ ss m log (holds M L m₀ r)
