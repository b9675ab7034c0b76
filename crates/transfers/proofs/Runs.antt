-- Calls that start with a fresh table: every table that comes of them is sound, so over memories of its length neither 17 nor 18 is
-- ever given. Assumes nothing.
use Prim.Native.Nat.{ℕ, ◌≤◌}
use native.Mathlib.Omega.{arith}
use mathlib.Core.Path.{◌≡◌, refl, sym, ap, subst, ◌∙◌}
use mathlib.Core.Logic.{inl, inr}
use mathlib.Core.Bool.{true, false, not, true≢false}
use mathlib.Core.List.{List, [], ◌∷◌}
use borrow.Author.Tests.{eq-eqb}
use lib.Dec.{ltb}
use lib.ListN.{length}
use Rattle.faults.specs.Faults.{Rules, overall, ◌then◌}
use Rattle.faults.specs.Exactness.{Given, Exact}
use Rattle.faults.proofs.Chains.{has, never_given}
use Rattle.transfers.specs.declared.Table.{Table}
use Rattle.transfers.specs.Slots.{table_sound, limit}
use Rattle.transfers.specs.Calls.{open_rules, poll_rules, poll_of, poll_status}
use Rattle.transfers.specs.Demand3.{Log, History, made, prepared, started, stepped, freed, Call, prepare, start, step, release, poll, World, fresh_world, after, run}
use Rattle.transfers.specs.Sound.{SoundFor, Handed, by_fresh, by_prepare, by_start, by_step, by_release, Neither17Nor18, NeverClosed, AlwaysOpen}
use Rattle.transfers.proofs.Answers.{fresh-0}
use Rattle.transfers.proofs.Keeps.{free_table, fresh_keeps, prepare_keeps, start_keeps, step_keeps, release_keeps}
use Rattle.transfers.proofs.Exact.{prepare_exact, start_exact, step_exact, release_exact, poll_exact}
use Rattle.transfers.proofs.Demand3.{listed, demand_3}

onward : {m n : ℕ} {u : Table} → m ≡ n → SoundFor m u → SoundFor n u
onward {u = u} e k = subst (λ (m : ℕ). SoundFor m u) e k

handed_sound : {n : ℕ} {t : Table} → Handed n t → SoundFor n t
handed_sound {n} (by_fresh h) = record { sound = free_table n h; long = refl }
handed_sound (by_prepare {t} r m j) = let k = handed_sound r in onward k.long (prepare_keeps t k.sound m j)
handed_sound (by_start {t} r m h) = let k = handed_sound r in onward k.long (start_keeps t k.sound m h)
handed_sound (by_step {t} r m h budget) = let k = handed_sound r in onward k.long (step_keeps t k.sound m h budget)
handed_sound (by_release {t} r m h) = let k = handed_sound r in onward k.long (release_keeps t k.sound m h)

-- ---- numbers that are not given

module _ (t : Table) (n : ℕ) (k : SoundFor n t) (rest : Rules) (a : has 17 rest ≡ false) (b : has 18 rest ≡ false) where
  never_17 : (d : ℕ) → Given (open_rules t n then rest) 17 d → ⊥
  never_17 d (inl (inl g)) = true≢false (sym g.1 ∙ ap not (eq-eqb n t.length (sym k.long)))
  never_17 d (inl (inr g)) = omega (arith, g.1.0)
  never_17 d (inr g) = never_given rest 17 d a g.1

  never_18 : (d : ℕ) → Given (open_rules t n then rest) 18 d → ⊥
  never_18 d (inl (inl g)) = omega (arith, g.0)
  never_18 d (inl (inr g)) = true≢false (sym g.1.1 ∙ ap not k.sound)
  never_18 d (inr g) = never_given rest 18 d b g.1

  neither : {number dim : ℕ} → Exact (open_rules t n then rest) number dim → Neither17Nor18 number
  neither {number} {dim} e = record {
    not_17 = λ z. never_17 dim ((e.gives 17 dim (omega arith)).0 (z, refl));
    not_18 = λ z. never_18 dim ((e.gives 18 dim (omega arith)).0 (z, refl));
  }

-- a poll knows no 17
poll_neither : (t : Table) (h : ℕ) → table_sound t ≡ true → Neither17Nor18 (poll_status (poll_of t h))
poll_neither t h p = record {
  not_17 = λ z. never_given (poll_rules t h) 17 0 refl (((poll_exact t h).gives 17 0 (omega arith)).0 (z, refl));
  not_18 = λ z. elim (((poll_exact t h).gives 18 0 (omega arith)).0 (z, refl)) [
    | inl x ↦ true≢false (sym x.1 ∙ ap not p)
    | inr x ↦ never_given (overall 23 (ltb 3 h)) 18 0 refl x.1
  ];
}

sound_open : (t : Table) (n : ℕ) → SoundFor n t → NeverClosed t n
sound_open t n k = record {
  prepare = λ j. neither t n k _ refl refl (prepare_exact t n j);
  start = λ h. neither t n k _ refl refl (start_exact t n h);
  step = λ h budget. neither t n k _ refl refl (step_exact t h budget n);
  release = λ h. neither t n k _ refl refl (release_exact t n h);
  poll = λ h. poll_neither t h k.sound;
}

-- ---- a list of calls

after_sound : (c : Call) (w : World) → table_sound w.table ≡ true → SoundFor w.table.length (after c w).table
unfolding after
after_sound (prepare j) w p = prepare_keeps w.table p (length w.memory) j
after_sound (start h) w p = start_keeps w.table p (length w.memory) h
after_sound (step h b) w p = step_keeps w.table p (length w.memory) h b
after_sound (release h) w p = release_keeps w.table p (length w.memory) h
after_sound (poll h) w p = record { sound = p; long = refl }

run_sound : (cs : List Call) (w : World) → table_sound w.table ≡ true → SoundFor w.table.length (run cs w).table
unfolding run
run_sound [] w p = record { sound = p; long = refl }
run_sound (c ∷ cs) w p = let k = after_sound c w p in onward k.long (run_sound cs (after c w) k.sound)

fresh_world_sound : (n : ℕ) (m : List ℕ) → n ≤ limit → SoundFor n (fresh_world n m).table
unfolding fresh_world
fresh_world_sound n m h = rw (← fresh-0 n h) (record { sound = free_table n h; long = refl })

-- ---- the histories of demand 3

history_sound : {m₀ : List ℕ} {t : Table} {m : List ℕ} {log : Log} → History m₀ t m log → table_sound t ≡ true
history_sound (made n e) = rw e (fresh_keeps n)
history_sound (prepared {t = t} {m = m} s j e) = rw e (prepare_keeps t (history_sound s) (length m) j).sound
history_sound (started {t = t} {m = m} s h e) = rw e (start_keeps t (history_sound s) (length m) h).sound
history_sound (stepped {t = t} {m = m} s h b e f) = rw e (step_keeps t (history_sound s) (length m) h b).sound
history_sound (freed {t = t} {m = m} s h e) = rw e (release_keeps t (history_sound s) (length m) h).sound

history_open : {m₀ : List ℕ} {t : Table} {m : List ℕ} {log : Log} → History m₀ t m log → t.length ≡ length m₀ → NeverClosed t (length m)
history_open {m₀} {t} {m} {log} s own =
    sound_open t (length m) (record { sound = history_sound s; long = own ∙ sym (demand_3 m₀ t m log s).long })

listed_open : (m₀ : List ℕ) (cs : List Call) → length m₀ ≤ limit
    → NeverClosed (run cs (fresh_world (length m₀) m₀)).table (length (run cs (fresh_world (length m₀) m₀)).memory)
listed_open m₀ cs h =
    let b = fresh_world_sound (length m₀) m₀ h in
    history_open (listed (length m₀) m₀ cs) ((run_sound cs (fresh_world (length m₀) m₀) b.sound).long ∙ b.long)

-- ---- the theorem

pub always_open : AlwaysOpen
always_open = record {
  handed_sound = λ n t r. handed_sound r;
  handed_open = λ n t r. sound_open t n (handed_sound r);
  history_sound = λ m₀ t m log s. history_sound s;
  history_open = λ m₀ t m log s own. history_open s own;
  listed_open = listed_open;
}
