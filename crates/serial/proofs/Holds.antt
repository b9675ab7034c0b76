-- What holds of slots, memory and log, and that each accepted call keeps it. Assumes nothing.
use mathlib.Core.Path.{◌≡◌, refl, sym, ap, ap₂, ◌∙◌, subst, subst₂}
use Prim.Native.Nat.{ℕ, ◌+◌, ◌<◌}
use native.Mathlib.Omega.{arith}
use native.Mathlib.Decide.{dec_lt, ℕ_discrete}
use mathlib.Core.Bool.{false}
use mathlib.Core.List.{List, [], ◌∷◌}
use lib.ListN.{length, get_or, set, get_or-eq_default}
use lib.Seq.{get_or-set_other}
use Rattle.serial.specs.Machine.{Mover, Stage, prepared, running, done, Slot, free, taken, Life, is_held, Entry, entered, reporting, ended, edit, applied, whole_move, Clear}
use Rattle.serial.specs.Claims.{Lawful, Every, EveryHeld, Finished, Midway, Settled, one_by_one}
use Rattle.serial.proofs.Applied.{Fits, length_applied, applied_none, applied_whole}
use Rattle.serial.proofs.Tied.{freed, free_taken, held_not, every_edit, history, history_edit, edit_same, Stands, most_of, Good, none, in_slot, gone, Behind, behind, good_accept, Next, stays, ends, good_edit, length_history, history_step, Placed, placed_step}

-- a finished entry's elements are a whole move
finished_one : (M : Mover) (L : Lawful M) (n : ℕ) (j : M.Job) → Fits M n j → (c : ℕ) (m : List ℕ) → length m ≡ n
    → c ≡ M.total j → applied M j 0 c m ≡ whole_move M j m
finished_one M L n j f c m long fin = ap (λ (a : ℕ). applied M j 0 a m) fin ∙ applied_whole M L n j f m long

-- whole moves one after another, where every transfer has finished
finished_history : (M : Mover) (L : Lawful M) (n : ℕ) (m₀ : List ℕ) → length m₀ ≡ n
    → {ss : List (Slot M.Job)} {log : List (Entry M.Job)} → Good M n ss log
    → Every (Finished M) log → history M m₀ log ≡ one_by_one M m₀ log
unfolding history one_by_one
finished_history M L n m₀ long (none all) fin = refl
finished_history M L n m₀ long (in_slot {e = e} {older = older} st l f cl at sd g) fin =
    finished_one M L n e.job f e.reported (history M m₀ older) (length_history M L n m₀ long g) fin.0
    ∙ ap (whole_move M e.job) (finished_history M L n m₀ long g fin.1)
finished_history M L n m₀ long (gone {e = e} {older = older} l f cl fin' g) fin =
    finished_one M L n e.job f e.reported (history M m₀ older) (length_history M L n m₀ long g) fin.0
    ∙ ap (whole_move M e.job) (finished_history M L n m₀ long g fin.1)

settled_finished : (M : Mover) (n : ℕ) {ss : List (Slot M.Job)} {log : List (Entry M.Job)} → Good M n ss log
    → ((h : ℕ) → Settled M (get_or ss h free)) → Every (Finished M) log
settled_finished M n (none all) done_all = tt
settled_finished M n {ss} (in_slot {e = e} {older = older} st l f cl at sd g) done_all =
    (done_one st sd (subst (Settled M) at (done_all e.handle)), settled_finished M n g (λ h. go h (ℕ_discrete h e.handle)))
  where
    done_one : (st : Stage) → Stands M st e.job e.reported → Settled M (taken st e.job e.reported) → Finished M e
    done_one prepared sd s = absurd s
    done_one running sd s = absurd s
    done_one done sd s = sd

    go : (h : ℕ) → Dec (h ≡ e.handle) → Settled M (get_or (set ss e.handle free) h free)
    go h (yes r) = subst (Settled M) (sym (ap (λ (a : ℕ). get_or (set ss e.handle free) a free) r ∙ freed ss e.handle)) tt
    go h (no r) = subst (Settled M) (sym (get_or-set_other ss e.handle h free free r)) (done_all h)
settled_finished M n (gone l f cl fin g) done_all = (fin, settled_finished M n g done_all)

passed_each : (M : Mover) (n : ℕ) {ss : List (Slot M.Job)} {log : List (Entry M.Job)} → Good M n ss log → Every (λ e. Fits M n e.job) log
passed_each M n (none all) = tt
passed_each M n (in_slot st l f cl at sd g) = (f, passed_each M n g)
passed_each M n (gone l f cl fin g) = (f, passed_each M n g)

-- a held entry, midway
midway_each : (M : Mover) (L : Lawful M) (n : ℕ) (m : List ℕ) → length m ≡ n → {ss : List (Slot M.Job)} {log : List (Entry M.Job)} → Good M n ss log
    → EveryHeld (Placed M L n m) log → EveryHeld (Midway M m) log
midway_each M L n m long (none all) ps = tt
midway_each M L n m long (in_slot {e = e} st l f cl at sd g) ps = (
  (λ x.
      record {
        long = long ∙ sym (ps.0 x).long;
        passed = subst (λ (a : ℕ). M.verdict a e.job ≡ 0) (sym long) f;
        most = most_of M st e.job e.reported sd;
        source = (ps.0 x).source;
        destination = (ps.0 x).destination;
      }),
  midway_each M L n m long g ps.1,
)
midway_each M L n m long (gone {e = e} l f cl fin g) ps = ((λ x. absurd (held_not e.life x l)), midway_each M L n m long g ps.1)

module _ (M : Mover) (L : Lawful M) (m₀ : List ℕ) where
  pub record Holds (ss : List (Slot M.Job)) (m : List ℕ) (log : List (Entry M.Job)) : Type 0 where
    pub long : length m ≡ length m₀
    pub good : Good M (length m₀) ss log
    pub as_logged : m ≡ history M m₀ log
    pub placed : EveryHeld (Placed M L (length m₀) m) log

  pub at_first : (ss : List (Slot M.Job)) → ((h : ℕ) → get_or ss h free ≡ free) → Holds ss m₀ []
  unfolding history
  at_first ss all_free_lem = record { long = refl; good = none all_free_lem; as_logged = refl; placed = tt }

  module _ (ss : List (Slot M.Job)) (m : List ℕ) (log : List (Entry M.Job)) (i : Holds ss m log) where
    -- a job that passes is accepted in the free slot h
    pub accept : (h : ℕ) → h < length ss → get_or ss h free ≡ free → (j : M.Job) → Fits M (length m) j
        → ((h : ℕ) (st : Stage) (o : M.Job) (c : ℕ) → get_or ss h free ≡ taken st o c → Clear M j o)
        → Holds (set ss h (taken prepared j 0)) m (entered h j m ∷ log)
    unfolding history
    accept h room q j fit clr =
        let fits : Fits M (length m₀) j = subst (λ (a : ℕ). Fits M a j) i.long fit in
        record {
          long = i.long;
          good = good_accept M (length m₀) i.good h room q j fits clr m;
          as_logged =
              i.as_logged
              ∙ sym (applied_none M L (length m₀) j fits (history M m₀ log) (length_history M L (length m₀) m₀ refl i.good) 0);
          placed = ((λ x. record { long = i.long; source = refl; destination = sym (L.none j 0 _ _) }), i.placed);
        }

    -- slot h is not free
    module _ (h : ℕ) (st : Stage) (j : M.Job) (c : ℕ) (q : get_or ss h free ≡ taken st j c) where
      in_table : h < length ss
      in_table = go (dec_lt h (length ss))
        where
          go : Dec (h < length ss) → h < length ss
          go (yes a) = a
          go (no a) = absurd (free_taken (get_or-eq_default ss free (omega arith)) q)

      pub behind_slot : Behind M (length m₀) (Placed M L (length m₀) m) st j c
      behind_slot = behind M (length m₀) (Placed M L (length m₀) m) h st j c i.good i.placed q

      -- the stage alone changes
      pub restage : (st' : Stage) → Stands M st' j c → Holds (set ss h (taken st' j c)) m log
      restage st' sd =
          record {
            long = i.long;
            good =
                subst (Good M (length m₀) (set ss h (taken st' j c))) (edit_same h log)
                (good_edit M (length m₀) h st j c (taken st' j c) (λ e. e) (λ e. refl) (λ e. refl)
                (λ e l pj pc. subst (Next M e) (ap₂ (taken st') pj pc) (stays st' l (subst₂ (Stands M st') (sym pj) (sym pc) sd))) i.good in_table q);
            as_logged = i.as_logged;
            placed = i.placed;
          }

      -- k elements more are moved
      pub advance : (k : ℕ) (st' : Stage) → Stands M st' j (c + k)
          → Holds (set ss h (taken st' j (c + k))) (applied M j c k m) (edit h (reporting k) log)
      unfolding reporting
      advance k st' sd =
          record {
            long = length_applied M L (length m₀) j behind_slot.fits m i.long c k;
            good =
                good_edit M (length m₀) h st j c (taken st' j (c + k)) (reporting k) (λ e. refl) (λ e. refl)
                (λ e l pj pc. subst (Next M (reporting k e)) (ap₂ (λ (x : M.Job) (y : ℕ). taken st' x (y + k)) pj pc)
                (stays st' l (subst₂ (λ (x : M.Job) (y : ℕ). Stands M st' x (y + k)) (sym pj) (sym pc) sd))) i.good in_table q;
            as_logged = ap (applied M j c k) i.as_logged ∙ history_step M L (length m₀) m₀ refl h st j c k i.good q;
            placed = placed_step M L (length m₀) m i.long h st j c k i.good q i.placed;
          }

      -- the slot is freed; the job's elements are all moved
      pub free_slot_lem : (x : Life) → is_held x ≡ false → c ≡ M.total j → Holds (set ss h free) m (edit h (ended x) log)
      unfolding ended
      free_slot_lem x off fin =
          record {
            long = i.long;
            good =
                good_edit M (length m₀) h st j c free (ended x) (λ e. refl) (λ e. refl)
                (λ e l pj pc. ends off (pc ∙ fin ∙ ap M.total (sym pj))) i.good in_table q;
            as_logged = i.as_logged ∙ sym (history_edit M h (ended x) (λ e. refl) (λ e. refl) m₀ log);
            placed =
                every_edit h (ended x) (Placed M L (length m₀) m) (λ e l p y. record { long = p.long; source = p.source; destination = p.destination }) log i.placed;
          }

    -- ---- what it comes to

    pub passed_of : (length m ≡ length m₀) × Every (λ e. Fits M (length m₀) e.job) log
    passed_of = (i.long, passed_each M (length m₀) i.good)

    pub serial_of : Every (Finished M) log → m ≡ one_by_one M m₀ log
    serial_of fin = i.as_logged ∙ finished_history M L (length m₀) m₀ refl i.good fin

    pub midway_of : EveryHeld (Midway M m) log
    midway_of = midway_each M L (length m₀) m i.long i.good i.placed

    pub settled_of : ((h : ℕ) → Settled M (get_or ss h free)) → Every (Finished M) log
    settled_of settled = settled_finished M (length m₀) i.good settled
