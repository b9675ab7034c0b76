-- The log and the slots go together: each held entry stands in its slot, and each slot that is not free has a held entry.
-- Each held job keeps clear of every job accepted after it. Assumes nothing.
use mathlib.Core.Path.{◌≡◌, refl, sym, ap, ap₂, ◌∙◌, subst, subst₃}
use Prim.Native.Nat.{ℕ, zero, suc, ◌≤◌, ◌<◌}
use native.Mathlib.Omega.{arith}
use native.Mathlib.Decide.{ℕ_discrete}
use mathlib.Core.Bool.{Bool, true, false, cond, ◌&&◌}
use mathlib.Core.List.{List, [], ◌∷◌}
use lib.Dec.{eqb}
use lib.ListN.{length, get_or, set, length-set}
use lib.Seq.{get_or-set_same, get_or-set_other, set-set, set_comm, set-get_or}
use borrow.Author.Tests.{eq-eqb, ne_eqb}
use Rattle.parts.specs.Parts.{bytes_of}
use Rattle.serial.specs.Machine.{Mover, Stage, prepared, running, done, Slot, free, taken, Life, held, released, is_held, Entry, entered, reporting, is_for, edit, applied, Clear}
use Rattle.serial.specs.Claims.{Lawful, EveryHeld, Finished}
use Rattle.serial.proofs.Applied.{Fits, clear_sym, length_applied, source_kept, destination_now, applied_first, more_first, source_other, destination_other, applied_comm}

-- ---- the entry that is changed

module _ {J : Type 0} (h : ℕ) (f : Entry J → Entry J) where
  edit_here : (e : Entry J) (older : List (Entry J)) → e.life ≡ held → e.handle ≡ h → edit h f (e ∷ older) ≡ f e ∷ older
  unfolding edit is_for
  edit_here e older l q =
      ap₂ (λ (x : Life) (b : Bool). cond (is_held x && b) (f e ∷ older) (e ∷ edit h f older)) l (eq-eqb e.handle h q)

  edit_other : (e : Entry J) (older : List (Entry J)) → e.life ≡ held → (e.handle ≡ h → ⊥) → edit h f (e ∷ older) ≡ e ∷ edit h f older
  unfolding edit is_for
  edit_other e older l q =
      ap₂ (λ (x : Life) (b : Bool). cond (is_held x && b) (f e ∷ older) (e ∷ edit h f older)) l (ne_eqb e.handle h q)

  edit_gone : (e : Entry J) (older : List (Entry J)) → is_held e.life ≡ false → edit h f (e ∷ older) ≡ e ∷ edit h f older
  unfolding edit is_for
  edit_gone e older l =
      ap (λ (x : Bool). cond (x && eqb e.handle h) (f e ∷ older) (e ∷ edit h f older)) l

  has_held : (e : Entry J) → is_for h e ≡ true → e.life ≡ held
  unfolding is_for
  has_held e q = go e.life (eqb e.handle h) q
    where
      go : (x : Life) (b : Bool) → is_held x && b ≡ true → x ≡ held
      go held b q = refl
      go released b q = cc

  -- what holds of each held entry holds after the change, if the change keeps it
  pub every_edit : (P : Entry J → Type 0) → ((e : Entry J) → e.life ≡ held → P e → (f e).life ≡ held → P (f e))
      → (log : List (Entry J)) → EveryHeld P log → EveryHeld P (edit h f log)
  unfolding edit
  every_edit P keep [] ps = ps
  every_edit P keep (e ∷ older) ps = go (is_for h e) refl (every_edit P keep older ps.1)
    where
      go : (b : Bool) → is_for h e ≡ b → EveryHeld P (edit h f older) → EveryHeld P (cond b (f e ∷ older) (e ∷ edit h f older))
      go true q rest = ((λ l. keep e (has_held e q) (ps.0 (has_held e q)) l), ps.1)
      go false q rest = (ps.0, rest)

-- the memory that the log stands for: of each accepted job in turn, as many elements as were reported
module _ (M : Mover) where
  unfoldable pub history : List ℕ → List (Entry M.Job) → List ℕ
  history m₀ [] = m₀
  history m₀ (e ∷ older) = applied M e.job 0 e.reported (history m₀ older)

  -- a change that keeps job and count keeps it
  pub history_edit : (h : ℕ) (f : Entry M.Job → Entry M.Job)
      → ((e : Entry M.Job) → (f e).job ≡ e.job) → ((e : Entry M.Job) → (f e).reported ≡ e.reported)
      → (m₀ : List ℕ) (log : List (Entry M.Job)) → history m₀ (edit h f log) ≡ history m₀ log
  unfolding history edit
  history_edit h f pj pc m₀ [] = refl
  history_edit h f pj pc m₀ (e ∷ older) = go (is_for h e) (history_edit h f pj pc m₀ older)
    where
      go : (b : Bool) → history m₀ (edit h f older) ≡ history m₀ older
          → history m₀ (cond b (f e ∷ older) (e ∷ edit h f older)) ≡ applied M e.job 0 e.reported (history m₀ older)
      go true q = ap₂ (λ (j : M.Job) (c : ℕ). applied M j 0 c (history m₀ older)) (pj e) (pc e)
      go false q = ap (applied M e.job 0 e.reported) q

pub edit_same : {J : Type 0} (h : ℕ) (log : List (Entry J)) → edit h (λ e. e) log ≡ log
unfolding edit
edit_same h [] = refl
edit_same {J} h (e ∷ older) = go (is_for h e) (edit_same h older)
  where
    go : (b : Bool) → edit h (λ e. e) older ≡ older → cond b (e ∷ older) (e ∷ edit h (λ e. e) older) ≡ e ∷ older
    go true q = refl
    go false q = ap (λ (l : List (Entry J)). e ∷ l) q

-- ---- slots

pub freed : {J : Type 0} (ss : List (Slot J)) (h : ℕ) → get_or (set ss h free) h free ≡ free
freed [] h = refl
freed (s ∷ ss) zero = refl
freed (s ∷ ss) (suc h) = freed ss h

pub free_taken : {J : Type 0} {s : Slot J} {st : Stage} {j : J} {c : ℕ} → s ≡ free → s ≡ taken st j c → ⊥
free_taken p q = let z : ◌≡◌ {A = ℕ} 0 1 = cc in omega arith

-- ---- log and table together

-- no transfer has moved more than it has to move, and a done one has moved all
abbrev pub Stands : (M : Mover) → Stage → M.Job → ℕ → Type 0
Stands M prepared j c = c ≤ M.total j
Stands M running j c = c ≤ M.total j
Stands M done j c = c ≡ M.total j

pub most_of : (M : Mover) (st : Stage) (j : M.Job) (c : ℕ) → Stands M st j c → c ≤ M.total j
most_of M prepared j c s = s
most_of M running j c s = s
most_of M done j c s = omega arith

-- Good M n slots log. A held entry accounts for its slot, and the older ones for the others: so no two have one handle.
-- An entry's job keeps clear of the older ones that are still held
pub data Good (M : Mover) (n : ℕ) : List (Slot M.Job) → List (Entry M.Job) → Type 0 where
  none : {ss : List (Slot M.Job)} → ((h : ℕ) → get_or ss h free ≡ free) → Good M n ss []
  in_slot : {ss : List (Slot M.Job)} {e : Entry M.Job} {older : List (Entry M.Job)} (st : Stage)
      → e.life ≡ held → Fits M n e.job → EveryHeld (λ i. Clear M e.job i.job) older
      → get_or ss e.handle free ≡ taken st e.job e.reported → Stands M st e.job e.reported
      → Good M n (set ss e.handle free) older → Good M n ss (e ∷ older)
  gone : {ss : List (Slot M.Job)} {e : Entry M.Job} {older : List (Entry M.Job)}
      → is_held e.life ≡ false → Fits M n e.job → EveryHeld (λ i. Clear M e.job i.job) older
      → Finished M e
      → Good M n ss older → Good M n ss (e ∷ older)

-- the held entry behind a slot that is not free
pub record Behind (M : Mover) (n : ℕ) (P : Entry M.Job → Type 0) (st : Stage) (j : M.Job) (c : ℕ) : Type 0 where
  pub entry : Entry M.Job
  pub is_job : entry.job ≡ j
  pub fits : Fits M n j
  pub stands : Stands M st j c
  pub is_for : P entry

module _ (M : Mover) (n : ℕ) (P : Entry M.Job → Type 0) (h : ℕ) (st : Stage) (j : M.Job) (c : ℕ) where
  pub behind : {ss : List (Slot M.Job)} {log : List (Entry M.Job)} → Good M n ss log → EveryHeld P log
      → get_or ss h free ≡ taken st j c → Behind M n P st j c
  behind (none all) ps q = absurd (free_taken (all h) q)
  behind {ss} (in_slot {e = e} {older = older} st' l f cl at sd g) ps q = go (ℕ_discrete e.handle h) (λ a. behind g ps.1 a)
    where
      go : Dec (e.handle ≡ h) → (get_or (set ss e.handle free) h free ≡ taken st j c → Behind M n P st j c) → Behind M n P st j c
      go (yes r) rec =
          let at' : get_or ss h free ≡ taken st' e.job e.reported = subst (λ (a : ℕ). get_or ss a free ≡ taken st' e.job e.reported) r at in
          let pj : e.job ≡ j = cc in
          let pc : e.reported ≡ c = cc in
          let pst : st' ≡ st = cc in
          record {
            entry = e;
            is_job = pj;
            fits = subst (Fits M n) pj f;
            stands = subst₃ (Stands M) pst pj pc sd;
            is_for = ps.0 l;
          }
      go (no r) rec = rec (get_or-set_other ss e.handle h free free (λ a. r (sym a)) ∙ q)
  behind (gone l f cl fin g) ps q = behind g ps.1 q

pub held_not : (x : Life) → x ≡ held → is_held x ≡ false → ⊥
held_not x p q = let r : true ≡ false = sym (ap is_held p) ∙ q in let z : ◌≡◌ {A = ℕ} 0 1 = cc in omega arith

-- an accepted job keeps clear of every held one
every_clear : (M : Mover) (n : ℕ) (j : M.Job) {ss : List (Slot M.Job)} {log : List (Entry M.Job)} → Good M n ss log
    → ((h : ℕ) (st : Stage) (i : M.Job) (c : ℕ) → get_or ss h free ≡ taken st i c → Clear M j i)
    → EveryHeld (λ e. Clear M j e.job) log
every_clear M n j (none all) clr = tt
every_clear M n j {ss} (in_slot {e = e} st l f cl at sd g) clr =
    ((λ x. clr e.handle st e.job e.reported at), every_clear M n j g (λ h' st' i c q. clr h' st' i c (go h' st' i c (ℕ_discrete h' e.handle) q)))
  where
    go : (h' : ℕ) (st' : Stage) (i : M.Job) (c : ℕ) → Dec (h' ≡ e.handle) → get_or (set ss e.handle free) h' free ≡ taken st' i c
        → get_or ss h' free ≡ taken st' i c
    go h' st' i c (yes r) q = absurd (free_taken (freed ss e.handle) (subst (λ (a : ℕ). get_or (set ss e.handle free) a free ≡ taken st' i c) r q))
    go h' st' i c (no r) q = sym (get_or-set_other ss e.handle h' free free r) ∙ q
every_clear M n j (gone {e = e} l f cl fin g) clr = ((λ x. absurd (held_not e.life x l)), every_clear M n j g clr)

-- prepare: the new entry stands in the slot that was free
pub good_accept : (M : Mover) (n : ℕ) {ss : List (Slot M.Job)} {log : List (Entry M.Job)} → Good M n ss log
    → (h : ℕ) → h < length ss → get_or ss h free ≡ free → (j : M.Job) → Fits M n j
    → ((h : ℕ) (st : Stage) (i : M.Job) (c : ℕ) → get_or ss h free ≡ taken st i c → Clear M j i)
    → (m : List ℕ) → Good M n (set ss h (taken prepared j 0)) (entered h j m ∷ log)
good_accept M n {ss} {log} g h small q j f clr m =
    in_slot prepared refl f (every_clear M n j g clr) (get_or-set_same ss h (taken prepared j 0) free small) (omega arith)
    (subst (λ (l : List (Slot M.Job)). Good M n l log) (sym same) g)
  where
    same : set (set ss h (taken prepared j 0)) h free ≡ ss
    same = set-set ss h (taken prepared j 0) free ∙ ap (set ss h) (sym q) ∙ set-get_or ss h free

-- what becomes of an entry's slot when the entry changes: it stays in stage st, or it is freed
pub data Next (M : Mover) (e : Entry M.Job) : Slot M.Job → Type 0 where
  stays : (st : Stage) → e.life ≡ held → Stands M st e.job e.reported → Next M e (taken st e.job e.reported)
  ends : is_held e.life ≡ false → Finished M e → Next M e free

good_here : (M : Mover) (n h : ℕ) (ss : List (Slot M.Job)) {s : Slot M.Job} {e : Entry M.Job} {older : List (Entry M.Job)}
    → h < length ss → e.handle ≡ h → Fits M n e.job → EveryHeld (λ i. Clear M e.job i.job) older → Next M e s
    → Good M n (set ss h free) older → Good M n (set ss h s) (e ∷ older)
good_here M n h ss {e = e} {older = older} small r fit cl (stays st l sd) g =
    in_slot st l fit cl
    (subst (λ (a : ℕ). get_or (set ss h (taken st e.job e.reported)) a free ≡ taken st e.job e.reported) (sym r)
    (get_or-set_same ss h (taken st e.job e.reported) free small))
    sd
    (subst (λ (l : List (Slot M.Job)). Good M n l older)
    (sym (ap (λ (a : ℕ). set (set ss h (taken st e.job e.reported)) a free) r ∙ set-set ss h (taken st e.job e.reported) free)) g)
good_here M n h ss small r fit cl (ends l fin) g = gone l fit cl fin g

-- start, step and release: the entry changes with its slot
module _ (M : Mover) (n : ℕ) (h : ℕ) (st : Stage) (j : M.Job) (c : ℕ) (s : Slot M.Job) (f : Entry M.Job → Entry M.Job)
    (same-job : (e : Entry M.Job) → (f e).job ≡ e.job) (same-handle : (e : Entry M.Job) → (f e).handle ≡ e.handle)
    (next : (e : Entry M.Job) → e.life ≡ held → e.job ≡ j → e.reported ≡ c → Next M (f e) s) where
  clear_edit : (i : M.Job) (log : List (Entry M.Job)) → EveryHeld (λ e. Clear M i e.job) log → EveryHeld (λ e. Clear M i e.job) (edit h f log)
  clear_edit i log cl =
      every_edit h f (λ e. Clear M i e.job) (λ e l x l'. subst (λ (a : M.Job). Clear M i a) (sym (same-job e)) x) log cl

  pub good_edit : {ss : List (Slot M.Job)} {log : List (Entry M.Job)} → Good M n ss log → h < length ss
      → get_or ss h free ≡ taken st j c → Good M n (set ss h s) (edit h f log)
  good_edit (none all) small q = absurd (free_taken (all h) q)
  good_edit {ss} (in_slot {e = e} {older = older} st' l fit cl at sd g) small q =
      go (ℕ_discrete e.handle h) (λ small' q'. good_edit g small' q')
    where
      go : Dec (e.handle ≡ h)
          → (h < length (set ss e.handle free) → get_or (set ss e.handle free) h free ≡ taken st j c
          → Good M n (set (set ss e.handle free) h s) (edit h f older))
          → Good M n (set ss h s) (edit h f (e ∷ older))
      go (yes r) rec =
          let at' : get_or ss h free ≡ taken st' e.job e.reported = subst (λ (a : ℕ). get_or ss a free ≡ taken st' e.job e.reported) r at in
          subst (Good M n (set ss h s)) (sym (edit_here h f e older l r))
          (good_here M n h ss small (same-handle e ∙ r) (subst (Fits M n) (sym (same-job e)) fit)
          (subst (λ (a : M.Job). EveryHeld (λ i. Clear M a i.job) older) (sym (same-job e)) cl) (next e l (cc) (cc))
          (subst (λ (a : ℕ). Good M n (set ss a free) older) r g))
      go (no r) rec =
          subst (Good M n (set ss h s)) (sym (edit_other h f e older l r))
          (in_slot st' l fit (clear_edit e.job older cl) (get_or-set_other ss h e.handle s free r ∙ at) sd
          (subst (λ (a : List (Slot M.Job)). Good M n a (edit h f older)) (set_comm ss e.handle h free s r)
          (rec (subst (λ (a : ℕ). h < a) (sym (length-set ss e.handle free)) small)
          (get_or-set_other ss e.handle h free free (λ a. r (sym a)) ∙ q))))
  good_edit {ss} (gone {e = e} {older = older} l fit cl fin g) small q =
      subst (Good M n (set ss h s)) (sym (edit_gone h f e older l)) (gone l fit (clear_edit e.job older cl) fin (good_edit g small q))

-- ---- the memory

module _ (M : Mover) (L : Lawful M) (n : ℕ) where
  pub length_history : (m₀ : List ℕ) → length m₀ ≡ n → {ss : List (Slot M.Job)} {log : List (Entry M.Job)} → Good M n ss log
      → length (history M m₀ log) ≡ n
  unfolding history
  length_history m₀ long (none all) = long
  length_history m₀ long (in_slot {e = e} {older = older} st l f cl at sd g) =
      length_applied M L n e.job f (history M m₀ older) (length_history m₀ long g) 0 e.reported
  length_history m₀ long (gone {e = e} {older = older} l f cl fin g) =
      length_applied M L n e.job f (history M m₀ older) (length_history m₀ long g) 0 e.reported

  module _ (m₀ : List ℕ) (long : length m₀ ≡ n) (h : ℕ) (st : Stage) (j : M.Job) (c k : ℕ) where
    -- an entry is passed by: what the job moves now commutes with what was moved for the entry
    pass : {ss : List (Slot M.Job)} (e : Entry M.Job) (older : List (Entry M.Job)) → Fits M n e.job
        → EveryHeld (λ i. Clear M e.job i.job) older → Good M n ss older → get_or ss h free ≡ taken st j c
        → applied M j c k (history M m₀ older) ≡ history M m₀ (edit h (reporting k) older)
        → applied M j c k (history M m₀ (e ∷ older)) ≡ history M m₀ (e ∷ edit h (reporting k) older)
    unfolding history
    pass e older f cl g q rec =
        let b : Behind M n (λ i. Clear M e.job i.job) st j c = behind M n (λ i. Clear M e.job i.job) h st j c g cl q in
        applied_comm M L n j e.job b.fits f
        (clear_sym M e.job j (subst (λ (a : M.Job). Clear M e.job a) b.is_job b.is_for))
        (history M m₀ older) (length_history m₀ long g) c k 0 e.reported
        ∙ ap (applied M e.job 0 e.reported) rec

    -- a step: k elements more of the job in slot h, moved now, are as if moved at the job's own place in the order
    pub history_step : {ss : List (Slot M.Job)} {log : List (Entry M.Job)} → Good M n ss log → get_or ss h free ≡ taken st j c
        → applied M j c k (history M m₀ log) ≡ history M m₀ (edit h (reporting k) log)
    unfolding history reporting
    history_step (none all) q = absurd (free_taken (all h) q)
    history_step {ss} (in_slot {e = e} {older = older} st' l f cl at sd g) q = go (ℕ_discrete e.handle h) (λ q'. history_step g q')
      where
        go : Dec (e.handle ≡ h)
            → (get_or (set ss e.handle free) h free ≡ taken st j c → applied M j c k (history M m₀ older) ≡ history M m₀ (edit h (reporting k) older))
            → applied M j c k (history M m₀ (e ∷ older)) ≡ history M m₀ (edit h (reporting k) (e ∷ older))
        go (yes r) rec =
            let at' : get_or ss h free ≡ taken st' e.job e.reported = subst (λ (a : ℕ). get_or ss a free ≡ taken st' e.job e.reported) r at in
            let pj : j ≡ e.job = cc in
            let pc : c ≡ e.reported = cc in
            ap₂ (λ (a : M.Job) (b : ℕ). applied M a b k (history M m₀ (e ∷ older))) pj pc
            ∙ applied_first M L n e.job f (history M m₀ older) (length_history m₀ long g) e.reported k
            ∙ ap (history M m₀) (sym (edit_here h (reporting k) e older l r))
        go (no r) rec =
            let q' : get_or (set ss e.handle free) h free ≡ taken st j c = get_or-set_other ss e.handle h free free (λ a. r (sym a)) ∙ q in
            pass e older f cl g q' (rec q') ∙ ap (history M m₀) (sym (edit_other h (reporting k) e older l r))
    history_step (gone {e = e} {older = older} l f cl fin g) q =
        pass e older f cl g q (history_step g q) ∙ ap (history M m₀) (sym (edit_gone h (reporting k) e older l))

  -- ---- midway

  -- an entry's source part is as at acceptance, and its destination part has the elements reported
  pub record Placed (m : List ℕ) (e : Entry M.Job) : Type 0 where
    pub long : length e.before ≡ n
    pub source : bytes_of (M.source e.job) m ≡ bytes_of (M.source e.job) e.before
    pub destination : bytes_of (M.destination e.job) m
        ≡ M.write e.job 0 e.reported (bytes_of (M.source e.job) e.before) (bytes_of (M.destination e.job) e.before)

  module _ (m : List ℕ) (long : length m ≡ n) where
    -- what a job moves leaves an entry that it keeps clear of
    placed_other : (j : M.Job) (c k : ℕ) → Fits M n j → (e : Entry M.Job) → Fits M n e.job → Clear M e.job j
        → Placed m e → Placed (applied M j c k m) e
    placed_other j c k fj e fe cl p =
        record {
          long = p.long;
          source = source_other M L n e.job j fe fj cl m long c k ∙ p.source;
          destination = destination_other M L n e.job j fe fj cl m long c k ∙ p.destination;
        }

    placed_own : (c k : ℕ) (e : Entry M.Job) → Fits M n e.job → e.reported ≡ c → Placed m e → Placed (applied M e.job c k m) (reporting k e)
    unfolding reporting
    placed_own c k e fe q p =
        record {
          long = p.long;
          source = source_kept M L n e.job fe m long c k ∙ p.source;
          destination =
              destination_now M L n e.job fe m long c k
              ∙ ap₂ (λ (s d : List ℕ). M.write e.job c k s d) p.source p.destination
              ∙ ap (λ (a : ℕ). M.write e.job a k (bytes_of (M.source e.job) e.before) (M.write e.job 0 e.reported (bytes_of (M.source e.job) e.before) (bytes_of (M.destination e.job) e.before))) (sym q)
              ∙ more_first M L e.job e.reported k (bytes_of (M.source e.job) e.before) (bytes_of (M.destination e.job) e.before);
        }

    placed_others : (j : M.Job) (c k : ℕ) → Fits M n j → {ss : List (Slot M.Job)} {log : List (Entry M.Job)} → Good M n ss log
        → EveryHeld (λ e. Clear M j e.job) log → EveryHeld (Placed m) log → EveryHeld (Placed (applied M j c k m)) log
    placed_others j c k fj (none all) cl ps = tt
    placed_others j c k fj (in_slot {e = e} st l f cl' at sd g) cl ps =
        ((λ x. placed_other j c k fj e f (clear_sym M j e.job (cl.0 x)) (ps.0 x)), placed_others j c k fj g cl.1 ps.1)
    placed_others j c k fj (gone {e = e} l f cl' fin g) cl ps =
        ((λ x. placed_other j c k fj e f (clear_sym M j e.job (cl.0 x)) (ps.0 x)), placed_others j c k fj g cl.1 ps.1)

    module _ (h : ℕ) (st : Stage) (j : M.Job) (c k : ℕ) where
      placed_pass : {ss : List (Slot M.Job)} (e : Entry M.Job) (older : List (Entry M.Job)) → Fits M n e.job
          → EveryHeld (λ i. Clear M e.job i.job) older → Good M n ss older → get_or ss h free ≡ taken st j c
          → (e.life ≡ held → Placed m e) → e.life ≡ held → Placed (applied M j c k m) e
      placed_pass e older f cl g q p x =
          let b : Behind M n (λ i. Clear M e.job i.job) st j c = behind M n (λ i. Clear M e.job i.job) h st j c g cl q in
          placed_other j c k b.fits e f (subst (λ (a : M.Job). Clear M e.job a) b.is_job b.is_for) (p x)

      pub placed_step : {ss : List (Slot M.Job)} {log : List (Entry M.Job)} → Good M n ss log → get_or ss h free ≡ taken st j c
          → EveryHeld (Placed m) log → EveryHeld (Placed (applied M j c k m)) (edit h (reporting k) log)
      placed_step (none all) q ps = absurd (free_taken (all h) q)
      placed_step {ss} (in_slot {e = e} {older = older} st' l f cl at sd g) q ps = go (ℕ_discrete e.handle h) (λ q'. placed_step g q' ps.1)
        where
          go : Dec (e.handle ≡ h)
              → (get_or (set ss e.handle free) h free ≡ taken st j c → EveryHeld (Placed (applied M j c k m)) (edit h (reporting k) older))
              → EveryHeld (Placed (applied M j c k m)) (edit h (reporting k) (e ∷ older))
          go (yes r) rec =
              let at' : get_or ss h free ≡ taken st' e.job e.reported = subst (λ (a : ℕ). get_or ss a free ≡ taken st' e.job e.reported) r at in
              let pj : e.job ≡ j = cc in
              let pc : e.reported ≡ c = cc in
              subst (EveryHeld (Placed (applied M j c k m))) (sym (edit_here h (reporting k) e older l r))
              (subst (λ (a : M.Job). EveryHeld (Placed (applied M a c k m)) (reporting k e ∷ older)) pj
              ((λ x. placed_own c k e f pc (ps.0 l)), placed_others e.job c k f g cl ps.1))
          go (no r) rec =
              let q' : get_or (set ss e.handle free) h free ≡ taken st j c = get_or-set_other ss e.handle h free free (λ a. r (sym a)) ∙ q in
              subst (EveryHeld (Placed (applied M j c k m))) (sym (edit_other h (reporting k) e older l r))
              (placed_pass e older f cl g q' ps.0, rec q')
      placed_step (gone {e = e} {older = older} l f cl fin g) q ps =
          subst (EveryHeld (Placed (applied M j c k m))) (sym (edit_gone h (reporting k) e older l))
          (placed_pass e older f cl g q ps.0, placed_step g q ps.1)
