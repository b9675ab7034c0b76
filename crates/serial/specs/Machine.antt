-- Transfers over one memory, whatever mover moves their elements: the slots, the log of the accepted transfers, and what each
-- accepted call makes of slots, memory and log. A refused call and a poll change nothing, so they do not occur here.
use Rattle.std.specs.Prelude.{◌≡◌, ℕ, ◌+◌, ◌-◌, ◌<◌, min, Bool, true, false, cond, ◌&&◌, List, [], ◌∷◌, eqb, length, get_or, set}
use Rattle.parts.specs.declared.Part.{Part}
use Rattle.parts.specs.Parts.{Apart, bytes_of, replaced}

-- ---- the mover

pub record Mover : Type 1 where
  -- what a transfer is asked to do
  pub Job : Type 0
  pub source : Job → Part
  pub destination : Job → Part
  -- how many elements it has to move
  pub total : Job → ℕ
  -- over a memory of that many bytes: the number that refuses the job by itself, or 0
  pub verdict : ℕ → Job → ℕ
  -- a whole move: the destination's bytes after it, from the source's bytes and the destination's bytes before it
  pub move : Job → List ℕ → List ℕ → List ℕ
  -- `write j n k s d`: the same where only k elements are moved, those after the first n
  pub write : Job → ℕ → ℕ → List ℕ → List ℕ → List ℕ

-- ---- slots

pub data Stage : Type 0 where
  prepared running done : Stage

-- a slot is free, or it is taken: in which stage, for which job, with how many elements moved
pub data Slot (J : Type 0) : Type 0 where
  free : Slot J
  taken : Stage → J → ℕ → Slot J

-- ---- the log: an entry for each accepted transfer, the newest first

pub data Life : Type 0 where
  held released : Life

abbrev pub is_held : Life → Bool
is_held held = true
is_held released = false

pub record Entry (J : Type 0) : Type 0 where
  pub handle : ℕ
  pub job : J
  -- the memory at acceptance
  pub before : List ℕ
  -- how many elements its steps have reported, together
  pub reported : ℕ
  -- released, or not yet
  pub life : Life

-- the entry of a transfer just accepted
abbrev pub entered : {J : Type 0} → ℕ → J → List ℕ → Entry J
entered h j m = record { handle = h; job = j; before = m; reported = 0; life = held }

-- a step has reported k more
unfoldable pub reporting : {J : Type 0} → ℕ → Entry J → Entry J
reporting k e = record { handle = e.handle; job = e.job; before = e.before; reported = e.reported + k; life = e.life }

-- the entry with that life
unfoldable pub ended : {J : Type 0} → Life → Entry J → Entry J
ended l e = record { handle = e.handle; job = e.job; before = e.before; reported = e.reported; life = l }

-- whether the entry is that of the transfer which has the handle now
unfoldable pub is_for : {J : Type 0} → ℕ → Entry J → Bool
is_for h e = is_held e.life && eqb e.handle h

-- the log with that transfer's entry changed
unfoldable pub edit : {J : Type 0} → ℕ → (Entry J → Entry J) → List (Entry J) → List (Entry J)
edit h f [] = []
edit h f (e ∷ older) = cond (is_for h e) (f e ∷ older) (e ∷ edit h f older)

-- ---- accepted calls

module _ (M : Mover) where
  -- the memory after a whole move of the job
  unfoldable pub whole_move : M.Job → List ℕ → List ℕ
  whole_move j m = replaced (M.destination j) (M.move j (bytes_of (M.source j) m) (bytes_of (M.destination j) m)) m

  -- the memory after k elements of the job are moved, those after the first n
  unfoldable pub applied : M.Job → ℕ → ℕ → List ℕ → List ℕ
  applied j n k m = replaced (M.destination j) (M.write j n k (bytes_of (M.source j) m) (bytes_of (M.destination j) m)) m

  -- the rule between two slots: neither's destination meets the other's source or destination
  pub record Clear (i j : M.Job) : Type 0 where
    pub to_source : Apart (M.destination i) (M.source j)
    pub to_destination : Apart (M.destination i) (M.destination j)
    pub from_source : Apart (M.destination j) (M.source i)

  -- the stage of a transfer that has moved n elements
  unfoldable pub stage_after : M.Job → ℕ → Stage
  stage_after j n = cond (eqb n (M.total j)) done running

  -- slots, memory and log that accepted calls lead to, from free slots and the memory m₀
  pub data Reached (m₀ : List ℕ) : List (Slot M.Job) → List ℕ → List (Entry M.Job) → Type 0 where
    fresh : {ss : List (Slot M.Job)} → ((h : ℕ) → get_or ss h free ≡ free) → Reached m₀ ss m₀ []
    -- into a free slot, a job that no number refuses by itself, and that keeps the rule with every slot that is not free
    prepare : {ss : List (Slot M.Job)} {m : List ℕ} {log : List (Entry M.Job)} → Reached m₀ ss m log
        → (h : ℕ) → h < length ss → get_or ss h free ≡ free
        → (j : M.Job) → M.verdict (length m) j ≡ 0
        → ((g : ℕ) (st : Stage) (i : M.Job) (n : ℕ) → get_or ss g free ≡ taken st i n → Clear j i)
        → Reached m₀ (set ss h (taken prepared j 0)) m (entered h j m ∷ log)
    start : {ss : List (Slot M.Job)} {m : List ℕ} {log : List (Entry M.Job)} → Reached m₀ ss m log
        → (h : ℕ) (j : M.Job) (n : ℕ) → get_or ss h free ≡ taken prepared j n
        → Reached m₀ (set ss h (taken running j n)) m log
    -- min(budget, left) further elements
    step : {ss : List (Slot M.Job)} {m : List ℕ} {log : List (Entry M.Job)} → Reached m₀ ss m log
        → (h : ℕ) (j : M.Job) (n : ℕ) → get_or ss h free ≡ taken running j n
        → (budget k : ℕ) → k ≡ min budget (M.total j - n)
        → Reached m₀ (set ss h (taken (stage_after j (n + k)) j (n + k))) (applied j n k m) (edit h (reporting k) log)
    release : {ss : List (Slot M.Job)} {m : List ℕ} {log : List (Entry M.Job)} → Reached m₀ ss m log
        → (h : ℕ) (j : M.Job) (n : ℕ) → get_or ss h free ≡ taken done j n
        → Reached m₀ (set ss h free) m (edit h (ended released) log)
