-- What is claimed of transfers over one memory, and what it asks of the mover.
use Rattle.std.specs.Prelude.{◌≡◌, ℕ, ◌+◌, ◌≤◌, List, [], ◌∷◌, length, get_or}
use Rattle.parts.specs.Parts.{Apart, bytes_of}
use Rattle.serial.specs.Machine.{Mover, prepared, running, done, Slot, free, taken, held, Entry, whole_move, Reached}

-- ---- asked of the mover

pub record Lawful (M : Mover) : Type 0 where
  -- the parts of a job that passes lie in the memory and share no byte
  pub source_fits : (n : ℕ) (j : M.Job) → M.verdict n j ≡ 0 → (M.source j).start + (M.source j).length ≤ n
  pub destination_fits : (n : ℕ) (j : M.Job) → M.verdict n j ≡ 0 → (M.destination j).start + (M.destination j).length ≤ n
  pub parts_apart : (n : ℕ) (j : M.Job) → M.verdict n j ≡ 0 → Apart (M.source j) (M.destination j)
  -- no element moved changes nothing; k elements, then l more, are k + l; the destination keeps its length
  pub none : (j : M.Job) (n : ℕ) (s d : List ℕ) → M.write j n 0 s d ≡ d
  pub more : (j : M.Job) (n k l : ℕ) (s d : List ℕ) → M.write j (n + k) l s (M.write j n k s d) ≡ M.write j n (k + l) s d
  pub same_length : (j : M.Job) (n k : ℕ) (s d : List ℕ) → length (M.write j n k s d) ≡ length d
  -- all the elements are the whole move
  pub whole : (n : ℕ) (j : M.Job) (s d : List ℕ) → M.verdict n j ≡ 0
      → length s ≡ (M.source j).length → length d ≡ (M.destination j).length → M.move j s d ≡ M.write j 0 (M.total j) s d

-- ---- claimed

-- P holds of every entry of a log
abbrev pub Every : {J : Type 0} → (Entry J → Type 0) → List (Entry J) → Type 0
Every P [] = Unit {0}
Every P (e ∷ older) = P e × Every P older

-- P holds of every transfer that is not yet released
abbrev pub EveryHeld : {J : Type 0} → (Entry J → Type 0) → List (Entry J) → Type 0
EveryHeld P log = Every (λ e. e.life ≡ held → P e) log

module _ (M : Mover) where
  -- the memory after whole moves of the accepted jobs, one after another in the order of acceptance: the log has the newest first
  unfoldable pub one_by_one : List ℕ → List (Entry M.Job) → List ℕ
  one_by_one m₀ [] = m₀
  one_by_one m₀ (e ∷ older) = whole_move M e.job (one_by_one m₀ older)

  -- its steps have reported all its elements
  abbrev pub Finished : Entry M.Job → Type 0
  Finished e = e.reported ≡ M.total e.job

  -- a transfer that is not yet released, in a memory m
  pub record Midway (m : List ℕ) (e : Entry M.Job) : Type 0 where
    -- the memory is as long as it was, and there the job passes; its steps have reported no more than it has to move
    pub long : length m ≡ length e.before
    pub passed : M.verdict (length m) e.job ≡ 0
    pub most : e.reported ≤ M.total e.job
    -- its source part is as at acceptance
    pub source : bytes_of (M.source e.job) m ≡ bytes_of (M.source e.job) e.before
    -- its destination part is as at acceptance, but for its first elements, as many as reported: those are in place
    pub destination : bytes_of (M.destination e.job) m
        ≡ M.write e.job 0 e.reported (bytes_of (M.source e.job) e.before) (bytes_of (M.destination e.job) e.before)

  -- a slot that is free, or whose transfer is done
  abbrev pub Settled : Slot M.Job → Type 0
  Settled free = Unit {0}
  Settled (taken prepared j n) = ⊥
  Settled (taken running j n) = ⊥
  Settled (taken done j n) = Unit {0}

  module _ (m₀ : List ℕ) (ss : List (Slot M.Job)) (m : List ℕ) (log : List (Entry M.Job)) where
    -- every accepted job passes over a memory as long as m₀, and every memory is as long: so the whole moves are accepted ones
    abbrev pub PassedClaim : Type 0
    PassedClaim = Reached M m₀ ss m log → (length m ≡ length m₀) × Every (λ e. M.verdict (length m₀) e.job ≡ 0) log

    -- the serial sentence
    abbrev pub SerialClaim : Type 0
    SerialClaim = Reached M m₀ ss m log → Every Finished log → m ≡ one_by_one m₀ log

    -- the midway sentence
    abbrev pub MidwayClaim : Type 0
    MidwayClaim = Reached M m₀ ss m log → EveryHeld (Midway m) log

    -- every accepted transfer has finished if every slot is free or done
    abbrev pub SettledClaim : Type 0
    SettledClaim = Reached M m₀ ss m log → ((h : ℕ) → Settled (get_or ss h free)) → Every Finished log

-- claimed of every mover that keeps the laws
abbrev pub OfLawful : ((M : Mover) → List ℕ → List (Slot M.Job) → List ℕ → List (Entry M.Job) → Type 0) → Type 1
OfLawful Claim =
    (M : Mover) → Lawful M → (m₀ : List ℕ) (ss : List (Slot M.Job)) (m : List ℕ) (log : List (Entry M.Job)) → Claim M m₀ ss m log
