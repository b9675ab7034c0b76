-- Sound tables: what soundness comes to, that a free slot is all zero, that tables stay sound, and that calls on them give neither
-- 17 nor 18.
use Rattle.std.specs.Prelude.{◌≡◌, ◌↔◌, ℕ, ◌≤◌, ◌<◌, true, false, List, length}
use Rattle.plane.specs.Settings.{array_count, array_of}
use Rattle.mover.specs.declared.Job.{Job}
use Rattle.transfers.specs.declared.Table.{Table}
use Rattle.transfers.specs.Slots.{free_slot, fresh_table, slot_at, breaks, slot_sound, table_sound, limit}
use Rattle.transfers.specs.Calls.{fresh_of, prepare_of, start_of, step_of, release_of, poll_of, poll_status}
use Rattle.transfers.specs.Demand3.{Log, History, Call, fresh_world, run}

-- ---- what soundness comes to

-- the length, each slot by itself, and no two slots that break the rule, in either order
pub record SoundTable (t : Table) : Type 0 where
  pub short : t.length ≤ limit
  pub each : (i : ℕ) → i < 4 → slot_sound t.length (slot_at t i) ≡ true
  pub apart : (i k : ℕ) → i < 4 → k < 4 → (i ≡ k → ⊥) → breaks (slot_at t i).job (slot_at t k).job ≡ false

-- a table is sound exactly if this holds of it
abbrev pub SoundMeans : Type 0
SoundMeans = (t : Table) → (table_sound t ≡ true) ↔ SoundTable t

-- ---- a free slot

-- every array of the job has four entries, as in code it has
pub record FourEntries (j : Job) : Type 0 where
  pub shape : length j.tensor.shape ≡ 4
  pub stride : length j.tensor.stride ≡ 4
  pub arrays : (k : ℕ) → k < array_count → length (array_of j.config k) ≡ 4

-- and so has every array of the table's four jobs
abbrev pub FourEach : Table → Type 0
FourEach t = (h : ℕ) → h < 4 → FourEntries (slot_at t h).job

-- a free slot of a sound table is all zero
abbrev pub FreeIsZero : Type 0
FreeIsZero =
    (t : Table) → FourEach t → table_sound t ≡ true → (h : ℕ) → h < 4 → (slot_at t h).state ≡ 0 → slot_at t h ≡ free_slot

-- ---- tables stay sound

-- a table that is sound, for a memory of n bytes
pub record SoundFor (n : ℕ) (t : Table) : Type 0 where
  pub sound : table_sound t ≡ true
  pub long : t.length ≡ n

-- of a sound table it makes a sound one, for a memory as long
abbrev pub Keeps : (Table → Table) → Type 0
Keeps f = (t : Table) → table_sound t ≡ true → SoundFor t.length (f t)

-- over whatever memory, with whatever arguments, refused or not
pub record TablesStaySound : Type 0 where
  -- a fresh table, also where the length is refused: then it is a table for no byte
  pub fresh : (n : ℕ) → table_sound (fresh_of n).table ≡ true
  pub prepare : (n : ℕ) (j : Job) → Keeps (λ t. (prepare_of t n j).table)
  pub start : (n h : ℕ) → Keeps (λ t. (start_of t n h).table)
  pub step : (n h budget : ℕ) → Keeps (λ t. (step_of t n h budget).table)
  pub release : (n h : ℕ) → Keeps (λ t. (release_of t n h).table)

-- ---- neither 17 nor 18 is given

pub record Neither17Nor18 (number : ℕ) : Type 0 where
  pub not_17 : number ≡ 17 → ⊥
  pub not_18 : number ≡ 18 → ⊥

-- no call on the table t, over a memory of n bytes, gives 17 or 18
pub record NeverClosed (t : Table) (n : ℕ) : Type 0 where
  pub prepare : (j : Job) → Neither17Nor18 (prepare_of t n j).status
  pub start : (h : ℕ) → Neither17Nor18 (start_of t n h).status
  pub step : (h budget : ℕ) → Neither17Nor18 (step_of t n h budget).status
  pub release : (h : ℕ) → Neither17Nor18 (release_of t n h).status
  pub poll : (h : ℕ) → Neither17Nor18 (poll_status (poll_of t h))

-- the tables that are handed to a caller who begins with a fresh one for n bytes, whatever memories and jobs he then hands in
pub data Handed (n : ℕ) : Table → Type 0 where
  by_fresh : n ≤ limit → Handed n (fresh_table n)
  by_prepare : {t : Table} → Handed n t → (m : ℕ) (j : Job) → Handed n (prepare_of t m j).table
  by_start : {t : Table} → Handed n t → (m h : ℕ) → Handed n (start_of t m h).table
  by_step : {t : Table} → Handed n t → (m h budget : ℕ) → Handed n (step_of t m h budget).table
  by_release : {t : Table} → Handed n t → (m h : ℕ) → Handed n (release_of t m h).table

-- tables that come of a fresh one are sound; so over a memory of the length that it was made for, they are open to every call
pub record AlwaysOpen : Type 0 where
  -- for that caller
  pub handed_sound : (n : ℕ) (t : Table) → Handed n t → SoundFor n t
  pub handed_open : (n : ℕ) (t : Table) → Handed n t → NeverClosed t n
  -- in the histories of demand 3
  pub history_sound : (m₀ : List ℕ) (t : Table) (m : List ℕ) (log : Log) → History m₀ t m log → table_sound t ≡ true
  pub history_open : (m₀ : List ℕ) (t : Table) (m : List ℕ) (log : Log) → History m₀ t m log → t.length ≡ length m₀ → NeverClosed t (length m)
  -- and for every list of calls
  pub listed_open : (m₀ : List ℕ) (cs : List Call) → length m₀ ≤ limit →
      let w = run cs (fresh_world (length m₀) m₀) in NeverClosed w.table (length w.memory)
