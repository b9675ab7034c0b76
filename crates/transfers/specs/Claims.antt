-- What is claimed besides: each refusal in its case and order, what a refused call hands back, what a poll says, what finishes a
-- transfer, and that the elements of transfers stand on their boundaries.
use Rattle.std.specs.Prelude.{◌≡◌, ℕ, ◌+◌, ◌≤◌, ◌<◌, true, false, cond, List, [], ◌∷◌, eqb, length}
use Rattle.faults.specs.Exactness.{Exact}
use Rattle.mover.specs.declared.Job.{Job}
use Rattle.mover.specs.Claims.{OnBoundaries}
use Rattle.serial.specs.Claims.{Every}
use Rattle.transfers.specs.declared.Table.{Table}
use Rattle.transfers.specs.declared.Poll.TheVariants as says
use Rattle.transfers.specs.Slots.{fresh_table, slot_at, table_sound}
use Rattle.transfers.specs.Calls.{fresh_of, fresh_rules, prepare_rules, call_rules, prepare_of, start_of, step_of, step_memory, release_of, left, poll_rules, poll_of, poll_status, poll_numbers}
use Rattle.transfers.specs.Demand3.{Log, History, Call, prepare, start, step, release, poll, World, after, run}

-- ---- refusals

-- every answer is exact for the rules of its call; where an answer has no dimension there is none to name
pub record ExactCalls : Type 0 where
  pub fresh : (n : ℕ) → Exact (fresh_rules n) (fresh_of n).status 0
  pub prepare : (t : Table) (n : ℕ) (j : Job) → let a = prepare_of t n j in Exact (prepare_rules t n j) a.status a.dim
  pub start : (t : Table) (n h : ℕ) → Exact (call_rules t n h 1) (start_of t n h).status 0
  pub step : (t : Table) (n h budget : ℕ) → Exact (call_rules t n h 2) (step_of t n h budget).status 0
  pub release : (t : Table) (n h : ℕ) → Exact (call_rules t n h 3) (release_of t n h).status 0
  pub poll : (t : Table) (h : ℕ) → Exact (poll_rules t h) (poll_status (poll_of t h)) 0

abbrev pub Refused : ℕ → Type 0
Refused number = number ≡ 0 → ⊥

-- number and dimension, zeros besides, the table that was given, and the memory as it was
pub record RefusedCalls : Type 0 where
  -- a refused fresh table has length 0 and free slots
  pub fresh : (n : ℕ) → Refused (fresh_of n).status → fresh_of n ≡ record { status = 17; table = fresh_table 0 }
  pub prepare : (t : Table) (n : ℕ) (j : Job) → let a = prepare_of t n j in
      Refused a.status → a ≡ record { status = a.status; dim = a.dim; handle = 0; table = t }
  pub start : (t : Table) (n h : ℕ) → let a = start_of t n h in Refused a.status → a ≡ record { status = a.status; table = t }
  pub step : (t : Table) (h budget : ℕ) (m : List ℕ) → let a = step_of t (length m) h budget in
      Refused a.status → (a ≡ record { status = a.status; count = 0; table = t }) × (step_memory t h budget m ≡ m)
  pub release : (t : Table) (n h : ℕ) → let a = release_of t n h in Refused a.status → a ≡ record { status = a.status; table = t }

-- ---- polls

-- a poll of the slot at h, in every case: the paper's number, the state that it tells, and what is left
pub record Polled (t : Table) (h : ℕ) : Type 0 where
  pub unsound : table_sound t ≡ false → poll_numbers (poll_of t h) ≡ 18 ∷ 0 ∷ 0 ∷ []
  pub no_slot : table_sound t ≡ true → 3 < h → poll_numbers (poll_of t h) ≡ 23 ∷ 0 ∷ 0 ∷ []
  pub free : table_sound t ≡ true → h < 4 → (slot_at t h).state ≡ 0 → poll_numbers (poll_of t h) ≡ 0 ∷ 0 ∷ 0 ∷ []
  pub prepared : table_sound t ≡ true → h < 4 → (slot_at t h).state ≡ 1 → poll_numbers (poll_of t h) ≡ 0 ∷ 1 ∷ left (slot_at t h) ∷ []
  pub running : table_sound t ≡ true → h < 4 → (slot_at t h).state ≡ 2 → poll_numbers (poll_of t h) ≡ 0 ∷ 2 ∷ left (slot_at t h) ∷ []
  pub done : table_sound t ≡ true → h < 4 → (slot_at t h).state ≡ 3 → poll_numbers (poll_of t h) ≡ 0 ∷ 3 ∷ 0 ∷ []
  -- a slot of a sound table is in one of these states
  pub known : table_sound t ≡ true → h < 4 → (slot_at t h).state < 4

abbrev pub EveryPoll : Type 0
EveryPoll = (t : Table) (h : ℕ) → Polled t h

-- ---- budgets

-- what a call gives the transfer at h to spend, and what a list of calls gives it together
unfoldable pub spends : ℕ → Call → ℕ
spends h (prepare j) = 0
spends h (start g) = 0
spends h (step g b) = cond (eqb g h) b 0
spends h (release g) = 0
spends h (poll g) = 0

unfoldable pub spend : ℕ → List Call → ℕ
spend h [] = 0
spend h (c ∷ cs) = spends h c + spend h cs

-- none of the calls releases h: a release of it may be asked for, and is refused
abbrev pub Unreleased : ℕ → List Call → World → Type 0
Unreleased h [] w = Unit {0}
Unreleased h (prepare j ∷ cs) w = Unreleased h cs (after (prepare j) w)
Unreleased h (start g ∷ cs) w = Unreleased h cs (after (start g) w)
Unreleased h (step g b ∷ cs) w = Unreleased h cs (after (step g b) w)
Unreleased h (release g ∷ cs) w =
    ((release_of w.table (length w.memory) g).status ≡ 0 → h ≡ g → ⊥) × Unreleased h cs (after (release g) w)
Unreleased h (poll g ∷ cs) w = Unreleased h cs (after (poll g) w)

-- over a memory of the table's length a poll says running with n left; the calls that follow do not release the transfer, and give it
-- n or more to spend: then a poll says done
abbrev pub BudgetsFinish : Type 0
BudgetsFinish =
    (h n : ℕ) (w : World) (cs : List Call) → length w.memory ≡ w.table.length
    → poll_of w.table h ≡ says.Running n → Unreleased h cs w → n ≤ spend h cs → poll_of (run cs w).table h ≡ says.Done

-- ---- element boundaries

-- the elements of every transfer stand on boundaries of their size: of one that is prepared, of each that was accepted, and of each slot
-- of a sound table that is not free
pub record TransfersOnBoundaries : Type 0 where
  pub prepare : (t : Table) (n : ℕ) (j : Job) → (prepare_of t n j).status ≡ 0 → OnBoundaries j
  pub accepted : (m₀ : List ℕ) (t : Table) (m : List ℕ) (log : Log) → History m₀ t m log → Every (λ e. OnBoundaries e.job) log
  pub slot : (t : Table) (h : ℕ) → table_sound t ≡ true → h < 4 → ((slot_at t h).state ≡ 0 → ⊥) → OnBoundaries (slot_at t h).job
