-- What the theorems claim of the keeper's calls: refusals, which run is granted and which blocks change, what is given back and used
-- again, counts, the parts that runs are, and that entries past the rank are not looked at.
use Rattle.std.specs.Prelude.{ℕ, ◌+◌, ◌/◌, ◌%◌, ◌^◌, ◌≤◌, ◌<◌, ◌≡◌, ◌↔◌, true, false}
use Rattle.faults.specs.Exactness.{Exact}
use Rattle.parts.specs.Parts.{Has, Apart}
use Rattle.mover.specs.Within.{off_boundary}
use Rattle.transfers.specs.declared.Table.{Table}
use Rattle.transfers.specs.Slots.{zero_part, slot_at}
use Rattle.transfers.specs.Claims.{Refused}
use Rattle.transfers.specs.Unseen.{SameTable}
use Rattle.keeper.specs.declared.Granted.{Granted}
use Rattle.keeper.specs.Blocks.{is_taken, free_blocks, free_before_first_taken}
use Rattle.keeper.specs.Calls.{request_rules, request_of, block_bytes, run_part, part_rules, part_of, give_back_rules, give_back_of}

-- ---- refusals

-- every answer is exact for the rules of its call; no number of the keeper's names a dimension
pub record ExactKeeper : Type 0 where
  pub request : (w n : ℕ) → Exact (request_rules w n) (request_of w n).status 0
  pub give_back : (t : Table) (w first n : ℕ) → Exact (give_back_rules t w first n) (give_back_of t w first n).status 0
  pub part : (l first n : ℕ) → Exact (part_rules l first n) (part_of l first n).status 0

-- a refusal hands the word back unchanged, with zeros besides its number
pub record RefusedKeeper : Type 0 where
  pub request : (w n : ℕ) → let a = request_of w n in Refused a.status → a ≡ record { status = a.status; first = 0; word = w }
  pub give_back : (t : Table) (w first n : ℕ) → let a = give_back_of t w first n in
      Refused a.status → a ≡ record { status = a.status; word = w }
  pub part : (l first n : ℕ) → let a = part_of l first n in Refused a.status → a ≡ record { status = a.status; part = zero_part }

-- ---- blocks and runs

-- a word has 64 bits
abbrev pub Word : ℕ → Type 0
Word w = w < 2 ^ 64

-- block b is one of the n from first on
abbrev pub InRun : ℕ → ℕ → ℕ → Type 0
InRun first n b = (first ≤ b) × (b < first + n)

-- the run ends with the last block or before, and each of its blocks is free
pub record FreeRun (w first n : ℕ) : Type 0 where
  pub inside : first + n ≤ 64
  pub free : (b : ℕ) → InRun first n b → is_taken w b ≡ false

-- ---- what is granted

-- the answer's run was free, and none lower was; its blocks are taken then, and no other changes
pub record GrantedRun (w n : ℕ) (a : Granted) : Type 0 where
  pub run : FreeRun w a.first n
  pub lowest : (first : ℕ) → FreeRun w first n → a.first ≤ first
  pub taken : (b : ℕ) → InRun a.first n b → is_taken a.word b ≡ true
  pub others : (b : ℕ) → b < 64 → (InRun a.first n b → ⊥) → is_taken a.word b ≡ is_taken w b
  -- n fewer are free
  pub fewer : free_blocks a.word + n ≡ free_blocks w

pub record Requests : Type 0 where
  pub granted : (w n : ℕ) → (request_of w n).status ≡ 0 → GrantedRun w n (request_of w n)
  -- for n from 1 to 64: refused exactly if no run of n is free, and then with 32
  pub none : (w n : ℕ) → 1 ≤ n → n ≤ 64 → ((request_of w n).status ≡ 32) ↔ ((first : ℕ) → FreeRun w first n → ⊥)
  pub only : (w n : ℕ) → 1 ≤ n → n ≤ 64 → ((request_of w n).status ≡ 0 → ⊥) → (request_of w n).status ≡ 32

-- ---- what is given back

-- every block of the run was taken in w, and no byte of it is in a part of a slot that is not free; in the word after, its blocks are
-- free, and no other changes
pub record BackRun (t : Table) (w first n after : ℕ) : Type 0 where
  pub inside : first + n ≤ 64
  pub was : (b : ℕ) → InRun first n b → is_taken w b ≡ true
  pub source : (h : ℕ) → h < 4 → ((slot_at t h).state ≡ 0 → ⊥) → Apart (run_part t.length first n) (slot_at t h).job.source
  pub destination : (h : ℕ) → h < 4 → ((slot_at t h).state ≡ 0 → ⊥) → Apart (run_part t.length first n) (slot_at t h).job.destination
  pub free : (b : ℕ) → InRun first n b → is_taken after b ≡ false
  pub others : (b : ℕ) → b < 64 → (InRun first n b → ⊥) → is_taken after b ≡ is_taken w b
  -- n more are free
  pub more : free_blocks after ≡ free_blocks w + n

-- a request for n blocks is not refused, and it gets the run from first on exactly if no lower one is free
pub record Gets (w first n : ℕ) : Type 0 where
  pub granted : (request_of w n).status ≡ 0
  pub same : ((request_of w n).first ≡ first) ↔ ((lower : ℕ) → lower < first → FreeRun w lower n → ⊥)

pub record GivesBack : Type 0 where
  pub freed : (t : Table) (w first n : ℕ) → let a = give_back_of t w first n in a.status ≡ 0 → BackRun t w first n a.word
  -- what was given back is used again
  pub again : (t : Table) (w first n : ℕ) → let a = give_back_of t w first n in a.status ≡ 0 → Gets a.word first n
  -- giving back what was just granted, where it is not refused, restores the word
  pub restored : (t : Table) (w n : ℕ) → Word w → let a = request_of w n in a.status ≡ 0 →
      let r = give_back_of t a.word a.first n in
      r.status ≡ 0 → r.word ≡ w

-- ---- counts

-- k blocks lie free before the first taken one, which is block k; or all 64 are free
pub record FreeBefore (w k : ℕ) : Type 0 where
  pub most : k ≤ 64
  pub before : (b : ℕ) → b < k → is_taken w b ≡ false
  pub taken : k < 64 → is_taken w k ≡ true

-- (how many are free is a count of single blocks by its definition)
abbrev pub CountsBefore : Type 0
CountsBefore = (w : ℕ) → FreeBefore w (free_before_first_taken w)

-- ---- parts

-- the part of a run lies in the memory, and the parts of two runs that share no block share no byte
pub record RunParts : Type 0 where
  pub inside : (l first n : ℕ) → first + n ≤ 64 → (run_part l first n).start + (run_part l first n).length ≤ l
  pub apart : (l f k g m : ℕ) → ((b : ℕ) → InRun f k b → InRun g m b → ⊥) → Apart (run_part l f k) (run_part l g m)
  -- a byte is one of the run's exactly if its block is
  pub block : (l first n i : ℕ) → 64 ≤ l → Has (run_part l first n) i ↔ InRun first n (i / block_bytes l)
  -- in a memory whose length is a multiple of 256 it starts at a multiple of 4, so it is off a boundary for no element size
  pub fours : (l first n : ℕ) → l % 256 ≡ 0 → (run_part l first n).start % 4 ≡ 0
  pub boundary : (l first n z : ℕ) → l % 256 ≡ 0 → 1 ≤ z → z ≤ 4 → off_boundary z (run_part l first n) ≡ false

-- ---- entries past the rank

-- a run is given back the same to tables that agree in what is looked at: entries past the rank, and unused bytes of a fill, do not count
abbrev pub BackUnseen : Type 0
BackUnseen = (t t' : Table) → SameTable t t' → (w first n : ℕ) → give_back_of t w first n ≡ give_back_of t' w first n
