-- Demand 3: calls, refused ones included, from a fresh table and over one memory; the log of the accepted transfers; what is claimed.
-- The crate serial says what an entry of the log is, what moves done one by one come to (`one_by_one`), and what `Midway` is; the crate
-- mover says in its Demand2 what a move, and its first elements, leave (`Meant`, `FirstsMeant`).
use Rattle.std.specs.Prelude.{◌≡◌, ◌⊎◌, ℕ, ◌+◌, ◌≤◌, ◌<◌, cond, List, [], ◌∷◌, eqb, length, get_or}
use Rattle.parts.specs.declared.Part.{Part}
use Rattle.parts.specs.Parts.{bytes_of}
use Rattle.mover.specs.declared.Job.{Job}
use Rattle.mover.specs.Moved.{moved, move_memory}
use Rattle.mover.specs.Within.{job_fault, total_of}
use Rattle.mover.specs.Demand2.{Meant, FirstsMeant}
use Rattle.serial.specs.Machine.{Mover, Entry, whole_move, released, entered, reporting, ended, edit}
use Rattle.serial.specs.Claims.{Every, EveryHeld, Finished, Midway, one_by_one}
use Rattle.transfers.specs.declared.Table.{Table}
use Rattle.transfers.specs.declared.FreshTable.{FreshTable}
use Rattle.transfers.specs.declared.Prepared.{Prepared}
use Rattle.transfers.specs.declared.Changed.{Changed}
use Rattle.transfers.specs.declared.Stepped.{Stepped}
use Rattle.transfers.specs.declared.Poll.TheVariants as says
use Rattle.transfers.specs.Calls.{fresh_of, prepare_of, start_of, step_of, step_memory, release_of, poll_of}

-- ---- the mover of the crate mover, as the crate serial asks for one

abbrev pub the_mover : Mover
the_mover = record {
  Job = Job;
  source = λ j. j.source;
  destination = λ j. j.destination;
  total = total_of;
  verdict = λ n j. (job_fault n j).status;
  move = λ j s d. move_memory j.tensor j.config s d;
  write = λ j n k s d. moved j.tensor j.config s n k d;
}

-- ---- what a caller writes down, from the call and its answer alone: of a refused call nothing

abbrev pub Log : Type 0
Log = List (Entry Job)

-- an accepted transfer, with the memory at acceptance
unfoldable pub note_prepare : Job → Prepared → List ℕ → Log → Log
note_prepare j a m log = cond (eqb a.status 0) (entered a.handle j m ∷ log) log

-- what the step reported
unfoldable pub note_step : ℕ → Stepped → Log → Log
note_step h a log = cond (eqb a.status 0) (edit h (reporting a.count) log) log

unfoldable pub note_release : ℕ → Changed → Log → Log
note_release h a log = cond (eqb a.status 0) (edit h (ended released) log) log

-- ---- calls, one after another: table, memory and log that they lead to from a fresh table and the memory m₀

-- each call is given the table that the one before handed back, and answers as its contract says. (A poll changes nothing.)
pub data History (m₀ : List ℕ) : Table → List ℕ → Log → Type 0 where
  made : (n : ℕ) {a : FreshTable} → a ≡ fresh_of n → History m₀ a.table m₀ []
  prepared : {t : Table} {m : List ℕ} {log : Log} → History m₀ t m log → (j : Job) {a : Prepared}
      → a ≡ prepare_of t (length m) j → History m₀ a.table m (note_prepare j a m log)
  started : {t : Table} {m : List ℕ} {log : Log} → History m₀ t m log → (h : ℕ) {a : Changed}
      → a ≡ start_of t (length m) h → History m₀ a.table m log
  stepped : {t : Table} {m : List ℕ} {log : Log} → History m₀ t m log → (h budget : ℕ) {a : Stepped} {m' : List ℕ}
      → a ≡ step_of t (length m) h budget → m' ≡ step_memory t h budget m → History m₀ a.table m' (note_step h a log)
  freed : {t : Table} {m : List ℕ} {log : Log} → History m₀ t m log → (h : ℕ) {a : Changed}
      → a ≡ release_of t (length m) h → History m₀ a.table m (note_release h a log)

-- the same for a list of calls

pub data Call : Type 0 where
  prepare : Job → Call
  -- the handle
  start : ℕ → Call
  -- the handle and the budget
  step : ℕ → ℕ → Call
  release : ℕ → Call
  poll : ℕ → Call

pub record World : Type 0 where
  pub table : Table
  pub memory : List ℕ
  pub log : Log

unfoldable pub fresh_world : ℕ → List ℕ → World
fresh_world n m = record { table = (fresh_of n).table; memory = m; log = [] }

unfoldable pub after : Call → World → World
after (prepare j) w =
    let a = prepare_of w.table (length w.memory) j in
    record { table = a.table; memory = w.memory; log = note_prepare j a w.memory w.log }
after (start h) w =
    record { table = (start_of w.table (length w.memory) h).table; memory = w.memory; log = w.log }
after (step h b) w =
    let a = step_of w.table (length w.memory) h b in
    record { table = a.table; memory = step_memory w.table h b w.memory; log = note_step h a w.log }
after (release h) w =
    let a = release_of w.table (length w.memory) h in
    record { table = a.table; memory = w.memory; log = note_release h a w.log }
after (poll h) w = w

unfoldable pub run : List Call → World → World
run [] w = w
run (c ∷ cs) w = run cs (after c w)

-- ---- the sentences

-- the bytes of a job's source part, and of its destination part
abbrev pub source_in : Job → List ℕ → List ℕ
source_in j m = bytes_of j.source m

abbrev pub destination_in : Job → List ℕ → List ℕ
destination_in j m = bytes_of j.destination m

-- the byte k lies outside the part
abbrev pub Outside : Part → ℕ → Type 0
Outside p k = (k < p.start) ⊎ (p.start + p.length ≤ k)

-- the job passes 20, 1 to 13, 34 and 21 over a memory of n bytes
abbrev pub Passes : ℕ → Job → Type 0
Passes n j = (job_fault n j).status ≡ 0

-- a whole move of the job over the memory m is an accepted move of demand 2 between the job's two parts
pub record WholeMeant (j : Job) (m : List ℕ) : Type 0 where
  pub passed : Passes (length m) j
  -- its destination part is what demand 2 says; no byte outside that part changes, nor the memory's length
  pub destination : Meant j.tensor j.config (source_in j m) (destination_in j m) (destination_in j (whole_move the_mover j m))
  pub outside : (k : ℕ) → Outside j.destination k → get_or (whole_move the_mover j m) k 0 ≡ get_or m k 0
  pub long : length (whole_move the_mover j m) ≡ length m

-- each of the whole moves of a log, over the memory that those accepted before it leave
abbrev pub EachMeant : List ℕ → Log → Type 0
EachMeant m₀ [] = Unit {0}
EachMeant m₀ (e ∷ older) = WholeMeant e.job (one_by_one the_mover m₀ older) × EachMeant m₀ older

-- that is so of a job that passes, and of a log of them; every memory between is as long as the first
pub record WholeMoves : Type 0 where
  pub one : (m : List ℕ) (j : Job) → Passes (length m) j → WholeMeant j m
  pub each : (m₀ : List ℕ) (log : Log) → Every (λ e. Passes (length m₀) e.job) log → EachMeant m₀ log
  pub long : (m₀ : List ℕ) (log : Log) → length (one_by_one the_mover m₀ log) ≡ length m₀

-- what the memory m has of a transfer that is not yet released
pub record InPlace (m : List ℕ) (e : Entry Job) : Type 0 where
  -- in its destination part its first elements, as many as its steps together reported, are in place as demand 2 says, byte by byte;
  -- the part's other bytes are as at acceptance
  pub destination : let j = e.job in
      FirstsMeant j.tensor j.config (source_in j e.before) (destination_in j e.before) e.reported (destination_in j m)
  -- its source part is as at acceptance
  pub source : source_in e.job m ≡ source_in e.job e.before

-- what is claimed of a table t, a memory m and a log that calls led to from the memory m₀
pub record Demand3 (m₀ : List ℕ) (t : Table) (m : List ℕ) (log : Log) : Type 0 where
  -- if every accepted transfer has finished, the memory is what whole moves give when done one after another in the order of acceptance
  pub serial : Every (Finished the_mover) log → m ≡ one_by_one the_mover m₀ log
  -- and each of those whole moves is an accepted move of demand 2
  pub passed : Every (λ e. Passes (length m₀) e.job) log
  pub moves : EachMeant m₀ log
  -- the memory keeps its length
  pub long : length m ≡ length m₀
  -- every accepted transfer has finished if each poll says free or done
  pub finished : ((h : ℕ) → h < 4 → (poll_of t h ≡ says.Free) ⊎ (poll_of t h ≡ says.Done)) → Every (Finished the_mover) log
  -- midway, the destination part of each transfer not yet released is what the mover leaves after as many elements as its steps reported
  pub midway : EveryHeld (Midway the_mover m) log
  -- so its first elements are in place, and the part's other bytes, and the source part, are as at acceptance
  pub in_place : EveryHeld (InPlace m) log

-- for a caller who chooses each call by the answers so far
abbrev pub ForHistories : Type 0
ForHistories = (m₀ : List ℕ) (t : Table) (m : List ℕ) (log : Log) → History m₀ t m log → Demand3 m₀ t m log

-- for every list of calls
abbrev pub ForRuns : Type 0
ForRuns =
    (n : ℕ) (m₀ : List ℕ) (cs : List Call) →
    let w = run cs (fresh_world n m₀) in Demand3 m₀ w.table w.memory w.log
