-- What "lists round trip" says: appended moves are read back in order, and bytes that are read are what appending writes.
use Rattle.std.specs.Prelude.{ℕ, zero, suc, ◌+◌, ◌≤◌, ◌<◌, ◌≡◌, cond, List, [], ◌∷◌, ◌++◌, eqb, length, get_or, take}
use Rattle.std.proofs.lemmas.List.Edits.{sets}
use Rattle.plane.specs.declared.Tensor.{Tensor}
use Rattle.plane.specs.declared.Config.{Config}
use Rattle.plane.specs.Planes.{zero_tensor}
use Rattle.plane.specs.Settings.{zero_config}
use Rattle.record.specs.Records.{record_bytes, reading}
use Rattle.record.specs.RoundTrip.{Fits, Bytes}
use Rattle.list.specs.declared.Numbered.{Numbered}
use Rattle.list.specs.Layout.{list_head_length, most, list_head, list_length}
use Rattle.list.specs.Lists.{list_fault, record_count, record_at}
use Rattle.list.specs.Writers.{start_fault, started_buffer, member_fault, append_of, appended_buffer}

-- ---- Moves, and a list of them

-- the fields of one record
pub record Move : Type 0 where
  pub tensor : Tensor
  pub config : Config

-- move k; past the last one of zeros
abbrev pub move_at : List Move → ℕ → Move
move_at ms k = get_or ms k (record { tensor = zero_tensor; config = zero_config })

-- the records of moves, one behind the other
unfoldable pub moves_bytes : List Move → List ℕ
moves_bytes [] = []
moves_bytes (m ∷ ms) = record_bytes m.tensor m.config ++ moves_bytes ms

-- the list of them: the head with their count, and then the records
abbrev pub list_bytes : List Move → List ℕ
list_bytes ms = list_head (length ms) ++ moves_bytes ms

-- record k as it is handed out where it is good
abbrev pub numbered : ℕ → Move → Numbered
numbered k m = record { number = k; reading = reading m.tensor m.config }

-- the fields of the n records from record k on
unfoldable pub moves_from : List ℕ → ℕ → ℕ → List Move
moves_from bs k zero = []
moves_from bs k (suc n) = let r = (record_at bs k).reading in record { tensor = r.tensor; config = r.config } ∷ moves_from bs (k + 1) n

-- the fields of all the records of a list, in order
abbrev pub moves_in : List ℕ → List Move
moves_in bs = moves_from bs 0 (record_count bs)

-- ---- Start, and appends one after the other

-- a buffer, how many of its first bytes are the list, and the moves that were accepted, in order
pub record Written : Type 0 where
  pub buffer : List ℕ
  pub length : ℕ
  pub moves : List Move

-- a list started
abbrev pub started : List ℕ → Written
started buffer = record { buffer = started_buffer buffer; length = list_head_length; moves = [] }

-- one append more: the caller goes on with the length that it answers, and after a refused one with the length before
unfoldable pub appended : Written → Move → Written
appended w m =
    let a = append_of w.buffer w.length m.tensor m.config in
    record {
      buffer = appended_buffer w.buffer w.length m.tensor m.config;
      length = cond (eqb a.status 0) a.length w.length;
      moves = cond (eqb a.status 0) (w.moves ++ (m ∷ [])) w.moves;
    }

-- an append of each, in order
unfoldable pub appends : Written → List Move → Written
appends w [] = w
appends w (m ∷ ms) = appends (appended w m) ms

-- start, and then an append of each
abbrev pub written : List ℕ → List Move → Written
written buffer ms = appends (started buffer) ms

-- ---- The sentences

-- what start and any appends leave opens, and its records read in order are the fields of those that were accepted
abbrev pub WrittenReads : Type 0
WrittenReads =
    (buffer : List ℕ) (ms : List Move) → (start_fault buffer).status ≡ 0 →
    ((k : ℕ) → k < length ms → Fits (move_at ms k).tensor (move_at ms k).config) →
    let w = written buffer ms in
    let bs = take w.length w.buffer in
    ((list_fault bs).status ≡ 0) × (record_count bs ≡ length w.moves) ×
    ((k : ℕ) → k < length w.moves → record_at bs k ≡ numbered k (move_at w.moves k))

-- it is the head with the count and the records in order, at the buffer's start, and no other byte of the buffer changed
abbrev pub WrittenBytes : Type 0
WrittenBytes =
    (buffer : List ℕ) (ms : List Move) → (start_fault buffer).status ≡ 0 →
    let w = written buffer ms in
    (w.buffer ≡ sets buffer 0 (list_bytes w.moves)) × (w.length ≡ list_length (length w.moves))

-- where the fields of each are accepted, the count can tell how many they are and the buffer has room, every call is accepted
abbrev pub AcceptedWhere : Type 0
AcceptedWhere =
    (buffer : List ℕ) (ms : List Move) → length ms ≤ most → list_length (length ms) ≤ length buffer →
    ((k : ℕ) → k < length ms → (member_fault (move_at ms k).tensor (move_at ms k).config).status ≡ 0) →
    ((start_fault buffer).status ≡ 0) × ((written buffer ms).moves ≡ ms)

-- bytes that open, and whose records all read, are what start and appends of those fields write, in any buffer that has room: every
-- call is accepted
abbrev pub ReadWrites : Type 0
ReadWrites =
    (bs : List ℕ) → Bytes bs → (list_fault bs).status ≡ 0 → ((k : ℕ) → k < record_count bs → (record_at bs k).reading.status ≡ 0) →
    (buffer : List ℕ) → length bs ≤ length buffer →
    let w = written buffer (moves_in bs) in
    ((start_fault buffer).status ≡ 0) × (w.moves ≡ moves_in bs) × (w.length ≡ length bs) × (w.buffer ≡ sets buffer 0 bs)

-- one record more, behind any list, also one with bad records: those before are read as before, and the new one last
abbrev pub AppendReads : Type 0
AppendReads =
    (buffer : List ℕ) (n : ℕ) (t : Tensor) (c : Config) → Bytes buffer → Fits t c → (append_of buffer n t c).status ≡ 0 →
    let old = take n buffer in
    let new = take (append_of buffer n t c).length (appended_buffer buffer n t c) in
    ((list_fault new).status ≡ 0) × (record_count new ≡ record_count old + 1) ×
    ((k : ℕ) → k < record_count old → record_at new k ≡ record_at old k) ×
    (record_at new (record_count old) ≡ numbered (record_count old) (record { tensor = t; config = c }))
