-- What the theorems claim of the calls on a list: refusals, what is handed out, and what changes. RoundTrip has what they claim of
-- there and back.
use Rattle.std.specs.Prelude.{ℕ, suc, ◌+◌, ◌≤◌, ◌<◌, ◌≡◌, ◌⊎◌, List, length}
use Rattle.std.specs.Borrow.{Bor}
use Rattle.faults.specs.Faults.{fault}
use Rattle.faults.specs.Exactness.{Exact}
use Rattle.plane.specs.declared.Tensor.{Tensor}
use Rattle.plane.specs.declared.Config.{Config}
use Rattle.plane.specs.Arrays.{at}
use Rattle.record.specs.Layout.{record_length}
use Rattle.record.specs.Records.{no_reading}
use Rattle.list.specs.declared.ListReader.{ListReader}
use Rattle.list.specs.Layout.{list_head_length, count_place, list_length}
use Rattle.list.specs.Lists.{list_rules, list_fault, record_count, no_record, record_at, record_rules, place_after}
use Rattle.list.specs.Readers.{opened, answer, advanced, after_calls}
use Rattle.list.specs.Writers.{start_rules, start_fault, started_buffer, append_rules, no_append, append_of, appended_buffer}

-- ---- Refusals

-- every answer is exact for the rules of its call
abbrev pub ListExact : Type 0
ListExact = (bs : List ℕ) → Exact (list_rules bs) (list_fault bs).status 0

abbrev pub RecordExact : Type 0
RecordExact = (bs : List ℕ) (k : ℕ) → let r = (record_at bs k).reading in Exact (record_rules bs k) r.status r.dim

abbrev pub StartExact : Type 0
StartExact = (buffer : List ℕ) → Exact (start_rules buffer) (start_fault buffer).status 0

abbrev pub AppendExact : Type 0
AppendExact =
    (buffer : List ℕ) (n : ℕ) (t : Tensor) (c : Config) →
    let a = append_of buffer n t c in
    Exact (append_rules buffer n t c) a.status a.dim

-- what a bad record's answer has besides its number in the list is a refused reading: a number of refusal, its dimension, zeros
abbrev pub RecordZeros : Type 0
RecordZeros =
    (bs : List ℕ) (k : ℕ) → let r = (record_at bs k).reading in
    (r.status ≡ 0 → ⊥) → r ≡ no_reading (fault r.status r.dim)

-- a refused append tells no length
abbrev pub AppendZeros : Type 0
AppendZeros =
    (buffer : List ℕ) (n : ℕ) (t : Tensor) (c : Config) → let a = append_of buffer n t c in
    (a.status ≡ 0 → ⊥) → a ≡ no_append (fault a.status a.dim)

-- ---- What is handed out

-- a refused list has no records
abbrev pub RefusedNone : Type 0
RefusedNone = (bs : List ℕ) → ((list_fault bs).status ≡ 0 → ⊥) → record_count bs ≡ 0

-- one that is not refused ends where its last record does
abbrev pub GoodEnds : Type 0
GoodEnds = (bs : List ℕ) → (list_fault bs).status ≡ 0 → length bs ≡ list_length (record_count bs)

-- each record has its number, bad or not; past the last there is no record, and no place after
abbrev pub RecordsNumbered : Type 0
RecordsNumbered = (bs : List ℕ) (k : ℕ) → k < record_count bs → ((record_at bs k).number ≡ k) × (place_after bs k ≡ k + 1)

abbrev pub RecordsEnd : Type 0
RecordsEnd = (bs : List ℕ) (k : ℕ) → record_count bs ≤ k → (record_at bs k ≡ no_record) × (place_after bs k ≡ k)

-- a list holds only records of version 1: none that is handed out has a fill, and none that has one is appended
pub record NoFill : Type 0 where
  pub handed : (bs : List ℕ) (k : ℕ) → (record_at bs k).reading.config.fill ≡ 0
  pub appended : (buffer : List ℕ) (n : ℕ) (t : Tensor) (c : Config) → (append_of buffer n t c).status ≡ 0 → c.fill ≡ 0

-- from open on: after n calls, whatever they answered, the next one answers record n
abbrev pub HandedOut : Type 0
HandedOut = (bytes : Bor (List ℕ)) (n : ℕ) → answer (after_calls n (opened bytes).reader) ≡ record_at bytes.now n

-- a reader of whatever bytes, at whatever place: past the last it answers 39, and stays as it is
abbrev pub ReaderStays : Type 0
ReaderStays = (r : ListReader) → record_count r.bytes.now ≤ r.next → (answer r ≡ no_record) × (advanced r ≡ r)

-- a refused list is opened with no records, and its reader answers 39 for ever
abbrev pub RefusedHands : Type 0
RefusedHands =
    (bytes : Bor (List ℕ)) (n : ℕ) → let o = opened bytes in
    (o.status ≡ 0 → ⊥) → (o.count ≡ 0) × (answer (after_calls n o.reader) ≡ no_record)

-- from open on, from the count on: 39 for ever, and the reader stays as it is
abbrev pub HandedAll : Type 0
HandedAll =
    (bytes : Bor (List ℕ)) (n : ℕ) → record_count bytes.now ≤ n → let r = (opened bytes).reader in
    (answer (after_calls n r) ≡ no_record) × (after_calls (suc n) r ≡ after_calls n r)

-- ---- What changes in a buffer

-- a refused start or append changes no byte
abbrev pub StartUnchanged : Type 0
StartUnchanged = (buffer : List ℕ) → ((start_fault buffer).status ≡ 0 → ⊥) → started_buffer buffer ≡ buffer

abbrev pub AppendUnchanged : Type 0
AppendUnchanged =
    (buffer : List ℕ) (n : ℕ) (t : Tensor) (c : Config) →
    ((append_of buffer n t c).status ≡ 0 → ⊥) → appended_buffer buffer n t c ≡ buffer

-- start changes the head alone
abbrev pub StartAlone : Type 0
StartAlone =
    (buffer : List ℕ) →
    (length (started_buffer buffer) ≡ length buffer) ×
    ((i : ℕ) → list_head_length ≤ i → at (started_buffer buffer) i ≡ at buffer i)

-- an accepted append changes the two bytes of the count and the new record's alone, and tells where the list ends now
abbrev pub AppendAlone : Type 0
AppendAlone =
    (buffer : List ℕ) (n : ℕ) (t : Tensor) (c : Config) → (append_of buffer n t c).status ≡ 0 →
    let after = appended_buffer buffer n t c in
    (length after ≡ length buffer) ×
    ((i : ℕ) → (i < count_place) ⊎ ((count_place + 2 ≤ i) × (i < n)) ⊎ (n + record_length ≤ i) → at after i ≡ at buffer i) ×
    ((append_of buffer n t c).length ≡ n + record_length)
