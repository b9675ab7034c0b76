-- What bytes hold as a list: what is wrong with it, how many records it has, and each of them by its number.
use Rattle.std.specs.Prelude.{ℕ, ◌+◌, Bool, not, cond, List, ltb, leb, eqb, length}
use Rattle.faults.specs.declared.Fault.{Fault}
use Rattle.faults.specs.Faults.{fault, if_fault, Rules, overall, ◌then◌, first_fault}
use Rattle.plane.specs.Arrays.{at, some}
use Rattle.plane.specs.Numbers.{number}
use Rattle.record.specs.Layout.{part, record_length}
use Rattle.record.specs.Records.{read_rules, no_reading, read_of}
use Rattle.list.specs.declared.Numbered.{Numbered}
use Rattle.list.specs.Layout.{list_head_length, list_mark, list_version, version_place, count_place, list_length}

-- ---- The head

-- the count, unjudged
abbrev pub count_in : List ℕ → ℕ
count_in bs = number (part count_place 2 bs)

-- 25: no whole head
abbrev pub bad_head : List ℕ → Bool
bad_head bs = ltb (length bs) list_head_length

-- 26: another mark
abbrev pub bad_list_mark : List ℕ → Bool
bad_list_mark bs = some 3 (λ k. not (eqb (at bs k) (at list_mark k)))

-- 27: another version
abbrev pub bad_list_version : List ℕ → Bool
bad_list_version bs = not (eqb (number (part version_place 2 bs)) list_version)

-- 30: not as long as a list of that count
abbrev pub bad_count : List ℕ → Bool
bad_count bs = not (eqb (length bs) (list_length (count_in bs)))

abbrev pub list_rules : List ℕ → Rules
list_rules bs =
    overall 25 (bad_head bs) then
    overall 26 (bad_list_mark bs) then
    overall 27 (bad_list_version bs) then
    overall 30 (bad_count bs)

unfoldable pub list_fault : List ℕ → Fault
list_fault bs = first_fault (list_rules bs)

-- ---- The records

-- none in a refused list
unfoldable pub record_count : List ℕ → ℕ
record_count bs = if_fault (list_fault bs) 0 (count_in bs)

-- the bytes of record k
abbrev pub record_in : List ℕ → ℕ → List ℕ
record_in bs k = part (list_length k) record_length bs

-- 39: past the last
abbrev pub number_rules : List ℕ → ℕ → Rules
number_rules bs k = overall 39 (leb (record_count bs) k)

unfoldable pub number_fault : List ℕ → ℕ → Fault
number_fault bs k = first_fault (number_rules bs k)

-- and then the rules of reading it
abbrev pub record_rules : List ℕ → ℕ → Rules
record_rules bs k = number_rules bs k then read_rules (record_in bs k)

-- zeros besides the fault
abbrev pub no_number : Fault → Numbered
no_number f = record { number = 0; reading = no_reading f }

-- record k with its number, and what reading its bytes answers
unfoldable pub record_at : List ℕ → ℕ → Numbered
record_at bs k = if_fault (number_fault bs k) (no_number (number_fault bs k)) (record { number = k; reading = read_of (record_in bs k) })

-- what is handed out past the last
abbrev pub no_record : Numbered
no_record = no_number (fault 39 0)

-- the number after k; past the last k itself
unfoldable pub place_after : List ℕ → ℕ → ℕ
place_after bs k = cond (ltb k (record_count bs)) (k + 1) k
