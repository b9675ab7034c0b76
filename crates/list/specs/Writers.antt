-- What start and append answer, and what they do to the buffer that is lent.
use Rattle.std.specs.Prelude.{ℕ, ◌+◌, ◌-◌, not, List, ltb, eqb, length, take}
use Rattle.std.proofs.lemmas.List.Edits.{sets}
use Rattle.faults.specs.declared.Fault.{Fault}
use Rattle.faults.specs.Faults.{if_fault, Rules, overall, ◌then◌, first_fault}
use Rattle.plane.specs.declared.Tensor.{Tensor}
use Rattle.plane.specs.declared.Config.{Config}
use Rattle.plane.specs.Numbers.{little}
use Rattle.record.specs.Layout.{record_length}
use Rattle.record.specs.Records.{record_bytes, fields_rules}
use Rattle.list.specs.declared.Appended.{Appended}
use Rattle.list.specs.Layout.{list_head_length, count_place, most, list_head}
use Rattle.list.specs.Lists.{list_rules, record_count}

-- ---- An empty list

-- 38: no room for a head
abbrev pub start_rules : List ℕ → Rules
start_rules buffer = overall 38 (ltb (length buffer) list_head_length)

unfoldable pub start_fault : List ℕ → Fault
start_fault buffer = first_fault (start_rules buffer)

unfoldable pub started_buffer : List ℕ → List ℕ
started_buffer buffer = if_fault (start_fault buffer) buffer (sets buffer 0 (list_head 0))

-- ---- One record more, behind the list that the first n bytes are

-- the fields of a record that a list takes: 1 and 28, as of a record of version 1, and 27 for a fill, which version 1 does not have
abbrev pub member_rules : Tensor → Config → Rules
member_rules t c = fields_rules 1 t c then overall 27 (not (eqb c.fill 0))

unfoldable pub member_fault : Tensor → Config → Fault
member_fault t c = first_fault (member_rules t c)

-- 25 for a list said to be longer than the buffer, or for a list without a whole head; 26, 27, 30; 37 for a full list, 38 for no
-- room behind it; and then those of the fields
abbrev pub append_rules : List ℕ → ℕ → Tensor → Config → Rules
append_rules buffer n t c =
    overall 25 (ltb (length buffer) n) then
    list_rules (take n buffer) then
    overall 37 (eqb (record_count (take n buffer)) most) then
    overall 38 (ltb (length buffer - n) record_length) then
    member_rules t c

unfoldable pub append_fault : List ℕ → ℕ → Tensor → Config → Fault
append_fault buffer n t c = first_fault (append_rules buffer n t c)

-- a refused append tells no length
abbrev pub no_append : Fault → Appended
no_append f = record { status = f.status; dim = f.dim; length = 0 }

unfoldable pub append_of : List ℕ → ℕ → Tensor → Config → Appended
append_of buffer n t c =
    if_fault (append_fault buffer n t c) (no_append (append_fault buffer n t c)) (record { status = 0; dim = 0; length = n + record_length })

-- the record's bytes behind the list, and in its head one record more; a refused append leaves the buffer as it was
unfoldable pub appended_buffer : List ℕ → ℕ → Tensor → Config → List ℕ
appended_buffer buffer n t c =
    if_fault (append_fault buffer n t c) buffer
    (sets (sets buffer n (record_bytes t c)) count_place (little 2 (record_count (take n buffer) + 1)))
