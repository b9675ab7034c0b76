-- The move record: what reading bytes answers, and what writing a tensor record and a configuration does.
use Rattle.std.specs.Prelude.{ℕ, ◌+◌, ◌^◌, Bool, cond, not, ◌&&◌, ◌||◌, List, ◌++◌, leb, ltb, eqb, length}
use Rattle.plane.specs.declared.Tensor.{Tensor}
use Rattle.plane.specs.declared.Config.{Config}
use Rattle.faults.specs.declared.Fault.{Fault}
use Rattle.plane.specs.Arrays.{at, some}
use Rattle.faults.specs.Faults.{if_fault, Rules, overall, from_first, ◌then◌, first_fault}
use Rattle.plane.specs.Planes.{zero_tensor, bad_rank, bad_element}
use Rattle.plane.specs.Numbers.{little}
use Rattle.plane.specs.Settings.{config_of, zero_config}
use Rattle.record.specs.declared.Reading.{Reading}
use Rattle.record.specs.Layout.{consecutive, twos_numbers, fill_width, length_of, version_by_length, version_for, mark, version_in, rank_in, size_in, fill_in}
use Rattle.record.specs.Layout.{head_bytes, group_count, group, width, start, four_in, four_bytes}

-- ---- The fields that bytes hold, and the bytes of fields

abbrev pub group_in : List ℕ → ℕ → List ℕ
group_in bs k = four_in (start k) (width k) bs

unfoldable pub tensor_in : List ℕ → Tensor
tensor_in bs = record { rank = rank_in bs; element_size = size_in bs; shape = group_in bs 0; stride = twos_numbers (group_in bs 1) }

unfoldable pub config_in : List ℕ → Config
config_in bs = config_of (λ k. group_in bs (2 + k)) (fill_in bs)

-- the first seven bytes, the groups, and in version 2 the fill
unfoldable pub record_bytes : Tensor → Config → List ℕ
record_bytes t c =
    head_bytes (version_for c) t.rank t.element_size ++
    consecutive group_count (λ k. four_bytes (width k) (group t c k)) ++
    little (fill_width (version_for c)) c.fill

-- how long a record is that begins with these bytes, by its version; too few to have one count as version 1
unfoldable pub length_in : List ℕ → ℕ
length_in bs = length_of (cond (ltb (length bs) 5) 1 (version_in bs))

-- ---- The numbers of refusal

-- 25: neither 131 nor 135 bytes
abbrev pub bad_length : ℕ → Bool
bad_length n = not (eqb n (length_of 1)) && not (eqb n (length_of 2))

-- and of a room: not of the version that is written
abbrev pub bad_room : Config → ℕ → Bool
bad_room c n = not (eqb n (length_of (version_for c)))

-- 26: another mark
abbrev pub bad_mark : List ℕ → Bool
bad_mark bs = some 3 (λ k. not (eqb (at bs k) (at mark k)))

-- 27: not the version of that length
abbrev pub bad_version : List ℕ → Bool
bad_version bs = not (eqb (version_in bs) (version_by_length (length bs)))

-- 28: d is at or past the rank, and some group has an entry there that is not 0
unfoldable pub stray : Tensor → Config → ℕ → Bool
stray t c d = leb t.rank d && some group_count (λ k. not (eqb (at (group t c k) d) 0))

-- 28 of version 2 besides: a fill of 0, or one with a byte past the z bytes of an element that is not 0
abbrev pub bad_fill : ℕ → ℕ → Bool
bad_fill z n = eqb n 0 || leb (256 ^ z) n

-- what read and write share: 1, for version 2 also 2, 28, and for version 2 also 28 at dimension 0
abbrev pub fields_rules : ℕ → Tensor → Config → Rules
fields_rules v t c =
    overall 1 (bad_rank t.rank) then
    overall 2 (eqb v 2 && bad_element t.element_size) then
    from_first 28 4 (stray t c) then
    overall 28 (eqb v 2 && bad_fill t.element_size c.fill)

unfoldable pub fields_fault : ℕ → Tensor → Config → Fault
fields_fault v t c = first_fault (fields_rules v t c)

-- 25, 26, 27, and those of the fields
abbrev pub read_rules : List ℕ → Rules
read_rules bs =
    overall 25 (bad_length (length bs)) then
    overall 26 (bad_mark bs) then
    overall 27 (bad_version bs) then
    fields_rules (version_by_length (length bs)) (tensor_in bs) (config_in bs)

unfoldable pub read_fault : List ℕ → Fault
read_fault bs = first_fault (read_rules bs)

-- for a room of n bytes: 25, and those of the fields
abbrev pub write_rules : Tensor → Config → ℕ → Rules
write_rules t c n = overall 25 (bad_room c n) then fields_rules (version_for c) t c

unfoldable pub write_fault : Tensor → Config → ℕ → Fault
write_fault t c n = first_fault (write_rules t c n)

-- ---- The answers

abbrev pub no_reading : Fault → Reading
no_reading f = record { status = f.status; dim = f.dim; tensor = zero_tensor; config = zero_config }

abbrev pub reading : Tensor → Config → Reading
reading t c = record { status = 0; dim = 0; tensor = t; config = c }

unfoldable pub read_of : List ℕ → Reading
read_of bs = if_fault (read_fault bs) (no_reading (read_fault bs)) (reading (tensor_in bs) (config_in bs))

-- a write answers its fault, and leaves a refused room as it was
unfoldable pub written_room : Tensor → Config → List ℕ → List ℕ
written_room t c room = if_fault (write_fault t c (length room)) room (record_bytes t c)
