-- What the theorems claim of refusals of read and write. RoundTrip has what they claim of there and back.
use Rattle.std.specs.Prelude.{ℕ, ◌≡◌, List, length}
use Rattle.faults.specs.Faults.{fault}
use Rattle.faults.specs.Exactness.{Exact}
use Rattle.plane.specs.declared.Tensor.{Tensor}
use Rattle.plane.specs.declared.Config.{Config}
use Rattle.record.specs.Records.{fields_rules, fields_fault, read_rules, write_rules, write_fault, no_reading, read_of, written_room}

-- every answer is exact for the rules of its call
abbrev pub ReadExact : Type 0
ReadExact = (bs : List ℕ) → let a = read_of bs in Exact (read_rules bs) a.status a.dim

abbrev pub FieldsExact : Type 0
FieldsExact =
    (v : ℕ) (t : Tensor) (c : Config) → let f = fields_fault v t c in Exact (fields_rules v t c) f.status f.dim

abbrev pub WriteExact : Type 0
WriteExact = (t : Tensor) (c : Config) (n : ℕ) → let f = write_fault t c n in Exact (write_rules t c n) f.status f.dim

-- besides its number and dimension a refused reading is zeros
abbrev pub ReadZeros : Type 0
ReadZeros = (bs : List ℕ) → let a = read_of bs in (a.status ≡ 0 → ⊥) → a ≡ no_reading (fault a.status a.dim)

-- a refused write changes no byte
abbrev pub WriteUnchanged : Type 0
WriteUnchanged =
    (t : Tensor) (c : Config) (room : List ℕ) → ((write_fault t c (length room)).status ≡ 0 → ⊥) → written_room t c room ≡ room
