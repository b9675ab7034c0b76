-- The bytes of a list: a head of seven bytes, and then the records, one behind the other.
use Rattle.std.specs.Prelude.{ℕ, ◌+◌, ◌*◌, List, [], ◌∷◌, ◌++◌}
use Rattle.plane.specs.Numbers.{little}
use Rattle.record.specs.Layout.{record_length}

-- mark, version and count
abbrev pub list_head_length : ℕ
list_head_length = 7

-- R, M, L
abbrev pub list_mark : List ℕ
list_mark = 82 ∷ 77 ∷ 76 ∷ []

-- the version, in two bytes from byte 3 on
abbrev pub list_version : ℕ
list_version = 1

abbrev pub version_place : ℕ
version_place = 3

-- how many records follow, in two bytes from byte 5 on
abbrev pub count_place : ℕ
count_place = 5

-- the most that two bytes can tell
abbrev pub most : ℕ
most = 65535

-- the head of a list of n records
abbrev pub list_head : ℕ → List ℕ
list_head n = list_mark ++ little 2 list_version ++ little 2 n

-- the bytes of a list of n records; so also the byte at which record n starts
abbrev pub list_length : ℕ → ℕ
list_length n = list_head_length + record_length * n
