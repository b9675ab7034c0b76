-- What "there and back" says: signed numbers and their words, fields that fit a record, bytes, and bytes that are the writing of one pair
-- of fields.
use Rattle.std.specs.Prelude.{ℕ, ◌^◌, ◌≤◌, ◌<◌, ◌≡◌, ◌↔◌, List, ℤ, pos, neg_ℤ, ◌-ℤ◌, length, take}
use Rattle.std.specs.Int.Signed.{mag}
use Rattle.plane.specs.declared.Tensor.{Tensor}
use Rattle.plane.specs.declared.Config.{Config}
use Rattle.plane.specs.Arrays.{at}
use Rattle.plane.specs.Signs.{at_z}
use Rattle.record.specs.Layout.{twos_word, twos_number, version_for, group_count, group, width}
use Rattle.record.specs.Records.{record_bytes, length_in, fields_fault, write_fault, reading, read_of, written_room}

-- a signed number in the range of 32 bits, -2,147,483,648 to 2,147,483,647: `mag` is n both for n and for -1 - n
abbrev pub InRange : ℤ → Type 0
InRange z = mag z < 2147483648

-- what the types of the code say of the fields: arrays of four entries, each entry fits its bytes, and strides are in range
pub record Fits (t : Tensor) (c : Config) : Type 0 where
  pub rank : t.rank < 256
  pub element : t.element_size < 256
  pub long : (k : ℕ) → k < group_count → length (group t c k) ≡ 4
  pub small : (k d : ℕ) → k < group_count → d < 4 → at (group t c k) d < 256 ^ width k
  pub strides : (d : ℕ) → d < 4 → InRange (at_z t.stride d)
  pub fill : c.fill < 256 ^ 4

-- every entry is a byte; past the end it is 0
abbrev pub Bytes : List ℕ → Type 0
Bytes bs = (i : ℕ) → at bs i < 256

-- bytes are the writing of one tensor record with one configuration, which a write accepts, and of no others
pub record OneWriting (bs : List ℕ) : Type 0 where
  pub tensor : Tensor
  pub config : Config
  pub fits : Fits tensor config
  pub accepts : (fields_fault (version_for config) tensor config).status ≡ 0
  pub is : record_bytes tensor config ≡ bs
  pub only : (t : Tensor) (c : Config) → Fits t c → record_bytes t c ≡ bs → (t ≡ tensor) × (c ≡ config)

-- ---- the sentences on words

-- a word below 2,147,483,648 is the number that it is, any other of 32 bits the number that is 4,294,967,296 less. So every number in range
-- has one word, every word of 32 bits is one number in range, and 0 alone has the word 0
pub record TwosComplement : Type 0 where
  pub low : (x : ℕ) → x < 2147483648 → twos_number x ≡ pos x
  pub high : (x : ℕ) → 2147483648 ≤ x → x < 4294967296 → twos_number x ≡ pos x -ℤ pos 4294967296
  pub in_range : (x : ℕ) → x < 4294967296 → InRange (twos_number x)
  pub is_word : (z : ℤ) → InRange z → twos_word z < 4294967296
  pub number_back : (z : ℤ) → InRange z → twos_number (twos_word z) ≡ z
  pub word_back : (x : ℕ) → x < 4294967296 → twos_word (twos_number x) ≡ x
  pub only_zero : (z : ℤ) → InRange z → twos_word z ≡ 0 → z ≡ pos 0

-- x is the word of z, and z the number of x
abbrev pub IsWord : ℕ → ℤ → Type 0
IsWord x z = (twos_number x ≡ z) × (twos_word z ≡ x)

-- around 0, and at both ends of the range
pub record WordsAtTheEnds : Type 0 where
  pub zero : IsWord 0 (pos 0)
  pub one : IsWord 1 (pos 1)
  pub minus_one : IsWord 4294967295 (neg_ℤ (pos 1))
  pub most : IsWord 2147483647 (pos 2147483647)
  pub least : IsWord 2147483648 (neg_ℤ (pos 2147483648))
  pub next_to_least : IsWord 2147483649 (neg_ℤ (pos 2147483647))

-- ---- the sentences on records

-- what is written reads back to the same fields
abbrev pub ReadBack : Type 0
ReadBack =
    (t : Tensor) (c : Config) → Fits t c → (room : List ℕ) → (write_fault t c (length room)).status ≡ 0 →
    read_of (written_room t c room) ≡ reading t c

-- what is read and accepted, a write accepts too, and over any room that is as long it writes the same bytes
abbrev pub WriteBack : Type 0
WriteBack =
    (bs room : List ℕ) → Bytes bs → (read_of bs).status ≡ 0 → length room ≡ length bs →
    let r = read_of bs in
    ((write_fault r.tensor r.config (length room)).status ≡ 0) × (written_room r.tensor r.config room ≡ bs)

-- the first bytes of what is read and accepted, five or more, tell how long it is
abbrev pub ReadLength : Type 0
ReadLength = (bs : List ℕ) (n : ℕ) → 5 ≤ n → (read_of bs).status ≡ 0 → length_in (take n bs) ≡ length bs

-- equal fields and equal bytes go together
abbrev pub SameFieldsSameBytes : Type 0
SameFieldsSameBytes =
    (t : Tensor) (c : Config) (t' : Tensor) (c' : Config) → Fits t c → Fits t' c' →
    (record_bytes t c ≡ record_bytes t' c') ↔ ((t ≡ t') × (c ≡ c'))

-- a read accepts exactly the bytes that are one writing; all others it refuses (`ReadExact` has the number)
abbrev pub AcceptedOnce : Type 0
AcceptedOnce = (bs : List ℕ) → Bytes bs → ((read_of bs).status ≡ 0) ↔ OneWriting bs
