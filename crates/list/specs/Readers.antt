-- A reader of a list: the lent bytes, and the number of the record that is next.
use Rattle.std.specs.Prelude.{ℕ, zero, suc, List}
use Rattle.std.specs.Borrow.{Bor}
use Rattle.list.specs.declared.ListReader.{ListReader}
use Rattle.list.specs.declared.Opened.{Opened}
use Rattle.list.specs.declared.FirstTwo.{FirstTwo}
use Rattle.list.specs.declared.Numbered.{Numbered}
use Rattle.list.specs.Lists.{list_fault, record_count, record_at, place_after}

-- a list opened: its reader has the bytes as they were lent, and is at the first record
abbrev pub opened : Bor (List ℕ) → Opened
opened bs = record {
  status = (list_fault bs.now).status;
  count = record_count bs.now;
  reader = record { bytes = bs; next = 0 };
}

-- what a reader hands out next
abbrev pub answer : ListReader → Numbered
answer r = record_at r.bytes.now r.next

-- the reader after that: the same bytes, at the place after
abbrev pub advanced : ListReader → ListReader
advanced r = record { bytes = r.bytes; next = place_after r.bytes.now r.next }

-- the reader after n records were asked for
unfoldable pub after_calls : ℕ → ListReader → ListReader
after_calls zero r = r
after_calls (suc n) r = advanced (after_calls n r)

-- what opening answers, and the first two records, in the words of the plain functions
unfoldable pub first_two_of : List ℕ → FirstTwo
first_two_of bs = record { status = (list_fault bs).status; count = record_count bs; first = record_at bs 0; second = record_at bs 1 }
