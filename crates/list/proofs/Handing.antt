-- What a reader hands out from open on: the records in order, and then 39 for ever. Assumes nothing.
use Prim.Native.Nat.{ℕ, zero, suc, min, ◌≤◌, ◌<◌}
use native.Mathlib.Omega.{arith}
use mathlib.Core.Path.{◌≡◌, sym, ap, ◌∙◌}
use mathlib.Core.Logic.{⊎_elim}
use mathlib.Core.List.{List}
use denote.Ref.{Bor}
use Rattle.list.specs.declared.Numbered.{Numbered}
use Rattle.list.specs.declared.Opened.{Opened}
use Rattle.list.specs.Lists.{record_count, record_at, place_after}
use Rattle.list.specs.Readers.{opened, answer, advanced, after_calls, first_two_of}
use Rattle.list.specs.Claims.{RefusedNone, GoodEnds, RecordsNumbered, RecordsEnd, HandedOut, ReaderStays, RefusedHands, HandedAll}
use Rattle.list.proofs.Answers.{in-or-past, count_none, at-past, at_in, after-past, after-in}
use Rattle.list.proofs.Listing.{opened_ends}

-- ---- by number

pub refused_none : RefusedNone
refused_none bs h = count_none bs h

pub good_ends : GoodEnds
good_ends bs z = opened_ends bs z

pub records_numbered : RecordsNumbered
records_numbered bs k h = (ap (λ (r : Numbered). r.number) (at_in bs k h), after-in bs k h)

pub records_end : RecordsEnd
records_end bs k h = (at-past bs k h, after-past bs k h)

-- ---- by a reader

module _ (bs : List ℕ) where
  -- the place after n calls, and what one call more makes of it
  place_calls : (n : ℕ) → place_after bs (min n (record_count bs)) ≡ min (suc n) (record_count bs)
  place_calls n = ⊎_elim within past (in-or-past n (record_count bs))
    where
      within : n < record_count bs → place_after bs (min n (record_count bs)) ≡ min (suc n) (record_count bs)
      within l =
          let m : min n (record_count bs) ≡ n = omega arith in
          ap (place_after bs) m ∙ after-in bs n l ∙ omega arith

      past : record_count bs ≤ n → place_after bs (min n (record_count bs)) ≡ min (suc n) (record_count bs)
      past l =
          let m : min n (record_count bs) ≡ record_count bs = omega arith in
          ap (place_after bs) m ∙ after-past bs (record_count bs) (omega arith) ∙ omega arith

  -- there, record n is handed out
  record_calls : (n : ℕ) → record_at bs (min n (record_count bs)) ≡ record_at bs n
  record_calls n = ⊎_elim within past (in-or-past n (record_count bs))
    where
      within : n < record_count bs → record_at bs (min n (record_count bs)) ≡ record_at bs n
      within l = let m : min n (record_count bs) ≡ n = omega arith in ap (record_at bs) m

      past : record_count bs ≤ n → record_at bs (min n (record_count bs)) ≡ record_at bs n
      past l = at-past bs (min n (record_count bs)) (omega arith) ∙ sym (at-past bs n l)

-- a reader after n calls
after_calls_lem : (bytes : Bor (List ℕ)) (n : ℕ) → after_calls n (opened bytes).reader ≡ record { bytes = bytes; next = min n (record_count bytes.now) }
unfolding after_calls
after_calls_lem bytes zero = ap (λ (n : ℕ). record { bytes = bytes; next = n }) (omega arith)
after_calls_lem bytes (suc n) = ap advanced (after_calls_lem bytes n) ∙ ap (λ (k : ℕ). record { bytes = bytes; next = k }) (place_calls bytes.now n)

pub handed_out : HandedOut
handed_out bytes n = ap answer (after_calls_lem bytes n) ∙ record_calls bytes.now n

pub reader_stays : ReaderStays
reader_stays r h = (at-past r.bytes.now r.next h, ap (λ (k : ℕ). record { bytes = r.bytes; next = k }) (after-past r.bytes.now r.next h))

pub refused_hands : RefusedHands
refused_hands bytes n h =
    let z = count_none bytes.now h in
    (z, handed_out bytes n ∙ at-past bytes.now n (omega arith))

pub handed_all : HandedAll
handed_all bytes n h = (
  handed_out bytes n ∙ at-past bytes.now n h,
  after_calls_lem bytes (suc n) ∙ ap (λ (k : ℕ). record { bytes = bytes; next = k }) (omega arith) ∙ sym (after_calls_lem bytes n),
)

-- what is opened, and asked for twice, comes to the answer in the words of the plain functions
pub by_reader : (bytes : Bor (List ℕ)) (r : Opened) (n n' : Numbered) → r ≡ opened bytes → n ≡ answer r.reader → n' ≡ answer (advanced r.reader) → record { status = r.status; count = r.count; first = n; second = n' } ≡ first_two_of bytes.now
unfolding first_two_of after_calls
by_reader bytes r n n' e one two =
    let first = one ∙ ap (λ (o : Opened). answer o.reader) e in
    let second = two ∙ ap (λ (o : Opened). answer (advanced o.reader)) e ∙ handed_out bytes 1 in
    λ i. record { status = (e i).status; count = (e i).count; first = first i; second = second i }
