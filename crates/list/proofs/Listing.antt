-- Laws of a list as its head and the bytes of its records: what it opens as, and that bytes which open are one. Assumes nothing.
use Prim.Native.Nat.{ℕ, ◌+◌, ◌*◌, ◌^◌, ◌≤◌, ◌<◌}
use native.Mathlib.Omega.{arith}
use mathlib.Core.Path.{◌≡◌, refl, sym, ap, ◌∙◌}
use mathlib.Core.Bool.{false, not}
use mathlib.Core.List.{List, ◌++◌}
use borrow.Author.Tests.{le-ltb, eq-eqb}
use lib.ListN.{length, drop, length-append, length-drop, take-append-drop}
use Rattle.plane.specs.Arrays.{some}
use Rattle.faults.proofs.Faults.{status, when_good, spared}
use Rattle.plane.specs.Numbers.{little, number}
use Rattle.record.specs.Layout.{part, record_length}
use Rattle.record.specs.Records.{read_of}
use Rattle.record.specs.RoundTrip.{Bytes}
use Rattle.record.proofs.Parts.{length_part, part_append}
use Rattle.record.proofs.Digits.{bytes_part, number_little, little_number, number_fits, head_is}
use Rattle.list.specs.Layout.{list_head_length, count_place, most, list_head, list_length}
use Rattle.list.specs.Lists.{count_in, bad_head, bad_list_mark, bad_list_version, bad_count, list_fault, record_count, record_at}
use Rattle.list.proofs.Answers.{good, count-given, at_in}

-- ---- a head, and what follows it

-- a head has its length
pub length_head : (n : ℕ) → length (list_head n) ≡ list_head_length
unfolding little
length_head n = refl

-- a list has the bytes of its head and those of its records
pub length_listed : (n : ℕ) (body : List ℕ) → length body ≡ record_length * n → length (list_head n ++ body) ≡ list_length n
length_listed n body l =
    let e = length-append (list_head n) body in
    let h = length_head n in
    omega arith

-- a part behind the head
part_listed : (n : ℕ) (body : List ℕ) (p w : ℕ) → part (list_head_length + p) w (list_head n ++ body) ≡ part p w body
unfolding little
part_listed n body p w = part_append (list_head n) body p w

-- a count that two bytes can tell is told
count_listed : (n : ℕ) (body : List ℕ) → n ≤ most → count_in (list_head n ++ body) ≡ n
unfolding little
count_listed n body h = number_little 2 n (omega arith)

-- its mark and its version are good
mark_listed : (n : ℕ) (body : List ℕ) → bad_list_mark (list_head n ++ body) ≡ false
unfolding some
mark_listed n body = refl

version_listed : (n : ℕ) (body : List ℕ) → bad_list_version (list_head n ++ body) ≡ false
unfolding little number
version_listed n body = refl

-- ---- a list of n records: no more than the count can tell, and as long as it says

pub record Sound (n : ℕ) (body : List ℕ) : Type 0 where
  pub few : n ≤ most
  pub long : length body ≡ record_length * n

module _ (n : ℕ) (body : List ℕ) (s : Sound n body) where
  -- it opens
  pub listed_opens : (list_fault (list_head n ++ body)).status ≡ 0
  unfolding list_fault
  listed_opens =
      let bs = list_head n ++ body in
      let l = length_listed n body s.long in
      let h : bad_head bs ≡ false = le-ltb (length bs) list_head_length (omega arith) in
      let c : bad_count bs ≡ false = ap not (eq-eqb (length bs) (list_length (count_in bs)) (l ∙ ap list_length (sym (count_listed n body s.few)))) in
      status (spared 25 0 _ _ h ∙ spared 26 0 _ _ (mark_listed n body) ∙ spared 27 0 _ _ (version_listed n body) ∙ when_good 30 0 _ c)

  -- it has n records
  pub listed_count : record_count (list_head n ++ body) ≡ n
  listed_count = count-given (list_head n ++ body) listed_opens ∙ count_listed n body s.few

  -- and they are the parts of its body
  pub listed_record : (k : ℕ) → k < n → record_at (list_head n ++ body) k ≡ record { number = k; reading = read_of (part (record_length * k) record_length body) }
  listed_record k h =
      at_in (list_head n ++ body) k (rw listed_count h) ∙
      ap (λ (bs : List ℕ). record { number = k; reading = read_of bs }) (part_listed n body (record_length * k) record_length)

-- ---- bytes that open

module _ (bs : List ℕ) (z : (list_fault bs).status ≡ 0) where
  -- they end where their last record does
  pub opened_ends : length bs ≡ list_length (record_count bs)
  opened_ends = (good bs z).long ∙ ap list_length (sym (count-given bs z))

  module _ (b : Bytes bs) where
    -- the count's bytes are where it was read
    count_bytes : little 2 (count_in bs) ≡ part count_place 2 bs
    count_bytes =
        let l = (good bs z).head in
        let n = length_part count_place 2 bs (omega arith) in
        ap (λ (w : ℕ). little w (count_in bs)) (sym n) ∙ little_number (part count_place 2 bs) (bytes_part bs b count_place 2)

    -- their head says the count
    head_bytes_lem : list_head (count_in bs) ≡ part 0 list_head_length bs
    head_bytes_lem = head_is 82 77 76 1 bs _ b (good bs z).head (good bs z).mark (good bs z).version count_bytes

    -- so they are a list
    pub opened_is : bs ≡ list_head (record_count bs) ++ drop list_head_length bs
    opened_is =
        sym (take-append-drop list_head_length bs) ∙
        ap (λ (h : List ℕ). h ++ drop list_head_length bs) (sym head_bytes_lem ∙ ap list_head (sym (count-given bs z)))

    -- whose count two bytes tell, and which is as long as it says
    pub opened_sound : Sound (record_count bs) (drop list_head_length bs)
    opened_sound =
        let l = (good bs z).head in
        let e = opened_ends in
        let d = length-drop list_head_length bs in
        let p = length_part count_place 2 bs (omega arith) in
        let f = number_fits (part count_place 2 bs) (bytes_part bs b count_place 2) in
        let g : count_in bs < 256 ^ 2 = rw p at f in
        let c = count-given bs z in
        record { few = omega arith; long = omega arith }
