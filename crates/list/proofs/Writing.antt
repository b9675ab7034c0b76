-- What start and append come to where a test in code stops them, and where none does. Assumes nothing.
use Prim.Native.Nat.{ℕ, ◌+◌, ◌-◌, ◌≤◌, ◌<◌}
use native.Mathlib.Decide.{ℕ_discrete}
use native.Mathlib.Omega.{arith}
use mathlib.Core.Path.{◌≡◌, refl, sym, ap, ◌∙◌}
use mathlib.Core.Bool.{false}
use mathlib.Core.List.{List}
use borrow.Author.Tests.{eqb-false, ltb-false, lt-ltb, le-ltb, eq-eqb, ne_eqb}
use borrow.Rule.Slice.PartMut.{mid_of, put_mid}
use lib.Dec.{ltb, eqb}
use lib.ListN.{length, take, drop, length-drop}
use lib.Seq.{sets, length-sets, length-take-le}
use Rattle.faults.specs.Faults.{fault, when, ◌or_else◌}
use Rattle.faults.proofs.Chains.{unbroken, unbroken_accepts}
use Rattle.faults.proofs.Faults.{status, is_fault, given, spared, passed, stopped, if_fault_lem, if_none, when_bad, when_good}
use Rattle.plane.specs.declared.Tensor.{Tensor}
use Rattle.plane.specs.declared.Config.{Config}
use Rattle.plane.specs.Numbers.{little}
use Rattle.record.specs.Layout.{record_length, length_of}
use Rattle.record.specs.Records.{record_bytes, write_fault, written_room}
use Rattle.record.proofs.Answers.{write-fields, room-written}
use Rattle.record.proofs.Parts.{part_put}
use Rattle.list.specs.declared.Appended.{Appended}
use Rattle.list.specs.Layout.{list_head_length, count_place, most, list_head, list_mark, list_version}
use Rattle.list.specs.Lists.{count_in, list_rules, list_fault, record_count}
use Rattle.list.specs.Writers.{start_fault, started_buffer, member_rules, member_fault, append_rules, append_fault, no_append, append_of, appended_buffer}
use Rattle.list.proofs.Answers.{good, count-given}
use Rattle.list.proofs.Members.{version_one, member_length, member_written}

-- ---- an empty list

module _ (buffer : List ℕ) where
  pub start_same : ((start_fault buffer).status ≡ 0 → ⊥) → started_buffer buffer ≡ buffer
  unfolding started_buffer
  start_same h = if_fault_lem (start_fault buffer) buffer (sets buffer 0 (list_head 0)) h

  pub start_given : (start_fault buffer).status ≡ 0 → started_buffer buffer ≡ sets buffer 0 (list_head 0)
  unfolding started_buffer
  start_given z = if_none (start_fault buffer) buffer (sets buffer 0 (list_head 0)) z

  -- as the code comes to it
  pub start_38 : length buffer < list_head_length → (38 ≡ (start_fault buffer).status) × (buffer ≡ started_buffer buffer)
  unfolding start_fault
  start_38 h = let e = when_bad 38 0 _ (lt-ltb (length buffer) list_head_length h) in (sym (status e), sym (start_same (is_fault 38 0 (omega arith) e)))

  pub start_0 : list_head_length ≤ length buffer → (start_fault buffer).status ≡ 0
  unfolding start_fault
  start_0 h = status (when_good 38 0 _ (le-ltb (length buffer) list_head_length h))

  -- the head, piece by piece
  pub start_laid : {a b d : List ℕ} → list_head_length ≤ length buffer → a ≡ list_mark → b ≡ little 2 list_version → d ≡ sets (put_mid 3 2 (put_mid 0 3 buffer a) b) 5 (little 2 0) → d ≡ sets buffer 0 (list_head 0)
  unfolding little
  start_laid {a} {b} h ea eb ed =
      let m = sets buffer 0 list_mark in
      let one : put_mid 0 3 buffer a ≡ m = part_put buffer 0 list_mark a (omega arith) ea in
      let long = length-sets buffer 0 list_mark in
      let two : put_mid 3 2 m b ≡ sets m 3 (little 2 list_version) = part_put m 3 (little 2 list_version) b (omega (arith, long)) eb in
      ed ∙ ap (λ (l : List ℕ). sets (put_mid 3 2 l b) 5 (little 2 0)) one ∙ ap (λ (l : List ℕ). sets l 5 (little 2 0)) two

-- ---- one record more, behind the list that the first n bytes are

module _ (buffer : List ℕ) (n : ℕ) (t : Tensor) (c : Config) where
  pub append_same : ((append_fault buffer n t c).status ≡ 0 → ⊥) → appended_buffer buffer n t c ≡ buffer
  unfolding appended_buffer
  append_same h = if_fault_lem (append_fault buffer n t c) buffer _ h

  pub append_given : (append_fault buffer n t c).status ≡ 0 → appended_buffer buffer n t c ≡ sets (sets buffer n (record_bytes t c)) count_place (little 2 (record_count (take n buffer) + 1))
  unfolding appended_buffer
  append_given z = if_none (append_fault buffer n t c) buffer _ z

  pub append_refused : ((append_fault buffer n t c).status ≡ 0 → ⊥) → append_of buffer n t c ≡ no_append (append_fault buffer n t c)
  unfolding append_of
  append_refused h = if_fault_lem (append_fault buffer n t c) (no_append (append_fault buffer n t c)) _ h

  pub append_told : (append_fault buffer n t c).status ≡ 0 → append_of buffer n t c ≡ record { status = 0; dim = 0; length = n + record_length }
  unfolding append_of
  append_told z = if_none (append_fault buffer n t c) (no_append (append_fault buffer n t c)) _ z

  -- an answer's number is its fault's
  pub append_status : (append_of buffer n t c).status ≡ (append_fault buffer n t c).status
  append_status = elim (ℕ_discrete (append_fault buffer n t c).status 0) [
    | yes z ↦ ap (λ (a : Appended). a.status) (append_told z) ∙ sym z
    | no z ↦ ap (λ (a : Appended). a.status) (append_refused z)
  ]

  -- an append that is accepted is behind a list
  pub append_behind : (append_fault buffer n t c).status ≡ 0 → (n ≤ length buffer) × ((list_fault (take n buffer)).status ≡ 0)
  unfolding append_fault list_fault
  append_behind z =
      let u = unbroken (append_rules buffer n t c) (omega arith) z in
      (ltb-false (length buffer) n u.0, unbroken_accepts (list_rules (take n buffer)) u.1.0)

  -- and its fields are such as a list takes
  pub append_member : (append_fault buffer n t c).status ≡ 0 → (member_fault t c).status ≡ 0
  unfolding append_fault member_fault
  append_member z = unbroken_accepts (member_rules t c) (unbroken (append_rules buffer n t c) (omega arith) z).1.1.1.1

  -- ---- as the code comes to it

  pub append_25 : length buffer < n → append_fault buffer n t c ≡ fault 25 0
  unfolding append_fault list_fault member_fault
  append_25 h = given 25 0 _ _ (omega arith) (lt-ltb (length buffer) n h)

  module _ (within : n ≤ length buffer) where
    -- a list is refused with its own number
    pub append_list : ((list_fault (take n buffer)).status ≡ 0 → ⊥) → append_fault buffer n t c ≡ list_fault (take n buffer)
    unfolding append_fault list_fault member_fault
    append_list h = spared 25 0 _ _ (le-ltb (length buffer) n within) ∙ stopped _ refl h

    module _ (listed : (list_fault (take n buffer)).status ≡ 0) where
      -- the list so far has a whole head
      pub head_within : list_head_length ≤ n
      head_within = let g = (good (take n buffer) listed).head in let l = length-take-le n buffer within in omega arith

      -- what can be wrong behind it: 37, 38, and what the fields have
      pub append_rest : append_fault buffer n t c ≡ (when 37 0 (eqb (record_count (take n buffer)) most) or_else when 38 0 (ltb (length buffer - n) record_length) or_else member_fault t c)
      unfolding append_fault list_fault member_fault
      append_rest = spared 25 0 _ _ (le-ltb (length buffer) n within) ∙ passed _ refl listed

      pub count_so_far : count_in (take n buffer) ≡ record_count (take n buffer)
      count_so_far = sym (count-given (take n buffer) listed)

      pub append_37 : count_in (take n buffer) ≡ most → append_fault buffer n t c ≡ fault 37 0
      append_37 e = append_rest ∙ given 37 0 _ _ (omega arith) (eq-eqb (record_count (take n buffer)) most (sym count_so_far ∙ e))

      module _ (more : count_in (take n buffer) ≡ most → ⊥) where
        not_full : eqb (record_count (take n buffer)) most ≡ false
        not_full = ne_eqb (record_count (take n buffer)) most (λ e. more (count_so_far ∙ e))

        pub append_38 : length buffer - n < record_length → append_fault buffer n t c ≡ fault 38 0
        append_38 h = append_rest ∙ spared 37 0 _ _ not_full ∙ given 38 0 _ _ (omega arith) (lt-ltb (length buffer - n) record_length h)

        module _ (space : record_length ≤ length buffer - n) where
          pub append_fields : append_fault buffer n t c ≡ member_fault t c
          append_fields = append_rest ∙ spared 37 0 _ _ not_full ∙ spared 38 0 _ _ (le-ltb (length buffer - n) record_length space)

  -- an append that is accepted has room, and the count can grow
  module _ (y : (append_fault buffer n t c).status ≡ 0) where
    pub append_room : n + record_length ≤ length buffer
    unfolding append_fault list_fault member_fault
    append_room =
        let u = unbroken (append_rules buffer n t c) (omega arith) y in
        let w = ltb-false (length buffer) n u.0 in
        let r = ltb-false (length buffer - n) record_length u.1.1.1.0 in
        omega arith

    pub append_more : record_count (take n buffer) ≡ most → ⊥
    unfolding append_fault list_fault member_fault
    append_more = eqb-false _ _ (unbroken (append_rules buffer n t c) (omega arith) y).1.1.0

    -- the part that is lent to the record's write
    abbrev Lent : List ℕ
    Lent = mid_of n (n + record_length - n) buffer

    lent_length : length Lent ≡ record_length
    lent_length =
        let h = append_room in
        let k : n + record_length - n ≡ record_length = omega arith in
        length-take-le (n + record_length - n) (drop n buffer) (omega (arith, length-drop n buffer)) ∙ k

    written : (write_fault t c (length Lent)).status ≡ 0
    written =
        let z = append_member y in
        status (write-fields t c (length Lent) (lent_length ∙ sym (ap length_of (version_one t c z)))) ∙ member_written t c z

    -- as the code comes to it: the write put the record behind the list
    module _ {l : List ℕ} (w : l ≡ written_room t c Lent) where
      placed : put_mid n (n + record_length - n) buffer l ≡ sets buffer n (record_bytes t c)
      placed =
          let bs = record_bytes t c in
          let h = append_room in
          let long = member_length t c (append_member y) in
          let end : n + length bs ≡ n + record_length = ap (λ (m : ℕ). n + m) long in
          ap (λ (k : ℕ). put_mid n (k - n) buffer l) (sym end) ∙ part_put buffer n bs l (omega arith) (w ∙ room-written t c Lent written)

      pub append_0 : {k : ℕ} {after : List ℕ} → k ≡ record_count (take n buffer) → after ≡ sets (put_mid n (n + record_length - n) buffer l) count_place (little 2 (k + 1)) → after ≡ appended_buffer buffer n t c
      append_0 ke ae = ae ∙ rw (placed, ke) (sym (append_given y))
