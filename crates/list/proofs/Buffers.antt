-- Laws of a buffer with a list at its start: what start leaves, and what an append behind the list comes to. Assumes nothing.
use Prim.Native.Nat.{ℕ, suc, ◌+◌, ◌-◌, ◌*◌, ◌≤◌, ◌<◌}
use native.Mathlib.Numerals.{add-one}
use native.Mathlib.Omega.{arith}
use mathlib.Core.Path.{◌≡◌, refl, sym, ap, ap₂, ◌∙◌}
use mathlib.Core.List.{List, [], ◌++◌, append_assoc}
use borrow.Author.Tests.{ltb-false, le-ltb, eqb-false, ne_eqb}
use lib.Dec.{ltb, eqb}
use lib.ListN.{length, take, drop, length-append}
use lib.Seq.{sets, length-sets, sets-eq, take_at}
use Rattle.plane.specs.declared.Tensor.{Tensor}
use Rattle.plane.specs.declared.Config.{Config}
use Rattle.faults.specs.Faults.{when, ◌or_else◌}
use Rattle.faults.proofs.Faults.{status, or_clear, or_path, when_clear, spared}
use Rattle.plane.specs.Numbers.{little}
use Rattle.record.specs.Layout.{record_length}
use Rattle.record.specs.Records.{record_bytes}
use Rattle.record.proofs.Parts.{sets_next}
use Rattle.list.specs.declared.Appended.{Appended}
use Rattle.list.specs.Layout.{list_head_length, count_place, most, list_head, list_length}
use Rattle.list.specs.Lists.{list_fault, record_count}
use Rattle.list.specs.Writers.{start_fault, started_buffer, member_fault, append_fault, append_of, appended_buffer}
use Rattle.list.proofs.Members.{member_length}
use Rattle.list.proofs.Writing.{start_given, append_given, append_told, append_member, append_rest}
use Rattle.list.proofs.Listing.{Sound, length_head, length_listed, listed_opens, listed_count}

-- after is the buffer with a list of n records at its start, which ends at len
pub record Lies (buffer : List ℕ) (n : ℕ) (body after : List ℕ) (len : ℕ) : Type 0 where
  pub is : after ≡ sets buffer 0 (list_head n ++ body)
  pub ends : len ≡ list_length n
  pub sound : Sound n body
  pub room : list_length n ≤ length buffer

-- ---- start

-- an accepted start leaves a list of no records
pub start_lies : (buffer : List ℕ) → (start_fault buffer).status ≡ 0 → Lies buffer 0 [] (started_buffer buffer) list_head_length
unfolding start_fault little
start_lies buffer z = record {
  is = start_given buffer z;
  ends = refl;
  sound = record { few = omega arith; long = refl };
  room = ltb-false _ _ (when_clear 38 0 (ltb (length buffer) list_head_length) (omega arith) z);
}

-- ---- append

-- the count stored over the count of a list that a buffer has room for
count_stored : (n m : ℕ) (body buffer : List ℕ) → length (list_head n ++ body) ≤ length buffer → sets (sets buffer 0 (list_head n ++ body)) count_place (little 2 m) ≡ sets buffer 0 (list_head m ++ body)
unfolding little
count_stored n m body buffer h =
    ap (λ (a : List ℕ). sets a count_place (little 2 m)) (sets-eq (list_head n ++ body) buffer 0 (omega arith)) ∙
    sym (sets-eq (list_head m ++ body) buffer 0 (omega arith))

module _ (buffer : List ℕ) (n : ℕ) (body after : List ℕ) (len : ℕ) (s : Lies buffer n body after len) where
  -- the list, and then what the buffer has behind it
  lies_whole : after ≡ list_head n ++ body ++ drop (list_length n) buffer
  lies_whole =
      let l = length_listed n body s.sound.long in
      let r = s.room in
      s.is ∙ sets-eq (list_head n ++ body) buffer 0 (omega arith) ∙
      ap (λ (k : ℕ). list_head n ++ body ++ drop k buffer) (let z : 0 + length (list_head n ++ body) ≡ list_length n = omega arith in z)

  -- as long as the buffer was
  lies_length : length after ≡ length buffer
  lies_length = ap length s.is ∙ length-sets buffer 0 (list_head n ++ body)

  -- the list alone
  pub lies_taken : take len after ≡ list_head n ++ body
  lies_taken =
      ap₂ take s.ends lies_whole ∙
      take_at (list_head n ++ body) (drop (list_length n) buffer) (list_length n) (length_listed n body s.sound.long)

  -- it has its n records
  lies_count : record_count (take len after) ≡ n
  lies_count = ap record_count lies_taken ∙ listed_count n body s.sound

  module _ (t : Tensor) (c : Config) where
    -- what can be wrong with an append behind it: 37, 38, and what the fields have
    lies_fault : append_fault after len t c ≡ (when 37 0 (eqb n most) or_else when 38 0 (ltb (length buffer - list_length n) record_length) or_else member_fault t c)
    lies_fault =
        let e = s.ends in
        let l = lies_length in
        let r = s.room in
        append_rest after len t c (omega arith) (ap (λ (bs : List ℕ). (list_fault bs).status) lies_taken ∙ listed_opens n body s.sound) ∙
        or_path (ap (λ (k : ℕ). when 37 0 (eqb k most)) lies_count)
        (or_path (ap₂ (λ (k m : ℕ). when 38 0 (ltb (k - m) record_length)) lies_length s.ends) refl)

    -- it is accepted where the count can grow, there is room and the fields are accepted
    pub append_accepted : n < most → list_length (suc n) ≤ length buffer → (member_fault t c).status ≡ 0 → (append_fault after len t c).status ≡ 0
    append_accepted f r z =
        status (lies_fault ∙
        spared 37 0 _ _ (ne_eqb n most (λ e. omega arith)) ∙
        spared 38 0 _ _ (le-ltb (length buffer - list_length n) record_length (omega arith))) ∙ z

    module _ (z : (append_fault after len t c).status ≡ 0) where
      -- none of these is wrong with an accepted one
      clear : ((when 37 0 (eqb n most)).status ≡ 0) × ((when 38 0 (ltb (length buffer - list_length n) record_length) or_else member_fault t c).status ≡ 0)
      clear = or_clear _ _ (sym (status lies_fault) ∙ z)

      -- so it leaves one record more, behind the others
      pub append_lies : Lies buffer (suc n) (body ++ record_bytes t c) (appended_buffer after len t c) (append_of after len t c).length
      append_lies = record { is = laid; ends = ended; sound = record { few = few; long = long }; room = room }
        where
          few : suc n ≤ most
          few = let h = s.sound.few in let d = eqb-false n most (when_clear 37 0 _ (omega arith) clear.0) in omega arith

          room : list_length (suc n) ≤ length buffer
          room =
              let h = s.room in
              let d = ltb-false (length buffer - list_length n) record_length (when_clear 38 0 _ (omega arith) (or_clear _ _ clear.1).0) in
              omega arith

          long : length (body ++ record_bytes t c) ≡ record_length * suc n
          long = let a = length-append body (record_bytes t c) in let b = member_length t c (append_member after len t c z) in let l = s.sound.long in omega arith

          ended : (append_of after len t c).length ≡ list_length (suc n)
          ended =
              ap (λ (a : Appended). a.length) (append_told after len t c z) ∙
              (let e = s.ends in let q : len + record_length ≡ list_length (suc n) = omega arith in q)

          behind : sets after len (record_bytes t c) ≡ sets buffer 0 (list_head n ++ (body ++ record_bytes t c))
          behind =
              let e = s.ends in
              let l = length_listed n body s.sound.long in
              ap (λ (a : List ℕ). sets a len (record_bytes t c)) s.is ∙
              sets_next (list_head n ++ body) (record_bytes t c) buffer 0 len (omega arith) ∙
              ap (sets buffer 0) (append_assoc (list_head n) body (record_bytes t c))

          laid : appended_buffer after len t c ≡ sets buffer 0 (list_head (suc n) ++ (body ++ record_bytes t c))
          laid =
              append_given after len t c z ∙
              ap₂ (λ (a : List ℕ) (k : ℕ). sets a count_place (little 2 k)) behind (ap (λ (k : ℕ). k + 1) lies_count ∙ add-one n) ∙
              count_stored n (suc n) (body ++ record_bytes t c) buffer (let l = long in let r = room in let h = length-append (list_head n) (body ++ record_bytes t c) in let k = length_head n in omega arith)
