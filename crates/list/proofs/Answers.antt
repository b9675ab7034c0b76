-- What the calls on a list come to where a test in code stops them, and where none does. Assumes nothing.
use Prim.Native.Nat.{ℕ, ◌+◌, ◌*◌, ◌≤◌, ◌<◌}
use native.Mathlib.Decide.{ℕ_discrete}
use native.Mathlib.Omega.{arith}
use mathlib.Core.Path.{◌≡◌, refl, ap, ◌∙◌}
use mathlib.Core.Logic.{◌⊎◌, inl, inr}
use mathlib.Core.Bool.{Bool, true, false, not}
use mathlib.Core.List.{List}
use borrow.Author.Tests.{lt-ltb, le-ltb, lt-leb, le-leb, eq-eqb, ne_eqb, ltb-true, ltb-false, not-false, eqb-true}
use lib.Dec.{ltb}
use lib.ListN.{length}
use Rattle.faults.specs.declared.Fault.{Fault}
use Rattle.faults.specs.Faults.{fault, none, when, if_fault}
use Rattle.faults.proofs.Faults.{given, spared, if_fault_lem, if_none, when_bad, when_good, when_zero}
use Rattle.faults.proofs.Chains.{unbroken}
use Rattle.plane.specs.Arrays.{at}
use Rattle.plane.specs.Numbers.{number}
use Rattle.record.specs.Layout.{part, record_length}
use Rattle.record.specs.Records.{read_of}
use Rattle.record.proofs.Digits.{number_two}
use Rattle.list.specs.Layout.{list_head_length, list_length}
use Rattle.list.specs.Lists.{count_in, bad_list_mark, bad_list_version, bad_count, list_rules, list_fault, record_count, record_in, number_fault, no_number, no_record, record_at, place_after}

-- ---- the head

-- two bytes as the library reads them
pub two_read : (bs : List ℕ) (p : ℕ) → p + 2 ≤ length bs → {n : ℕ} → n ≡ at bs p + at bs (p + 1) * 256 → n ≡ number (part p 2 bs)
two_read bs p h e = let t = number_two p bs h in omega arith

module _ (bs : List ℕ) where
  pub list-25 : length bs < list_head_length → list_fault bs ≡ fault 25 0
  unfolding list_fault
  list-25 h = given 25 0 _ _ (omega arith) (lt-ltb (length bs) list_head_length h)

  module _ (h : list_head_length ≤ length bs) where
    pub list-26 : bad_list_mark bs ≡ true → list_fault bs ≡ fault 26 0
    unfolding list_fault
    list-26 m = spared 25 0 _ _ (le-ltb (length bs) list_head_length h) ∙ given 26 0 _ _ (omega arith) m

    module _ (m : bad_list_mark bs ≡ false) where
      pub list-27 : bad_list_version bs ≡ true → list_fault bs ≡ fault 27 0
      unfolding list_fault
      list-27 v = spared 25 0 _ _ (le-ltb (length bs) list_head_length h) ∙ spared 26 0 _ _ m ∙ given 27 0 _ _ (omega arith) v

      module _ (v : bad_list_version bs ≡ false) where
        list-rest : list_fault bs ≡ when 30 0 (bad_count bs)
        unfolding list_fault
        list-rest = spared 25 0 _ _ (le-ltb (length bs) list_head_length h) ∙ spared 26 0 _ _ m ∙ spared 27 0 _ _ v

        pub list-30 : (length bs ≡ list_length (count_in bs) → ⊥) → list_fault bs ≡ fault 30 0
        list-30 n = list-rest ∙ when_bad 30 0 _ (ap not (ne_eqb (length bs) (list_length (count_in bs)) n))

        pub list-0 : length bs ≡ list_length (count_in bs) → list_fault bs ≡ none
        list-0 n = list-rest ∙ when_good 30 0 _ (ap not (eq-eqb (length bs) (list_length (count_in bs)) n))

-- what a list has that is not refused
pub record Good (bs : List ℕ) : Type 0 where
  pub head : list_head_length ≤ length bs
  pub mark : bad_list_mark bs ≡ false
  pub version : bad_list_version bs ≡ false
  pub long : length bs ≡ list_length (count_in bs)

pub good : (bs : List ℕ) → (list_fault bs).status ≡ 0 → Good bs
unfolding list_fault
good bs z =
    let u = unbroken (list_rules bs) (omega arith) z in
    record { head = ltb-false _ _ u.0; mark = u.1.0; version = u.1.1.0; long = eqb-true _ _ (not-false _ u.1.1.1) }

-- ---- the records

-- a number is below the count, or at or past it
pub in-or-past : (k n : ℕ) → (k < n) ⊎ (n ≤ k)
in-or-past k n = go (ltb k n) refl
  where
    go : (b : Bool) → ltb k n ≡ b → (k < n) ⊎ (n ≤ k)
    go true e = inl (ltb-true k n e)
    go false e = inr (ltb-false k n e)

module _ (bs : List ℕ) where
  pub count_none : ((list_fault bs).status ≡ 0 → ⊥) → record_count bs ≡ 0
  unfolding record_count
  count_none h = if_fault_lem (list_fault bs) 0 (count_in bs) h

  pub count-given : (list_fault bs).status ≡ 0 → record_count bs ≡ count_in bs
  unfolding record_count
  count-given z = if_none (list_fault bs) 0 (count_in bs) z

  -- a record that is there lies inside the bytes
  pub record-within : (k : ℕ) → k < record_count bs → list_length k + record_length ≤ length bs
  record-within k h = elim (ℕ_discrete (list_fault bs).status 0) [
    | yes z ↦ let g = good bs z in let e = count-given z in let l = g.long in omega arith
    | no z ↦ absurd (let e = count_none z in omega arith)
  ]

  pub at-past : (k : ℕ) → record_count bs ≤ k → record_at bs k ≡ no_record
  unfolding record_at number_fault
  at-past k h =
      ap (λ (f : Fault). if_fault f (no_number f) (record { number = k; reading = read_of (record_in bs k) }))
      (when_bad 39 0 _ (le-leb (record_count bs) k h))

  pub at_in : (k : ℕ) → k < record_count bs → record_at bs k ≡ record { number = k; reading = read_of (record_in bs k) }
  unfolding record_at number_fault
  at_in k h = if_none (number_fault bs k) _ _ (when_zero 39 0 _ (lt-leb (record_count bs) k h))

  pub after-past : (k : ℕ) → record_count bs ≤ k → place_after bs k ≡ k
  unfolding place_after
  after-past k h = rw (le-ltb k (record_count bs) h)

  pub after-in : (k : ℕ) → k < record_count bs → place_after bs k ≡ k + 1
  unfolding place_after
  after-in k h = rw (lt-ltb k (record_count bs) h)
