-- The four slots of a table: reading one, putting one in its place, and the lowest that is free. Assumes nothing.
use Prim.Native.Nat.{ℕ, zero, suc, ◌+◌, ◌≤◌, ◌<◌}
use native.Mathlib.Nat.{le_of_suc-le-suc}
use native.Mathlib.Decide.{ℕ_discrete}
use native.Mathlib.Omega.{arith}
use mathlib.Core.Path.{◌≡◌, refl, sym, ap, subst, ◌∙◌}
use mathlib.Core.Bool.{Bool, true, false, cond, ◌&&◌, ◌||◌}
use mathlib.Core.List.{List, [], ◌∷◌}
use borrow.Author.Count.{below_more}
use borrow.Author.Tests.{eq-eqb, ne_eqb, eqb-true, eqb-false, lt-ltb}
use lib.Dec.{eqb}
use lib.ListN.{length, get_or, set, take}
use Rattle.std.specs.Prelude.{None, Some}
use Rattle.std.specs.List.{list_any, position}
use Rattle.std.proofs.lemmas.List.Quantifiers.{position-Some}
use Rattle.std.proofs.lemmas.List.Sums.{position_or_len_is}
use Rattle.std.proofs.lemmas.List.Folds.{list_any-append}
use Rattle.std.proofs.Math.Seq.{take-suc}
use Rattle.plane.specs.Arrays.{array, some, every}
use Rattle.transfers.specs.declared.Slot.{Slot}
use Rattle.transfers.specs.declared.Table.{Table}
use Rattle.transfers.specs.Slots.{free_slot, slot_at, with_slot, lowest_free}

-- what the code's read of an element stands for past the end of an array of slots
abbrev pub past : Slot
past = record {
  state = 0;
  job = record {
    source = record { start = 0; length = 0 };
    destination = record { start = 0; length = 0 };
    tensor = record { rank = 0; element_size = 0; shape = []; stride = [] };
    config = record { offset = []; size = []; step = []; dst_offset = []; dst_stride = []; perm = []; pre = []; post = []; fill = 0 };
  };
  moved = 0;
}

-- and it does not matter before the end
get_d_any : {A : Type 0} (l : List A) (i : ℕ) (d e : A) → i < length l → get_or l i d ≡ get_or l i e
get_d_any [] i d e h = absurd (omega arith)
get_d_any (x ∷ l) zero d e h = refl
get_d_any (x ∷ l) (suc i) d e h = get_d_any l i d e (le_of_suc-le-suc h)

pub slot_read : (t : Table) (h : ℕ) → length t.slots ≡ 4 → h < 4 → get_or t.slots h past ≡ slot_at t h
slot_read t h e q = get_d_any t.slots h past free_slot (omega arith)

-- ---- a slot put in its place

four : (l : List Slot) → length l ≡ 4 → l ≡ array (λ i. get_or l i free_slot)
four [] h = absurd (omega arith)
four (a ∷ []) h = absurd (omega arith)
four (a ∷ b ∷ []) h = absurd (omega arith)
four (a ∷ b ∷ c ∷ []) h = absurd (omega arith)
four (a ∷ b ∷ c ∷ d ∷ []) h = refl
four (a ∷ b ∷ c ∷ d ∷ e ∷ l) h = absurd (omega arith)

set_four : (a b c d s : Slot) (h : ℕ) → h < 4 → set (a ∷ b ∷ c ∷ d ∷ []) h s ≡ array (λ i. cond (eqb i h) s (get_or (a ∷ b ∷ c ∷ d ∷ []) i free_slot))
set_four a b c d s zero q = refl
set_four a b c d s (suc zero) q = refl
set_four a b c d s (suc (suc zero)) q = refl
set_four a b c d s (suc (suc (suc zero))) q = refl
set_four a b c d s (suc (suc (suc (suc h)))) q = absurd (omega arith)

pub slot_put : (t : Table) (h : ℕ) (s : Slot) → length t.slots ≡ 4 → h < 4 → record { length = t.length; slots = set t.slots h s } ≡ with_slot t h s
unfolding with_slot
slot_put t h s e q =
    let at : ℕ → Slot = slot_at t in
    ap (λ (l : List Slot). record { length = t.length; slots = l })
    (ap (λ (l : List Slot). set l h s) (four t.slots e) ∙ set_four (at 0) (at 1) (at 2) (at 3) s h q)

module _ (t : Table) (h : ℕ) (s : Slot) where
  slot_now : (i : ℕ) → i < 4 → slot_at (with_slot t h s) i ≡ cond (eqb i h) s (slot_at t i)
  unfolding with_slot
  slot_now zero q = refl
  slot_now (suc zero) q = refl
  slot_now (suc (suc zero)) q = refl
  slot_now (suc (suc (suc zero))) q = refl
  slot_now (suc (suc (suc (suc i)))) q = absurd (omega arith)

  pub slot_same : h < 4 → slot_at (with_slot t h s) h ≡ s
  slot_same q = slot_now h q ∙ simp (eq-eqb h h refl)

  pub slot_other : (i : ℕ) → i < 4 → (i ≡ h → ⊥) → slot_at (with_slot t h s) i ≡ slot_at t i
  slot_other i q d = slot_now i q ∙ simp (ne_eqb i h d)

  pub with_length : (with_slot t h s).length ≡ t.length
  unfolding with_slot
  with_length = refl

-- ---- the lowest free slot

module _ (t : Table) where
  pub lowest_found : (i : ℕ) → i < 4 → ((k : ℕ) → k < i → (slot_at t k).state ≡ 0 → ⊥) → (slot_at t i).state ≡ 0 → i ≡ lowest_free t
  unfolding lowest_free
  lowest_found zero q b f = simp (eq-eqb (slot_at t 0).state 0 f)
  lowest_found (suc zero) q b f = simp (ne_eqb (slot_at t 0).state 0 (b 0 (omega arith)), eq-eqb (slot_at t 1).state 0 f)
  lowest_found (suc (suc zero)) q b f =
      simp
      (ne_eqb (slot_at t 0).state 0 (b 0 (omega arith)), ne_eqb (slot_at t 1).state 0 (b 1 (omega arith)), eq-eqb (slot_at t 2).state 0 f)
  lowest_found (suc (suc (suc zero))) q b f =
      simp
      (ne_eqb (slot_at t 0).state 0 (b 0 (omega arith)), ne_eqb (slot_at t 1).state 0 (b 1 (omega arith)), ne_eqb (slot_at t 2).state 0 (b 2 (omega arith)), eq-eqb (slot_at t 3).state 0 f)
  lowest_found (suc (suc (suc (suc i)))) q b f = absurd (omega arith)

  pub lowest_none : ((k : ℕ) → k < 4 → (slot_at t k).state ≡ 0 → ⊥) → 4 ≡ lowest_free t
  unfolding lowest_free
  lowest_none b =
      simp
      (ne_eqb (slot_at t 0).state 0 (b 0 (omega arith)), ne_eqb (slot_at t 1).state 0 (b 1 (omega arith)), ne_eqb (slot_at t 2).state 0 (b 2 (omega arith)), ne_eqb (slot_at t 3).state 0 (b 3 (omega arith)))

  -- what it is, where there is one
  pub record Lowest (h : ℕ) : Type 0 where
    pub range : h < 4
    pub free : (slot_at t h).state ≡ 0
    pub below : (k : ℕ) → k < h → (slot_at t k).state ≡ 0 → ⊥

  -- a search through the slots from i on, those below which are not free
  search_from : (n i : ℕ) → n + i ≡ 4 → ((k : ℕ) → k < i → (slot_at t k).state ≡ 0 → ⊥) → (lowest_free t ≡ 4 → ⊥) → Lowest (lowest_free t)
  search_from zero i e b d = absurd (d (sym (lowest_none (λ k l. b k (omega arith)))))
  search_from (suc n) i e b d = elim (ℕ_discrete (slot_at t i).state 0) [
    | yes z ↦ subst Lowest (lowest_found i (omega arith) b z) (record { range = omega arith; free = z; below = b })
    | no z ↦ search_from n (suc i) (omega arith) (λ k l. below_more (λ (k : ℕ). (slot_at t k).state ≡ 0 → ⊥) i b z k (omega arith)) d
  ]

  pub lowest_is : (lowest_free t ≡ 4 → ⊥) → Lowest (lowest_free t)
  lowest_is d = search_from 4 0 refl (λ k l. absurd (omega arith)) d

-- ---- what the code's searches through the slots tell

-- the search for a free slot
module _ (t : Table) (e : length t.slots ≡ 4) where
  pub found_free : {h : ℕ} → Some h ≡ position (λ s. eqb s.state 0) t.slots → (h < 4) × (h ≡ lowest_free t)
  found_free {h} q =
      let w = position-Some (λ (s : Slot). eqb s.state 0) t.slots h free_slot (sym q) in
      let l : h < 4 = omega (arith, w.0) in
      (l, lowest_found t h l (λ k b. eqb-false (slot_at t k).state 0 (w.2 k b)) (eqb-true (slot_at t h).state 0 w.1))

  finds : (lowest_free t ≡ 4 → ⊥) → position (λ s. eqb s.state 0) t.slots ≡ Some (lowest_free t)
  finds d =
      let l = lowest_is t d in
      let r = l.range in
      let at = position_or_len_is (λ (s : Slot). eqb s.state 0) t.slots (lowest_free t) free_slot (omega arith)
      (λ k b. ne_eqb (slot_at t k).state 0 (l.below k b)) (λ b. eq-eqb (slot_at t (lowest_free t)).state 0 l.free) in
      rw at (simp (lt-ltb (lowest_free t) (length t.slots) (omega arith)))

  pub found_none : None ≡ position (λ s. eqb s.state 0) t.slots → lowest_free t ≡ 4
  found_none q = elim (ℕ_discrete (lowest_free t) 4) [
    | yes e ↦ e
    | no d ↦ let w = q ∙ finds d in absurd (cc)
  ]

-- a test of the first n slots
one_any : (p : Slot → Bool) (x : Slot) → list_any p (x ∷ []) ≡ p x
one_any p x = by_test (p x)
  where
    by_test : (b : Bool) → (b || false) ≡ b
    by_test true = refl
    by_test false = refl

pub any_some : (p : Slot → Bool) (xs : List Slot) (n : ℕ) → n ≤ length xs → list_any p (take n xs) ≡ some n (λ k. p (get_or xs k free_slot))
unfolding some
any_some p xs zero h = refl
any_some p xs (suc n) h =
    ap (list_any p) (take-suc xs n free_slot (omega arith)) ∙ list_any-append p (take n xs) (get_or xs n free_slot ∷ []) ∙
    (λ i. any_some p xs n (omega arith) i || one_any p (get_or xs n free_slot) i)

-- a test of all four
four_tests : (a b c d : Bool) → (a && (b && (c && (d && true)))) ≡ ((((true && a) && b) && c) && d)
four_tests false false false false = refl
four_tests false false false true = refl
four_tests false false true false = refl
four_tests false false true true = refl
four_tests false true false false = refl
four_tests false true false true = refl
four_tests false true true false = refl
four_tests false true true true = refl
four_tests true false false false = refl
four_tests true false false true = refl
four_tests true false true false = refl
four_tests true false true true = refl
four_tests true true false false = refl
four_tests true true false true = refl
four_tests true true true false = refl
four_tests true true true true = refl

pub all_four : (p : ℕ → Bool) → (p 0 && (p 1 && (p 2 && (p 3 && true)))) ≡ every 4 p
unfolding every
all_four p = four_tests (p 0) (p 1) (p 2) (p 3)
