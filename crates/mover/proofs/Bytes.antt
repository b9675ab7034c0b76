-- Laws of bytes stored at a place, `sets`, and of an element's. Assumes nothing.
use Rattle.std.proofs.Common.{◌≡◌, ℕ, zero, suc, ◌+◌, ◌^◌, ◌<◌, ◌≤◌, Bool, true, false, cond, ◌⊎◌, List, [], ◌∷◌, ◌++◌, length, get_or, take, drop, set, sym, refl, ◌∙◌, inl, inr, ⊎_elim, le_of_suc-le-suc, not-suc-le-zero, add-zero, add-suc, suc-add, add-one, arith, length-drop, length-set, length-take, length-take-le, get_or-drop, get_or-set_other, get_or-take, take-suc, get_or-set_same, ext_get_or}
use native.Mathlib.Nat.{min-le_left}
use lib.Seq.{sets}
use Rattle.mover.specs.declared.elements.Origin.{Origin}
use Rattle.mover.specs.declared.elements.Origin.TheVariants.{Lent, Inside}
use Rattle.mover.specs.Private.Elements.{source_bytes, Short}

-- what is stored elsewhere leaves a byte as it was
pub get_d_sets_out : (vs l : List ℕ) (i k : ℕ) → (k < i) ⊎ (i + length vs ≤ k) → get_or (sets l i vs) k 0 ≡ get_or l k 0
get_d_sets_out [] l i k h = refl
get_d_sets_out (v ∷ vs) l i k h =
    get_d_sets_out vs (set l i v) (suc i) k (⊎_elim (λ a. inl (omega arith)) (λ b. inr (omega arith)) h)
    ∙ get_or-set_other l i k v 0 (λ e. ⊎_elim {C = ⊥} (λ a. omega arith) (λ b. omega arith) h)

-- the i-th of the bytes stored at a place
pub sets_inside : (vs l : List ℕ) (at i : ℕ) → i < length vs → at + length vs ≤ length l → get_or (sets l at vs) (at + i) 0 ≡ get_or vs i 0
sets_inside [] l at i h m = absurd (not-suc-le-zero h)
sets_inside (v ∷ vs) l at zero h m =
    rw add-zero (get_d_sets_out vs (set l at v) (suc at) at (inl (omega arith)) ∙ get_or-set_same l at v 0 (omega arith))
sets_inside (v ∷ vs) l at (suc i) h m =
    rw (add-suc, ← suc-add) (sets_inside vs (set l at v) (suc at) i (le_of_suc-le-suc h) (rw length-set (omega arith)))

-- ---- an element stored byte by byte

pub sets_snoc : (l : List ℕ) (i : ℕ) (vs : List ℕ) (a : ℕ) → sets l i (vs ++ (a ∷ [])) ≡ set (sets l i vs) (i + length vs) a
sets_snoc l i [] a = rw add-zero
sets_snoc l i (v ∷ vs) a = rw (add-suc, ← suc-add) (sets_snoc (set l i v) (suc i) vs a)

-- bytes of s from `at`, one more
pub copy_more : (l s : List ℕ) (at to i : ℕ) → at + i < length s
    → set (sets l to (take i (drop at s))) (to + i) (get_or s (at + i) 0) ≡ sets l to (take (i + 1) (drop at s))
copy_more l s at to i h =
    let hd : i < length (drop at s) = simp length-drop (omega arith) in
    let n : length (take i (drop at s)) ≡ i = length-take-le i (drop at s) (omega arith) in
    rw (add-one, take-suc (drop at s) i 0 hd, get_or-drop) (sym (rw (sets_snoc, n)))

module _ (d s : List ℕ) (at to : ℕ) where
  pub copied_one : at + 1 ≤ length s → set d to (get_or s at 0) ≡ sets d to (take 1 (drop at s))
  copied_one h = rw (add-zero to, add-zero at) at (copy_more d s at to 0 (omega arith))

  pub copied_two : at + 2 ≤ length s → set (set d to (get_or s at 0)) (to + 1) (get_or s (at + 1) 0) ≡ sets d to (take 2 (drop at s))
  copied_two h = rw (copied_one (omega arith)) (copy_more d s at to 1 (omega arith))

  pub copied_three : at + 3 ≤ length s
      → set (set (set d to (get_or s at 0)) (to + 1) (get_or s (at + 1) 0)) (to + 2) (get_or s (at + 2) 0) ≡ sets d to (take 3 (drop at s))
  copied_three h = rw (copied_two (omega arith)) (copy_more d s at to 2 (omega arith))

  pub copied_four : at + 4 ≤ length s
      → set (set (set (set d to (get_or s at 0)) (to + 1) (get_or s (at + 1) 0)) (to + 2) (get_or s (at + 2) 0)) (to + 3) (get_or s (at + 3) 0) ≡ sets d to (take 4 (drop at s))
  copied_four h = rw (copied_three (omega arith)) (copy_more d s at to 3 (omega arith))

pub length_take_most : (i : ℕ) (l : List ℕ) → length (take i l) ≤ i
length_take_most i l = rw length-take (min-le_left i (length l))

-- source and destination together have fewer bytes than a number of 64 bits counts
pub short_source : (o : Origin) (d : List ℕ) → Short o → length d < 2 ^ 63 → length (source_bytes o d) + length d < 2 ^ 64
short_source (Lent s) d h k = omega arith
short_source Inside d h k = omega arith

pub length_cond : (b : Bool) (z : ℕ) (l m : List ℕ) → length m ≤ z → length (cond b (take z l) m) ≤ z
length_cond true z l m h = length_take_most z l
length_cond false z l m h = h

-- lists of one length that agree over some bytes have them in common
pub bytes_same : (l m : List ℕ) (at z : ℕ) → length l ≡ length m → ((k : ℕ) → at ≤ k → k < at + z → get_or l k 0 ≡ get_or m k 0)
    → take z (drop at l) ≡ take z (drop at m)
bytes_same l m at z e f =
    ext_get_or 0 (take z (drop at l)) (take z (drop at m))
    (simp (length-take, length-drop, e))
    (λ i h.
    let hz : i < z = omega (arith, length_take_most z (drop at l)) in
    rw (get_or-take, get_or-drop, get_or-take, get_or-drop) (f (at + i) (omega arith) (omega arith)))

pub pick_same : (b : Bool) {x y : List ℕ} (z : List ℕ) → (b ≡ true → x ≡ y) → cond b x z ≡ cond b y z
pick_same true z f = f refl
pick_same false z f = refl
