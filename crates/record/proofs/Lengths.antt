-- The two versions and their lengths. Assumes nothing.
use Prim.Native.Nat.{ℕ, ◌≤◌}
use native.Mathlib.Omega.{arith}
use mathlib.Core.Path.{◌≡◌, refl, ap}
use mathlib.Core.Logic.{◌⊎◌, inl, inr, ⊎_elim}
use mathlib.Core.Bool.{Bool, true, false, cond}
use mathlib.Core.List.{List}
use borrow.Author.Tests.{eqb-true, not-false}
use lib.Dec.{eqb}
use lib.ListN.{length, take, drop_of_length-le}
use Rattle.plane.specs.declared.Config.{Config}
use Rattle.plane.specs.Numbers.{number}
use Rattle.record.specs.Layout.{record_length, length_of, version_by_length, version_for, fill_in}
use Rattle.record.specs.Records.{bad_length}

-- ---- a length that is not refused

pub two_lengths : (n : ℕ) → bad_length n ≡ false → (n ≡ length_of 1) ⊎ (n ≡ length_of 2)
two_lengths n h = by_test (eqb n (length_of 1)) refl
  where
    by_test : (b : Bool) → eqb n (length_of 1) ≡ b → (n ≡ length_of 1) ⊎ (n ≡ length_of 2)
    by_test true e = inl (eqb-true _ _ e)
    by_test false e = inr (eqb-true _ _ (not-false _ (simp e at h)))

pub long_enough : (n : ℕ) → bad_length n ≡ false → record_length ≤ n
long_enough n h = ⊎_elim (λ e. omega arith) (λ e. omega arith) (two_lengths n h)

-- its version has that length
pub length_again : (n : ℕ) → bad_length n ≡ false → length_of (version_by_length n) ≡ n
length_again n h = ⊎_elim (λ e. rw e) (λ e. rw e) (two_lengths n h)

-- the fill of version 1 is 0
pub fill_none : (bs : List ℕ) → length bs ≡ record_length → fill_in bs ≡ 0
unfolding number
fill_none bs l = ap (λ (x : List ℕ). number (take 4 x)) (drop_of_length-le bs {i = record_length} (omega arith))

-- ---- the version that is written

module _ (c : Config) where
  -- it is 1 or 2, and whatever holds of both holds of it
  pub by_version : (P : ℕ → Type 0) → P 1 → P 2 → P (version_for c)
  by_version P one two = by_test (eqb c.fill 0)
    where
      by_test : (b : Bool) → P (cond b 1 2)
      by_test true = one
      by_test false = two

  -- by what it has for a fill
  pub version_plain : c.fill ≡ 0 → version_for c ≡ 1
  version_plain e = ap (λ (n : ℕ). cond (eqb n 0) 1 2) e

  pub version_filled : eqb c.fill 0 ≡ false → version_for c ≡ 2
  version_filled e = ap (λ (b : Bool). cond b 1 2) e

  pub version_again : version_by_length (length_of (version_for c)) ≡ version_for c
  version_again = by_version (λ v. version_by_length (length_of v) ≡ v) refl refl

  pub length_right : bad_length (length_of (version_for c)) ≡ false
  length_right = by_version (λ v. bad_length (length_of v) ≡ false) refl refl
