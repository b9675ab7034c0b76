-- What the machine's signed 32-bit numbers tell. A local holds the bits of z, so a need speaks of `to_z w32 (of_z w32 z)`, which is z since z
-- fits (`to_z-of_z`). `mag z` is n both for n and for -1 - n. Assumes nothing.
use Prim.Native.Nat.{ℕ, zero, suc, ◌≤◌, ◌<◌}
use native.Mathlib.Nat.{not-suc-le-zero}
use mathlib.Core.Path.{◌≡◌, refl, sym, ap, ◌∙◌}
use mathlib.Core.Bool.{Bool, true, false}
use mathlib.Core.List.{List, [], ◌∷◌}
use native.Mathlib.Omega.{arith}
use lib.IntN.{ℤ, pos, negsuc, neg_ℤ, ◌-ℤ◌, +ℤ_idl}
use lib.Signed.{mag, lt_z}
use mir.Syntax.{w32}
use mir.Val.{SFits, to_z, of_z}
use mir.Facts.{to_z-of_z, to_z_pos}
use borrow.Author.Tests.{le-ltb}
use lib.ListN.{length, length-map}
use Rattle.plane.specs.Arrays.{at, array}
use Rattle.plane.specs.Signs.{size_of, is_down, signed, at_z, sizes}
use Rattle.plane.proofs.Arrays.{is_array}

pub below_zero : (z : ℤ) → lt_z z (pos 0) ≡ is_down z
below_zero (pos n) = le-ltb n 0 (omega arith)
below_zero (negsuc n) = refl

-- n below 2^31, as the machine casts it to a signed number and back
pub cast_is : {n : ℕ} → n < 2147483648 → to_z w32 n ≡ pos n
cast_is h = to_z_pos w32 h

pub tested : (z : ℤ) → SFits w32 z → lt_z (to_z w32 (of_z w32 z)) (pos 0) ≡ is_down z
tested z f = ap (λ (y : ℤ). lt_z y (pos 0)) (to_z-of_z f) ∙ below_zero z

-- a size with its sign: `-(size as i32)`
module _ (n : ℕ) (h : n ≤ 2147483647) where
  negated : pos 0 -ℤ to_z w32 n ≡ neg_ℤ (pos n)
  negated = ap (λ (y : ℤ). pos 0 -ℤ y) (cast_is {n = n} (omega arith)) ∙ +ℤ_idl (neg_ℤ (pos n))

  pub negated_fits : SFits w32 (pos 0 -ℤ to_z w32 n)
  negated_fits = rw negated (record { sfits = least n h })
    where
      least : (n : ℕ) → n ≤ 2147483647 → mag (neg_ℤ (pos n)) < 2147483648
      least zero h = omega arith
      least (suc n) h = omega arith

  pub negated_is : to_z w32 (of_z w32 (pos 0 -ℤ to_z w32 n)) ≡ neg_ℤ (pos n)
  negated_is = to_z-of_z negated_fits ∙ negated

-- what a call that is passed z reads, and what is read of a call's result
pub read_back : (z : ℤ) → mag z < 2147483648 → to_z w32 (of_z w32 z) ≡ z
read_back z h = to_z-of_z {w = w32} {z = z} (record { sfits = h })

-- ---- arrays of them

pub sizes_at : (xs : List ℤ) (d : ℕ) → at (sizes xs) d ≡ size_of (at_z xs d)
unfolding sizes
sizes_at [] d = refl
sizes_at (x ∷ xs) zero = refl
sizes_at (x ∷ xs) (suc d) = sizes_at xs d

-- the sizes of four numbers, one by one
sizes_length : (xs : List ℤ) → length (sizes xs) ≡ length xs
unfolding sizes
sizes_length xs = length-map xs size_of

pub sizes_array : (xs : List ℤ) → length xs ≡ 4 → array (λ d. size_of (at_z xs d)) ≡ sizes xs
sizes_array xs e = sym (is_array 0 (sizes xs) _ (sizes_length xs ∙ e) (λ d h. sizes_at xs d))

pub signed_size : (down : Bool) (n : ℕ) → size_of (signed down n) ≡ n
signed_size false n = refl
signed_size true zero = refl
signed_size true (suc n) = refl

-- a size that is not 0 keeps its sign
pub signed_down : (down : Bool) (n : ℕ) → 1 ≤ n → is_down (signed down n) ≡ down
signed_down false n h = refl
signed_down true zero h = absurd (not-suc-le-zero h)
signed_down true (suc n) h = refl
