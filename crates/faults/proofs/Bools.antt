-- Tests and what they tell. Assumes nothing.
use Prim.Native.Nat.{ℕ, ◌≤◌}
use mathlib.Core.Path.{◌≡◌, refl, sym}
use mathlib.Core.Bool.{Bool, true, false, ◌||◌, ◌&&◌, true≢false}
use borrow.Author.Tests.{ltb-false}
use lib.Dec.{ltb}

pub either_clear : (a b : Bool) → (a || b) ≡ false → (a ≡ false) × (b ≡ false)
either_clear true b e = absurd (true≢false e)
either_clear false b e = (refl, e)

pub either_first : (a b : Bool) → a ≡ true → (a || b) ≡ true
either_first a b e = simp e

pub either_second : (a b : Bool) → b ≡ true → (a || b) ≡ true
either_second true b e = refl
either_second false b e = e

pub neither : (a b : Bool) → a ≡ false → b ≡ false → (a || b) ≡ false
neither a b p q = simp (p, q)

pub both_first : (a b : Bool) → (a && b) ≡ true → a ≡ true
both_first true b e = refl
both_first false b e = e

pub both_second : (a b : Bool) → (a && b) ≡ true → b ≡ true
both_second true b e = e
both_second false b e = absurd (true≢false (sym e))

pub both : (a b : Bool) → a ≡ true → b ≡ true → (a && b) ≡ true
both a b p q = simp (p, q)

pub not_first : (a b : Bool) → a ≡ false → (a && b) ≡ false
not_first a b e = simp e

pub not_second : (a b : Bool) → b ≡ false → (a && b) ≡ false
not_second true b e = e
not_second false b e = refl

-- a number that is neither below p nor above m
pub in_range : (s p m : ℕ) → (ltb s p || ltb m s) ≡ false → (p ≤ s) × (s ≤ m)
in_range s p m e = let w = either_clear (ltb s p) (ltb m s) e in (ltb-false s p w.0, ltb-false m s w.1)
