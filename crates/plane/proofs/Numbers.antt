-- Laws of the low bytes of a number. Assumes nothing.
use Prim.Native.Nat.{ℕ, zero, suc, ◌/◌, ◌%◌, ◌≤◌}
use native.Mathlib.Omega.{arith}
use mathlib.Core.Path.{◌≡◌, refl, ap}
use mathlib.Core.List.{List, ◌∷◌}
use lib.ListN.{length, take}
use Rattle.plane.specs.Numbers.{little}

pub length_little : (w n : ℕ) → length (little w n) ≡ w
unfolding little
length_little zero n = refl
length_little (suc w) n = ap suc (length_little w (n / 256))

-- fewer of them are the first of more
pub take_little : (w v n : ℕ) → w ≤ v → take w (little v n) ≡ little w n
unfolding little
take_little zero v n h = refl
take_little (suc w) zero n h = absurd (omega arith)
take_little (suc w) (suc v) n h = ap (λ (l : List ℕ). n % 256 ∷ l) (take_little w v (n / 256) (omega arith))
