-- The entries below a rank, put over four zeros: what `cut` makes of an array. Assumes nothing.
use Prim.Native.Nat.{ℕ, zero, suc, ◌≤◌}
use native.Mathlib.Omega.{arith}
use mathlib.Core.Path.{◌≡◌, refl}
use mathlib.Core.List.{List, [], ◌∷◌, ◌++◌}
use lib.ListN.{get_or, length, take, drop}
use Rattle.plane.specs.Arrays.{firsts_or}

pub cut_over : {A : Type 0} (z : A) (n : ℕ) (xs : List A) → n ≤ 4 → length xs ≡ 4
    → take n xs ++ drop n (z ∷ z ∷ z ∷ z ∷ []) ≡ firsts_or z n (λ d. get_or xs d z)
unfolding firsts_or
cut_over z n [] h e = absurd (omega arith)
cut_over z n (a ∷ []) h e = absurd (omega arith)
cut_over z n (a ∷ b ∷ []) h e = absurd (omega arith)
cut_over z n (a ∷ b ∷ c ∷ []) h e = absurd (omega arith)
cut_over z zero (a ∷ b ∷ c ∷ d ∷ []) h e = refl
cut_over z (suc zero) (a ∷ b ∷ c ∷ d ∷ []) h e = refl
cut_over z (suc (suc zero)) (a ∷ b ∷ c ∷ d ∷ []) h e = refl
cut_over z (suc (suc (suc zero))) (a ∷ b ∷ c ∷ d ∷ []) h e = refl
cut_over z (suc (suc (suc (suc zero)))) (a ∷ b ∷ c ∷ d ∷ []) h e = refl
cut_over z (suc (suc (suc (suc (suc n))))) (a ∷ b ∷ c ∷ d ∷ []) h e = absurd (omega arith)
cut_over z n (a ∷ b ∷ c ∷ d ∷ x ∷ xs) h e = absurd (omega arith)
