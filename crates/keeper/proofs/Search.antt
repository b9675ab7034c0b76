-- The lowest of many (`lowest_of`), and what trailing zeros and ones have to do with it and with single blocks. Assumes nothing.
use mathlib.Core.Path.{◌≡◌, refl, sym, ap, ◌∙◌}
use mathlib.Core.Bool.{Bool, true, false, not, cond, true≢false}
use Prim.Native.Nat.{ℕ, zero, suc, ◌+◌, ◌-◌, ◌/◌, ◌%◌, ◌^◌, ◌<◌}
use native.Mathlib.Nat.{mod-lt, mod-eq_of_lt, mod-one}
use native.Mathlib.Omega.{arith}
use borrow.Author.Tests.{ltb-true, ltb-false}
use lib.Dec.{eqb, ltb}
use lib.Pow.{pow_pos}
use lib.Count.{ones, ones_in, ones_cat, count_trailing_zeros, under, trailing_le}
use Rattle.faults.proofs.Bools.{neither}
use Rattle.plane.specs.Arrays.{some, how_many}
use Rattle.plane.proofs.Arrays.{some_clear, some_none, some_found}
use Rattle.keeper.specs.Blocks.{is_taken, lowest_of}
use Rattle.keeper.proofs.Bits.{first_block, next_block, mod_step, two_mod}

-- ---- the lowest

module _ (p : ℕ → Bool) where
  pub lowest_none : (k : ℕ) → some k p ≡ false → lowest_of k p ≡ k
  unfolding lowest_of
  lowest_none zero h = refl
  lowest_none (suc k) h =
      let c = some_clear (suc k) p h in
      rw (some_none k p (λ j l. c j (omega arith)), c k (omega arith))

  -- one that holds, below which none does
  pub lowest_is : (k i : ℕ) → i < k → p i ≡ true → some i p ≡ false → lowest_of k p ≡ i
  unfolding lowest_of
  lowest_is zero i l t h = absurd (omega arith)
  lowest_is (suc k) i l t h = go (ltb i k) refl (lowest_is k i)
    where
      go : (b : Bool) → ltb i k ≡ b → (i < k → p i ≡ true → some i p ≡ false → lowest_of k p ≡ i) → lowest_of (suc k) p ≡ i
      go true e r = let m = ltb-true i k e in rw (some_found k i p m t) (r m t h)
      go false e r = let q : i ≡ k = omega (arith, ltb-false i k e) in rw (← q, h, t)

  -- and where one holds, the lowest is such a one
  pub record Lowest (k i : ℕ) : Type 0 where
    pub range : i < k
    pub holds : p i ≡ true
    pub below : (j : ℕ) → j < i → p j ≡ false

  pub found : (k : ℕ) → some k p ≡ true → Lowest k (lowest_of k p)
  unfolding lowest_of some
  found zero e = absurd (true≢false (sym e))
  found (suc k) e = go (some k p) refl (p k) refl (found k)
    where
      go : (s : Bool) → some k p ≡ s → (t : Bool) → p k ≡ t → (some k p ≡ true → Lowest k (lowest_of k p))
          → Lowest (suc k) (cond s (lowest_of k p) (cond t k (suc k)))
      go true q t g r = let f = r q in record { range = omega (arith, f.range); holds = f.holds; below = f.below }
      go false q true g r = record { range = omega arith; holds = g; below = some_clear k p q }
      go false q false g r = absurd (true≢false (sym e ∙ neither (some k p) (p k) q g))

-- ---- `trailing_zeros`

Trailing : ℕ → ℕ → ℕ → Type 0
Trailing k w t = ((j : ℕ) → j < t → is_taken w j ≡ false) × (t < k → is_taken w t ≡ true)

trailing : (k w : ℕ) → Trailing k w (count_trailing_zeros k w)
unfolding count_trailing_zeros Trailing
trailing zero w = (λ j l. absurd (omega arith), λ l. absurd (omega arith))
trailing (suc k) w = go (w % 2) refl (two_mod w) (trailing k (w / 2))
  where
    first : (d : ℕ) → w % 2 ≡ d → is_taken w 0 ≡ eqb d 1
    first d e = first_block w ∙ ap (λ (x : ℕ). eqb x 1) e

    go : (d : ℕ) → w % 2 ≡ d → d < 2 → Trailing k (w / 2) (count_trailing_zeros k (w / 2))
        → ((j : ℕ) → j < under d (count_trailing_zeros k (w / 2)) → is_taken w j ≡ false)
        × (under d (count_trailing_zeros k (w / 2)) < suc k → is_taken w (under d (count_trailing_zeros k (w / 2))) ≡ true)
    go zero e l r = (low, λ m. next_block w (count_trailing_zeros k (w / 2)) ∙ r.1 (omega arith))
      where
        low : (j : ℕ) → j < suc (count_trailing_zeros k (w / 2)) → is_taken w j ≡ false
        low zero m = first zero e
        low (suc j) m = next_block w j ∙ r.0 j (omega arith)
    go (suc zero) e l r = (λ j m. absurd (omega arith), λ m. first 1 e)
    go (suc (suc d)) e l r = absurd (omega arith)

pub trailing_lowest : (k w : ℕ) → count_trailing_zeros k w ≡ lowest_of k (is_taken w)
unfolding Trailing
trailing_lowest k w = sym (go (ltb (count_trailing_zeros k w) k) refl)
  where
    clear : some (count_trailing_zeros k w) (is_taken w) ≡ false
    clear = some_none (count_trailing_zeros k w) (is_taken w) (trailing k w).0

    go : (b : Bool) → ltb (count_trailing_zeros k w) k ≡ b → lowest_of k (is_taken w) ≡ count_trailing_zeros k w
    go true e =
        let l = ltb-true (count_trailing_zeros k w) k e in
        lowest_is (is_taken w) k (count_trailing_zeros k w) l ((trailing k w).1 l) clear
    go false e =
        let s : count_trailing_zeros k w ≡ k = omega (arith, ltb-false (count_trailing_zeros k w) k e, trailing_le k w) in
        lowest_none (is_taken w) k (rw s at clear) ∙ sym s

-- ---- `count_ones`

ones_digit : (t : Bool) → ones (cond t 1 0) ≡ cond t 1 0
unfolding ones ones_in
ones_digit true = refl
ones_digit false = refl

one_more : (t : Bool) → cond t 1 0 + cond (not t) 1 0 ≡ 1
one_more true = refl
one_more false = refl

counted : (k w : ℕ) → how_many k (λ b. not (is_taken w b)) + ones (w % 2 ^ k) ≡ k
unfolding how_many ones ones_in
counted zero w = ap (λ (x : ℕ). 0 + ones x) (mod-one w)
counted (suc k) w =
    let e : ones (w % 2 ^ suc k) ≡ cond (is_taken w k) 1 0 + ones (w % 2 ^ k) =
    ap ones (mod_step k w) ∙ ones_cat k (cond (is_taken w k) 1 0) (w % 2 ^ k) (mod-lt w (pow_pos k)) ∙
    ap (λ (x : ℕ). x + ones (w % 2 ^ k)) (ones_digit (is_taken w k)) in
    omega (arith, e, one_more (is_taken w k), counted k w)

pub ones_free : (k w : ℕ) → w < 2 ^ k → k - ones w ≡ how_many k (λ b. not (is_taken w b))
ones_free k w h =
    let e : how_many k (λ b. not (is_taken w b)) + ones w ≡ k =
    ap (λ (x : ℕ). how_many k (λ b. not (is_taken w b)) + ones x) (sym (mod-eq_of_lt h)) ∙ counted k w in
    omega arith
