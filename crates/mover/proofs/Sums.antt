-- Laws of sums over the dimensions: two sums joined, terms compared, the first term apart, and terms taken in the order of a permutation.
-- Assumes nothing.
use Rattle.std.proofs.Common.{◌≡◌, ℕ, zero, suc, ◌+◌, ◌*◌, ◌%◌, ◌^◌, ◌<◌, ◌≤◌, cond, eqb, sym, refl, ap, ◌∙◌, subst, ⊎_elim, le_of_suc-le-suc, not-suc-le-zero, mul-le-mul_right, suc-mul, add-mul, eq-or-lt_of_le, zero-add, arith, eq-eqb, ne_eqb}
use native.Mathlib.Decide.{ℕ_discrete}
use Rattle.plane.specs.Arrays.{sum}

pub sum_add : (n : ℕ) (f g h : ℕ → ℕ) → ((i : ℕ) → i < n → f i + g i ≡ h i) → sum n f + sum n g ≡ sum n h
unfolding sum
sum_add zero f g h e = refl
sum_add (suc n) f g h e = omega (arith, sum_add n f g h (λ i l. e i (omega arith)), e n (omega arith))

-- two sums of elements, in bytes
pub sum_joined : (n : ℕ) (f g h : ℕ → ℕ) (z : ℕ) → ((i : ℕ) → i < n → f i + g i ≡ h i) → sum n f * z + sum n g * z ≡ sum n h * z
sum_joined n f g h z e = sym (add-mul (sum n f) (sum n g) z) ∙ ap (λ (y : ℕ). y * z) (sum_add n f g h e)

-- a sum of elements, in bytes
pub sum_scaled : (n : ℕ) (f g : ℕ → ℕ) (z : ℕ) → ((i : ℕ) → i < n → f i * z ≡ g i) → sum n f * z ≡ sum n g
unfolding sum
sum_scaled zero f g z e = omega arith
sum_scaled (suc n) f g z e = rw (add-mul (sum n f) (f n) z) (omega (arith, sum_scaled n f g z (λ i l. e i (omega arith)), e n (omega arith)))

-- a sum of elements, in bytes, and a sum of bytes
pub sum_bytes : (n : ℕ) (f g h : ℕ → ℕ) (z : ℕ) → ((i : ℕ) → i < n → f i * z + g i ≡ h i * z) → sum n f * z + sum n g ≡ sum n h * z
unfolding sum
sum_bytes zero f g h z e = omega arith
sum_bytes (suc n) f g h z e =
    rw (add-mul (sum n f) (f n) z, add-mul (sum n h) (h n) z)
    (omega (arith, sum_bytes n f g h z (λ i l. e i (omega arith)), e n (omega arith)))

-- the same as 64 bits count
sum_turns : (n : ℕ) (f g h : ℕ → ℕ) (z : ℕ) → ((i : ℕ) → i < n → (m : ℕ) → (m + (f i * z + g i)) % 2 ^ 64 ≡ (m + h i * z) % 2 ^ 64)
    → (m : ℕ) → (m + (sum n f * z + sum n g)) % 2 ^ 64 ≡ (m + sum n h * z) % 2 ^ 64
unfolding sum
sum_turns zero f g h z e m = ap (λ (y : ℕ). y % 2 ^ 64) (omega arith)
sum_turns (suc n) f g h z e m =
    rw (add-mul (sum n f) (f n) z, add-mul (sum n h) (h n) z)
    (ap (λ (y : ℕ). y % 2 ^ 64) (omega arith)
    ∙ sum_turns n f g h z (λ i l. e i (omega arith)) (m + (f n * z + g n))
    ∙ ap (λ (y : ℕ). y % 2 ^ 64) (omega arith)
    ∙ e n (omega arith) (m + sum n h * z)
    ∙ ap (λ (y : ℕ). y % 2 ^ 64) (omega arith))

pub sum_turned : (n : ℕ) (f g h : ℕ → ℕ) (z : ℕ) → ((i : ℕ) → i < n → (m : ℕ) → (m + (f i * z + g i)) % 2 ^ 64 ≡ (m + h i * z) % 2 ^ 64)
    → (sum n f * z + sum n g) % 2 ^ 64 ≡ sum n h * z % 2 ^ 64
sum_turned n f g h z e = rw (zero-add, zero-add) at (sum_turns n f g h z e 0)

pub sum_least : (n : ℕ) (f g : ℕ → ℕ) → ((i : ℕ) → i < n → f i ≤ g i) → sum n f ≤ sum n g
unfolding sum
sum_least zero f g e = omega arith
sum_least (suc n) f g e = omega (arith, sum_least n f g (λ i l. e i (omega arith)), e n (omega arith))

-- the first term, and the others
pub sum_head : (m : ℕ) (f : ℕ → ℕ) → sum (suc m) f ≡ f 0 + sum m (λ k. f (suc k))
unfolding sum
sum_head zero f = omega arith
sum_head (suc m) f = omega (arith, sum_head m f)

-- of two places, each of z bytes: one in front of the other ends before it begins
pub before_in_bytes : (z : ℕ) {p q : ℕ} → p < q → p * z + z ≤ q * z
before_in_bytes z l = rw suc-mul at (mul-le-mul_right z l)

-- ---- in the order of a permutation

-- f where the index is p, else 0
abbrev only : ℕ → (ℕ → ℕ) → ℕ → ℕ
only p f d = cond (eqb p d) (f d) 0

only_at : (p : ℕ) (f : ℕ → ℕ) → only p f p ≡ f p
only_at p f = rw (eq-eqb p p refl)

only_off : (p d : ℕ) (f : ℕ → ℕ) → (p ≡ d → ⊥) → only p f d ≡ 0
only_off p d f h = rw (ne_eqb p d h)

-- a term is the sum of all but itself taken out
one_term : (m p : ℕ) (f : ℕ → ℕ) → p < m → f p ≤ sum m (only p f)
unfolding sum
one_term zero p f h = absurd (not-suc-le-zero h)
one_term (suc m) p f h =
    ⊎_elim
    (λ e. let w : f p ≡ only p f m = sym (only_at p f) ∙ ap (only p f) e in omega arith)
    (λ l. omega (arith, one_term m p f l))
    (eq-or-lt_of_le (le_of_suc-le-suc h))

-- f at the indexes that p has among its first n, each once
once : ℕ → (ℕ → ℕ) → (ℕ → ℕ) → ℕ → ℕ
once n p f d = sum n (λ i. only (p i) f d)

module _ (p f : ℕ → ℕ) where
  once_none : (n d : ℕ) → ((i : ℕ) → i < n → p i ≡ d → ⊥) → once n p f d ≡ 0
  unfolding once sum
  once_none zero d h = refl
  once_none (suc n) d h = omega (arith, once_none n d (λ i l. h i (omega arith)), only_off (p n) d f (h n (omega arith)))

  once_most : (n d : ℕ) → ((i j : ℕ) → i < n → j < i → p j ≡ p i → ⊥) → once n p f d ≤ f d
  unfolding once sum
  once_most zero d h = omega arith
  once_most (suc n) d h = elim (ℕ_discrete (p n) d) [
    | yes e ↦
        let z = once_none n d (λ i l q. h n i (omega arith) l (q ∙ sym e)) in
        let w : only (p n) f d ≡ f d = subst (λ (k : ℕ). only k f d ≡ f d) (sym e) (only_at d f) in
        omega arith
    | no e ↦ omega (arith, only_off (p n) d f e, once_most n d (λ i j l q. h i j (omega arith) q))
  ]

  by_entries : (m n : ℕ) → ((i : ℕ) → i < n → p i < m) → sum n (λ i. f (p i)) ≤ sum m (once n p f)
  unfolding sum once
  by_entries m zero h = omega arith
  by_entries m (suc n) h =
      omega (
        arith,
        by_entries m n (λ i l. h i (omega arith)),
        one_term m (p n) f (h n (omega arith)),
        sum_add m (once n p f) (only (p n) f) (once (suc n) p f) (λ d l. refl),
      )

  -- terms taken by entries that differ come to no more than all the terms
  pub sum_perm : (m n : ℕ) → ((i : ℕ) → i < n → p i < m) → ((i j : ℕ) → i < n → j < i → p j ≡ p i → ⊥) → sum n (λ i. f (p i)) ≤ sum m f
  sum_perm m n h a = let w = by_entries m n h in let v = sum_least m (once n p f) f (λ d l. once_most n d a) in omega arith
