-- Elements by number and by coordinates, for any extents e: each is worked out from the other, and where strides fall inward, elements
-- are placed in the order of their numbers. Assumes nothing.
use Rattle.std.proofs.Common.{◌≡◌, ℕ, zero, suc, ◌+◌, ◌-◌, ◌*◌, ◌/◌, ◌%◌, ◌<◌, ◌≤◌, ◌⊎◌, sym, ap, ◌∙◌, ap₂, inl, inr, ⊎_elim, le_of_suc-le-suc, not-suc-le-zero, mul-le-mul_right, mod-lt, mod-eq_of_lt, suc-mul, mul_comm, div-lt_iff_lt-mul, eq-or-lt_of_le, one-mul, div-add-mod', le-div_iff_mul-le, div-one, arith}
use native.Mathlib.Nat.{div-div-eq-div-mul}
use native.Mathlib.Decide.{dec_lt}
use lib.Arith.{digits_lt, digits_div, digits_mod}
use Rattle.plane.specs.Arrays.{sum, product}
use Rattle.plane.proofs.Arrays.{sum_same}

-- coordinate i of number q
abbrev pub digit : ℕ → (ℕ → ℕ) → ℕ → ℕ → ℕ
digit n e q i = q / product (n - suc i) (λ k. e (suc i + k)) % e i

-- the number of coordinates x
unfoldable pub number : ℕ → (ℕ → ℕ) → (ℕ → ℕ) → ℕ
number zero e x = 0
number (suc n) e x = number n e x * e n + x n

-- the last coordinate is the fastest, and the others are those of the rows
module _ (n : ℕ) (e : ℕ → ℕ) (q : ℕ) where
  pub digit_last : digit (suc n) e q n ≡ q % e n
  unfolding product
  digit_last = let z : suc n - suc n ≡ 0 = omega arith in rw (z, div-one)

  pub digit_row : (i : ℕ) → i < n → digit (suc n) e q i ≡ digit n e (q / e n) i
  unfolding product
  digit_row i h =
      let a : suc n - suc i ≡ suc (n - suc i) = omega arith in
      let b : suc i + (n - suc i) ≡ n = omega arith in
      rw (a, b, div-div-eq-div-mul, mul_comm (e n))

-- ---- from coordinates to the number and back

module _ (e x : ℕ → ℕ) where
  pub number_lt : (n : ℕ) → ((i : ℕ) → i < n → x i < e i) → number n e x < product n e
  unfolding number product
  number_lt zero h = omega arith
  number_lt (suc n) h = digits_lt (number_lt n (λ i l. h i (omega arith))) (h n (omega arith))

  pub number_digit : (n : ℕ) → ((i : ℕ) → i < n → x i < e i) → (i : ℕ) → i < n → digit n e (number n e x) i ≡ x i
  unfolding number
  number_digit zero h i l = absurd (not-suc-le-zero l)
  number_digit (suc n) h i l =
      let here = h n (omega arith) in
      ⊎_elim
      (λ (last : i ≡ n). rw (last, digit_last n e (number n e x * e n + x n)) (digits_mod (number n e x) here))
      (λ (before : i < n).
      rw (digit_row n e (number n e x * e n + x n) i before, digits_div (number n e x) here)
      (number_digit n (λ j m. h j (omega arith)) i before))
      (eq-or-lt_of_le (le_of_suc-le-suc l))

-- ---- the order of places

-- F keeps its first B numbers s x e apart, so e of them, s apart, go between
between : (F : ℕ → ℕ) (B s e : ℕ) → 0 < e → ((a b : ℕ) → a < b → b < B → F a + s * e ≤ F b) → (q r : ℕ) → q < r → r < B * e → F (q / e) + q % e * s + s ≤ F (r / e) + r % e * s
between F B s e h f q r l m =
    let dq = div-add-mod' q e in
    let dr = div-add-mod' r e in
    let g : q / e ≤ r / e = (le-div_iff_mul-le h).1 (omega arith) in
    ⊎_elim
    (λ (same : q / e ≡ r / e).
    let eq = rw same at dq in
    let m : q % e < r % e = omega arith in
    let w = rw suc-mul at (mul-le-mul_right s m) in
    rw same (omega arith))
    (λ (less : q / e < r / e).
    let k : q % e < e = mod-lt q h in
    let w = rw (suc-mul, mul_comm e s) at (mul-le-mul_right s k) in
    omega (arith, f (q / e) (r / e) less ((div-lt_iff_lt-mul h).1 m)))
    (eq-or-lt_of_le g)

module _ (e s : ℕ → ℕ) where
  -- the place of number q, in elements
  abbrev spot : ℕ → ℕ → ℕ
  spot n q = sum n (λ i. digit n e q i * s i)

  spot_row : (n q : ℕ) → spot (suc n) q ≡ spot n (q / e n) + q % e n * s n
  unfolding sum
  spot_row n q =
      ap₂ (λ (a b : ℕ). a + b)
      (sum_same n _ _ (λ i h. ap (λ (a : ℕ). a * s i) (digit_row n e q i h)))
      (ap (λ (a : ℕ). a * s n) (digit_last n e q))

  spots_rise : (n : ℕ) → ((i : ℕ) → i < suc n → 0 < e i) → ((i : ℕ) → i < n → s (suc i) * e (suc i) ≤ s i) → (q r : ℕ) → q < r → r < product (suc n) e → spot (suc n) q + s n ≤ spot (suc n) r
  unfolding product sum
  spots_rise zero h f q r l m =
      let k : r < e 0 = rw one-mul at m in
      rw (digit_last 0 e q, digit_last 0 e r, mod-eq_of_lt {n = q} {m = e 0} (omega arith), mod-eq_of_lt k)
      (omega (arith, rw suc-mul at (mul-le-mul_right (s 0) l)))
  spots_rise (suc n) h f q r l m =
      let w : (a b : ℕ) → a < b → b < product (suc n) e → spot (suc n) a + s (suc n) * e (suc n) ≤ spot (suc n) b = λ a b i j.
      omega (arith, f n (omega arith), spots_rise n (λ i g. h i (omega arith)) (λ i g. f i (omega arith)) a b i j) in
      rw (spot_row (suc n) q, spot_row (suc n) r)
      (between (spot (suc n)) (product (suc n) e) (s (suc n)) (e (suc n)) (h (suc n) (omega arith)) w q r l m)

  pub spots_apart : (n : ℕ) → 0 < n → ((i : ℕ) → i < n → 0 < e i) → ((i : ℕ) → i < n → 1 ≤ s i) → ((i : ℕ) → suc i < n → s (suc i) * e (suc i) ≤ s i) → (q r : ℕ) → q < r → r < product n e → sum n (λ i. digit n e q i * s i) < sum n (λ i. digit n e r i * s i)
  spots_apart zero z h g f q r l m = absurd (not-suc-le-zero z)
  spots_apart (suc n) z h g f q r l m =
      omega (arith, g n (omega arith), spots_rise n h (λ i k. f i (omega arith)) q r l m)

-- ---- the places of coordinates below the extents

module _ (n : ℕ) (e s : ℕ → ℕ) (some : (i : ℕ) → i < n → 1 ≤ s i) (falls : (i : ℕ) → suc i < n → s (suc i) * e (suc i) ≤ s i) where
  -- the coordinates are those of their number
  spot_number : (x : ℕ → ℕ) → ((i : ℕ) → i < n → x i < e i) → sum n (λ i. digit n e (number n e x) i * s i) ≡ sum n (λ i. x i * s i)
  spot_number x a = sum_same n _ _ (λ i h. ap (λ (k : ℕ). k * s i) (number_digit e x n a i h))

  module _ (x y : ℕ → ℕ) (a : (i : ℕ) → i < n → x i < e i) (b : (i : ℕ) → i < n → y i < e i) (i : ℕ) (h : i < n) where
    -- a lower number stands further in front
    spot_before : number n e x < number n e y → sum n (λ j. x j * s j) < sum n (λ j. y j * s j)
    spot_before l =
        rw (spot_number x a, spot_number y b) at
        (spots_apart e s n (omega arith) (λ j k. omega (arith, a j k)) some falls (number n e x) (number n e y) l (number_lt e y n b))

    -- coordinates that differ have numbers that differ
    number_differs : (x i ≡ y i → ⊥) → number n e x ≡ number n e y → ⊥
    number_differs d q = d (sym (number_digit e x n a i h) ∙ ap (λ (k : ℕ). digit n e k i) q ∙ number_digit e y n b i h)

  -- and so places that differ
  pub spots_differ : (x y : ℕ → ℕ) → ((i : ℕ) → i < n → x i < e i) → ((i : ℕ) → i < n → y i < e i) → (i : ℕ) → i < n → (x i ≡ y i → ⊥) →
      (sum n (λ j. x j * s j) < sum n (λ j. y j * s j)) ⊎ (sum n (λ j. y j * s j) < sum n (λ j. x j * s j))
  spots_differ x y a b i h d = elim (dec_lt (number n e x) (number n e y)) [
    | yes l ↦ inl (spot_before x y a b i h l)
    | no l ↦ inr (spot_before y x b a i h (omega (arith, number_differs x y a b i h d)))
  ]
