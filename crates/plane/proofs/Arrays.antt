-- Laws of arrays, sums and products over the dimensions (`specs/Arrays.antt`), and of a loop that fills an array. Assumes nothing.
use Prim.Native.Nat.{ℕ, zero, suc, ◌+◌, ◌*◌, ◌≤◌, ◌<◌}
use native.Mathlib.Nat.{mul-pos, not-suc-le-zero, le_of_suc-le-suc, eq-or-lt_of_le}
use native.Mathlib.Numerals.{add-one}
use native.Mathlib.Decide.{ℕ_discrete, dec_lt}
use native.Mathlib.Omega.{arith}
use mathlib.Core.Path.{◌≡◌, refl, sym, ap, ap₂, subst, ◌∙◌}
use mathlib.Core.Logic.{⊎_elim}
use mathlib.Core.Bool.{Bool, true, false, cond, ◌||◌, ◌&&◌, true≢false}
use mathlib.Core.List.{List, [], ◌∷◌}
use borrow.Author.Tests.{lt-ltb, le-ltb}
use lib.ListN.{get_or, set, take, length, length-set}
use Rattle.std.specs.List.{list_any}
use Rattle.std.specs.Array.{IsFromFnResult, IsFromFnResultFrom}
use denote.Param.Members.{Mut, Called}
use Rattle.std.proofs.lemmas.List.Folds.{list_any_more}
use lib.Seq.{ext_get_or, get_or-set_same, get_or-set_other}
use Rattle.plane.specs.Arrays.{at, below, array, firsts_or, zeros, sum, product, some, every, how_many}
use Rattle.faults.proofs.Bools.{either_clear, either_first, either_second, neither, both_first, both_second, both, not_first, not_second}

-- ---- four entries

pub array_at : {A : Type 0} (f : ℕ → A) (z : A) (d : ℕ) → d < 4 → get_or (array f) d z ≡ f d
array_at f z zero h = refl
array_at f z (suc zero) h = refl
array_at f z (suc (suc zero)) h = refl
array_at f z (suc (suc (suc zero))) h = refl
array_at f z (suc (suc (suc (suc d)))) h = absurd (not-suc-le-zero (le_of_suc-le-suc (le_of_suc-le-suc (le_of_suc-le-suc (le_of_suc-le-suc h)))))

-- whatever the entries are: z stands at and past the rank
module _ {A : Type 0} (z : A) where
  pub same_at : (d : ℕ) → get_or (array (λ _. z)) d z ≡ z
  same_at zero = refl
  same_at (suc zero) = refl
  same_at (suc (suc zero)) = refl
  same_at (suc (suc (suc zero))) = refl
  same_at (suc (suc (suc (suc d)))) = refl

  -- a list of four is the table of its entries
  pub is_array : (l : List A) (f : ℕ → A) → length l ≡ 4 → ((d : ℕ) → d < 4 → get_or l d z ≡ f d) → l ≡ array f
  is_array l f e h = ext_get_or z l (array f) e (λ d q. let r : d < 4 = omega arith in h d r ∙ sym (array_at f z d r))

  pub below_lt : (n d : ℕ) (v : A) → d < n → below z n d v ≡ v
  below_lt n d v h = simp (lt-ltb d n h)

  pub below_past : (n d : ℕ) (v : A) → n ≤ d → below z n d v ≡ z
  below_past n d v h = simp (le-ltb d n h)

  pub below_same : (n d : ℕ) {v w : A} → (d < n → v ≡ w) → below z n d v ≡ below z n d w
  below_same n d {v} {w} h = elim (dec_lt d n) [
    | yes q ↦ ap (below z n d) (h q)
    | no q ↦ below_past n d v (omega arith) ∙ sym (below_past n d w (omega arith))
  ]

  pub firsts_at : (n : ℕ) (f : ℕ → A) (d : ℕ) → n ≤ 4 → d < n → get_or (firsts_or z n f) d z ≡ f d
  unfolding firsts_or
  firsts_at n f d m h = array_at (λ d. below z n d (f d)) z d (omega arith) ∙ below_lt n d (f d) h

  pub firsts_past : (n : ℕ) (f : ℕ → A) (d : ℕ) → d < 4 → n ≤ d → get_or (firsts_or z n f) d z ≡ z
  unfolding firsts_or
  firsts_past n f d l h = array_at (λ d. below z n d (f d)) z d l ∙ below_past n d (f d) h

  -- the same entries below n: the same array
  pub firsts_same : (n : ℕ) (f g : ℕ → A) → ((k : ℕ) → k < n → f k ≡ g k) → firsts_or z n f ≡ firsts_or z n g
  unfolding firsts_or
  firsts_same n f g h = λ i. one 0 i ∷ one 1 i ∷ one 2 i ∷ one 3 i ∷ []
    where
      one : (d : ℕ) → below z n d (f d) ≡ below z n d (g d)
      one d = below_same n d (h d)

-- an array made by calls that leave the closure as it is: entry d is what the call at d gives
module _ {F A : Type 0} (z : A) (g : Mut F (ℕ × Unit {0}) A) (f : F) (ys : List A) (h : ℕ → A) (call : (d : ℕ) (y : A) (q : F) → d < 4 → Called g f (d, tt) y q → (q ≡ f) × (y ≡ h d)) where
  made_from : (n i : ℕ) (p : F) → p ≡ f → i + n ≡ 4 → IsFromFnResultFrom g p ys i n → (d : ℕ) → i ≤ d → d < 4 → get_or ys d z ≡ h d
  made_from zero i p e s w d l m = absurd (omega arith)
  made_from (suc n) i p e s w d l m =
      let one = call i w.1 w.0 (omega arith) (subst (λ (u : F). Called g u (i, tt) w.1 w.0) e w.3) in
      elim (ℕ_discrete i d) [
        | yes q ↦ subst (λ (j : ℕ). get_or ys j z ≡ h j) q (w.2.1 z ∙ one.1)
        | no q ↦ made_from n (i + 1) w.0 one.0 (omega arith) w.4 d (omega arith) m
      ]

  pub made_array : IsFromFnResult g f ys 4 → ys ≡ array h
  made_array w = is_array z ys h w.long (λ d m. made_from 4 0 f refl refl w.each d (omega arith) m)

pub zeros_at : (d : ℕ) → at zeros d ≡ 0
zeros_at d = same_at 0 d

-- ---- a loop that fills an array up to n: where it stands at d, the entries below d are there and the rest is z

pub record Filled {A : Type 0} (z : A) (n : ℕ) (f : ℕ → A) (out : List A) (d : ℕ) : Type 0 where
  pub within : d ≤ n
  pub long : length out ≡ 4
  pub entries : (j : ℕ) → get_or out j z ≡ below z d j (f j)

module _ {A : Type 0} {z : A} {n : ℕ} {f : ℕ → A} where
  pub filled_start : Filled z n f (array (λ _. z)) 0
  filled_start =
      record { within = omega arith; long = refl; entries = λ j. same_at z j ∙ sym (below_past z 0 j (f j) (omega arith)) }

  module _ {out : List A} {d : ℕ} where
    pub filled_more : {v : A} → n ≤ 4 → Filled z n f out d → d < n → v ≡ f d → Filled z n f (set out d v) (d + 1)
    filled_more {v} m w h e = let l = w.long in record {
      within = omega arith;
      long = length-set out d v ∙ l;
      entries = λ j. elim (ℕ_discrete j d) [
        | yes q ↦ subst (λ (k : ℕ). get_or (set out d v) k z ≡ below z (d + 1) k (f k)) (sym q)
            (get_or-set_same out d v z (omega arith) ∙ e ∙ sym (below_lt z (d + 1) d (f d) (omega arith)))
        | no q ↦ get_or-set_other out d j v z q ∙ w.entries j ∙ elim (dec_lt j d) [
          | yes r ↦ below_lt z d j (f j) r ∙ sym (below_lt z (d + 1) j (f j) (omega arith))
          | no r ↦ below_past z d j (f j) (omega arith) ∙ sym (below_past z (d + 1) j (f j) (omega arith))
        ]
      ];
    }

    pub filled_end : Filled z n f out d → n ≤ d → out ≡ firsts_or z n f
    unfolding firsts_or
    filled_end w h =
        let l = w.within in
        let q : d ≡ n = omega arith in
        is_array z out (λ k. below z n k (f k)) w.long (λ j r. w.entries j ∙ ap (λ (m : ℕ). below z m j (f j)) q)

pub filled_same : {A : Type 0} {z : A} {n : ℕ} {f g : ℕ → A} {out : List A} {d : ℕ} → ((k : ℕ) → k < d → f k ≡ g k) → Filled z n f out d → Filled z n g out d
filled_same {z = z} {d = d} h w =
    record { within = w.within; long = w.long; entries = λ j. w.entries j ∙ below_same z d j (h j) }

-- ---- sums, products, counts

pub sum_same : (n : ℕ) (f g : ℕ → ℕ) → ((k : ℕ) → k < n → f k ≡ g k) → sum n f ≡ sum n g
unfolding sum
sum_same zero f g h = refl
sum_same (suc n) f g h = ap₂ (λ (x y : ℕ). x + y) (sum_same n f g (λ k q. h k (omega arith))) (h n (omega arith))

pub product_same : (n : ℕ) (f g : ℕ → ℕ) → ((k : ℕ) → k < n → f k ≡ g k) → product n f ≡ product n g
unfolding product
product_same zero f g h = refl
product_same (suc n) f g h = ap₂ (λ (x y : ℕ). x * y) (product_same n f g (λ k q. h k (omega arith))) (h n (omega arith))

pub product_positive : (n : ℕ) (f : ℕ → ℕ) → ((k : ℕ) → k < n → 0 < f k) → 0 < product n f
unfolding product
product_positive zero f h = omega arith
product_positive (suc n) f h = mul-pos (product_positive n f (λ k q. h k (omega arith))) (h n (omega arith))

pub how_many_same : (n : ℕ) (p q : ℕ → Bool) → ((k : ℕ) → k < n → p k ≡ q k) → how_many n p ≡ how_many n q
unfolding how_many
how_many_same zero p q h = refl
how_many_same (suc n) p q h =
    ap₂ (λ (x : ℕ) (b : Bool). x + cond b 1 0) (how_many_same n p q (λ k r. h k (omega arith))) (h n (omega arith))

pub some_same : (n : ℕ) (f g : ℕ → Bool) → ((k : ℕ) → k < n → f k ≡ g k) → some n f ≡ some n g
unfolding some
some_same zero f g h = refl
some_same (suc n) f g h = ap₂ (λ (x y : Bool). x || y) (some_same n f g (λ k q. h k (omega arith))) (h n (omega arith))

pub some_clear : (n : ℕ) (p : ℕ → Bool) → some n p ≡ false → (k : ℕ) → k < n → p k ≡ false
unfolding some
some_clear zero p e k h = absurd (not-suc-le-zero h)
some_clear (suc n) p e k h =
    ⊎_elim
    (λ q. subst (λ (m : ℕ). p m ≡ false) (sym q) (either_clear (some n p) (p n) e).1)
    (λ q. some_clear n p (either_clear (some n p) (p n) e).0 k q)
    (eq-or-lt_of_le (le_of_suc-le-suc h))

pub some_none : (n : ℕ) (p : ℕ → Bool) → ((k : ℕ) → k < n → p k ≡ false) → some n p ≡ false
unfolding some
some_none zero p h = refl
some_none (suc n) p h = neither _ _ (some_none n p (λ k q. h k (omega arith))) (h n (omega arith))

pub some_found : (n k : ℕ) (p : ℕ → Bool) → k < n → p k ≡ true → some n p ≡ true
unfolding some
some_found zero k p h b = absurd (not-suc-le-zero h)
some_found (suc n) k p h b =
    ⊎_elim
    (λ q. either_second (some n p) (p n) (subst (λ (m : ℕ). p m ≡ true) q b))
    (λ q. either_first (some n p) (p n) (some_found n k p q b))
    (eq-or-lt_of_le (le_of_suc-le-suc h))

-- whether p holds of one of the first i entries
pub some_any : (p : ℕ → Bool) (xs : List ℕ) (i : ℕ) → i ≤ length xs → list_any p (take i xs) ≡ some i (λ j. p (at xs j))
unfolding some
some_any p xs zero h = refl
some_any p xs (suc i) h =
    ap (λ (k : ℕ). list_any p (take k xs)) (sym (add-one i)) ∙ list_any_more p xs i 0 (omega arith) ∙
    ap (λ (b : Bool). b || p (at xs i)) (some_any p xs i (omega arith))

pub every_same : (n : ℕ) (p q : ℕ → Bool) → ((k : ℕ) → k < n → p k ≡ q k) → every n p ≡ every n q
unfolding every
every_same zero p q h = refl
every_same (suc n) p q h = ap₂ (λ (a b : Bool). a && b) (every_same n p q (λ k r. h k (omega arith))) (h n (omega arith))

-- a test holds of every number below n exactly if of each
module _ (p : ℕ → Bool) where
  pub every_all : (n : ℕ) → ((k : ℕ) → k < n → p k ≡ true) → every n p ≡ true
  unfolding every
  every_all zero h = refl
  every_all (suc n) h = both (every n p) (p n) (every_all n (λ k q. h k (omega arith))) (h n (omega arith))

  pub every_each : (n : ℕ) → every n p ≡ true → (k : ℕ) → k < n → p k ≡ true
  unfolding every
  every_each zero e k h = absurd (not-suc-le-zero h)
  every_each (suc n) e k h =
      ⊎_elim
      (λ q. subst (λ (m : ℕ). p m ≡ true) (sym q) (both_second (every n p) (p n) e))
      (λ q. every_each n (both_first (every n p) (p n) e) k q)
      (eq-or-lt_of_le (le_of_suc-le-suc h))

  -- and fails exactly if of one
  pub every_missed : (n k : ℕ) → k < n → p k ≡ false → every n p ≡ false
  unfolding every
  every_missed zero k h b = absurd (not-suc-le-zero h)
  every_missed (suc n) k h b =
      ⊎_elim
      (λ q. not_second (every n p) (p n) (subst (λ (m : ℕ). p m ≡ false) q b))
      (λ q. not_first (every n p) (p n) (every_missed n k q b))
      (eq-or-lt_of_le (le_of_suc-le-suc h))

  pub every_fails : (n : ℕ) → every n p ≡ false → (k : ℕ) × (k < n) × (p k ≡ false)
  unfolding every
  every_fails zero e = absurd (true≢false e)
  every_fails (suc n) e = by_test (every n p) refl (every_fails n)
    where
      by_test : (b : Bool) → every n p ≡ b → (every n p ≡ false → (k : ℕ) × (k < n) × (p k ≡ false)) → (k : ℕ) × (k < suc n) × (p k ≡ false)
      by_test true w f = (n, omega arith, rw w at e)
      by_test false w f = let r = f w in (r.0, omega arith, r.2)
