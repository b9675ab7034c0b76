-- Numbers that a chain `(a..b).map(f)` gives, added up or multiplied: what they come to, and that they fit. Assumes nothing.
use Prim.Native.Nat.{ℕ, zero, suc, ◌+◌, ◌*◌, ◌≤◌, ◌<◌}
use native.Mathlib.Numerals.{add-one}
use native.Mathlib.Omega.{arith}
use mathlib.Core.Path.{◌≡◌, refl, sym, ap, subst, ◌∙◌}
use mathlib.Core.List.{List, map}
use lib.ListN.{length}
use Rattle.std.specs.Prelude.{Option, ⊤}
use Rattle.std.specs.List.{fold, range_with_len}
use Rattle.std.specs.Iterator.{Drains, Yields}
use Rattle.std.specs.Iterator.Runs.{EachRunFrom, YieldsRun}
use Rattle.std.proofs.lemmas.List.{map-id, length-take}
use Rattle.std.proofs.lemmas.List.Sums.{fold_push}
use Rattle.std.proofs.lemmas.List.FromFn.{length-map-range_with_len, take-map-range_with_len, map-range_with_len_more}
use Rattle.std.proofs.lemmas.Iterator.{YieldsList}
use Rattle.std.proofs.lemmas.Iterator.Adapters.{total_from_yields_List}
use Rattle.std.proofs.lemmas.Iterator.Consumers.{YieldsList-so_far}
use Rattle.plane.specs.Arrays.{sum, product}

-- n numbers from f a on, joined by h, where `of k` is what the first k come to
module _ (h : ℕ → ℕ → ℕ) (of : ℕ → ℕ) (f : ℕ → ℕ) (a : ℕ) (more : (k : ℕ) → of (k + 1) ≡ h (of k) (f (a + k))) where
  folded : (n : ℕ) → fold h (of 0) (map f (range_with_len a n)) ≡ of n
  folded zero = refl
  folded (suc n) =
      ap (λ (k : ℕ). fold h (of 0) (map f (range_with_len a k))) (sym (add-one n)) ∙
      ap (fold h (of 0)) (map-range_with_len_more f a n (a + n) refl) ∙
      fold_push h (of 0) (map f (range_with_len a n)) (f (a + n)) ∙
      ap (λ (t : ℕ). h t (f (a + n))) (folded n) ∙ sym (more n) ∙ ap of (add-one n)

  module _ {S : Type 0} {steps : S → Option ℕ → S → Type 0} {s : S} {n : ℕ} (road : YieldsList steps (λ x. x) s (map f (range_with_len a n))) where
    -- the items so far are the first of them
    front : (xs : List ℕ) (t : S) → Yields steps s xs t → (length xs ≤ n) × (xs ≡ map f (range_with_len a (length xs)))
    front xs t y =
        let e = sym (map-id xs) ∙ YieldsList-so_far road xs t y in
        let l : length xs ≤ n = omega (arith, ap length e, length-take (length xs) (map f (range_with_len a n)), length-map-range_with_len f a n) in
        (l, e ∙ take-map-range_with_len f a n (length xs) l)

    its_fits : (top : ℕ) → ((k : ℕ) → k ≤ n → of k < top) → EachRunFrom steps s (λ p. fold h (of 0) p.items < top)
    unfolding YieldsRun
    its_fits top b = λ p _ at.
        let w = front p.items p.gave.0.0 (subst (λ (u : S). Yields steps u p.items p.gave.0.0) at p.gave.0.1) in
        subst (λ (v : ℕ). v < top) (sym (ap (fold h (of 0)) w.1 ∙ folded (length p.items))) (b (length p.items) w.0)

    its_total : {r : ℕ} → ((xs : List ℕ) × (⊤ → Drains steps s xs) × (r ≡ fold h (of 0) xs)) → r ≡ of n
    its_total {r} ran = total_from_yields_List h (of 0) r ran road ∙ folded n

-- the numbers from 0 on
pub from_0 : (f : ℕ → ℕ) (k : ℕ) → f (0 + k) ≡ f k
from_0 f k = let e : 0 + k ≡ k = omega arith in ap f e

-- a chain that gives f a, f (a + 1), .., n in all; g 0, g 1, .. are these
module _ {S : Type 0} {steps : S → Option ℕ → S → Type 0} {s : S} (f : ℕ → ℕ) (a n : ℕ) (road : YieldsList steps (λ x. x) s (map f (range_with_len a n))) (g : ℕ → ℕ) (same : (k : ℕ) → f (a + k) ≡ g k) where
  one_added : (k : ℕ) → sum (k + 1) g ≡ sum k g + f (a + k)
  unfolding sum
  one_added k = ap (λ (j : ℕ). sum j g) (add-one k) ∙ ap (λ (v : ℕ). sum k g + v) (sym (same k))

  one_multiplied : (k : ℕ) → product (k + 1) g ≡ product k g * f (a + k)
  unfolding product
  one_multiplied k = ap (λ (j : ℕ). product j g) (add-one k) ∙ ap (λ (v : ℕ). product k g * v) (sym (same k))

  -- what `sum` requires: the sum of the first k fits
  pub sum_fits : (top : ℕ) → ((k : ℕ) → k ≤ n → sum k g < top) → EachRunFrom steps s (λ p. fold (λ t x. t + x) 0 p.items < top)
  unfolding sum
  sum_fits top b = its_fits ◌+◌ (λ k. sum k g) f a one_added road top b

  -- what it gives
  pub sum_is : {r : ℕ} → ((xs : List ℕ) × (⊤ → Drains steps s xs) × (r ≡ fold (λ t x. t + x) 0 xs)) → r ≡ sum n g
  unfolding sum
  sum_is ran = its_total ◌+◌ (λ k. sum k g) f a one_added road ran

  -- the same of `product`
  pub product_fits : (top : ℕ) → ((k : ℕ) → k ≤ n → product k g < top) → EachRunFrom steps s (λ p. fold (λ t x. t * x) 1 p.items < top)
  unfolding product
  product_fits top b = its_fits ◌*◌ (λ k. product k g) f a one_multiplied road top b

  pub product_is : {r : ℕ} → ((xs : List ℕ) × (⊤ → Drains steps s xs) × (r ≡ fold (λ t x. t * x) 1 xs)) → r ≡ product n g
  unfolding product
  product_is ran = its_total ◌*◌ (λ k. product k g) f a one_multiplied road ran
