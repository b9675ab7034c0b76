-- What a chain over the dimensions below n adds up or multiplies: `(0..n).map(f).sum()` and `.product()`, by the laws of Ranges (plane).
-- Assumes nothing.
use Rattle.std.proofs.Common.{◌≡◌, ℕ, ◌+◌, ◌*◌, ◌^◌, ◌<◌, ◌≤◌, List, map, fold, arith}
use native.Mathlib.Nat.{mul-le-mul_right}
use Rattle.std.specs.Bool.{⊤}
use Rattle.std.specs.declared.iter.Map.{Map}
use Rattle.std.specs.declared.ops.Range.{Range}
use Rattle.std.specs.Fn.{Called}
use Rattle.std.specs.Iterator.{Drains}
use Rattle.std.specs.Iterator.Adapters.{map_source, map_callee}
use Rattle.std.specs.Iterator.Runs.{EachRunFrom}
use Rattle.std.specs.List.{range_with_len}
use Rattle.std.proofs.iter.Yields.{nat_range_steps}
use Rattle.std.proofs.lemmas.Iterator.{YieldsList, YieldsList-from_range, YieldsList-from_map, maps}
use denote.Param.Members.{Mut}
use Rattle.plane.specs.Arrays.{sum, product}
use Rattle.plane.proofs.Bounds.{sum_most, product_most}
use Rattle.plane.proofs.Ranges as ranges
use Rattle.plane.proofs.Ranges.{from_0}

-- a chain whose closure gives f of a dimension
module _ {F : Type 0} {s : Map (Range ℕ) F} {g : Mut F (ℕ × Unit {0}) ℕ} (n : ℕ) (f : ℕ → ℕ) {k : F} (a : map_source s ≡ record { start = 0; end = n })
    (b : map_callee s ≡ k) (e : (x r : ℕ) (q : F) → Called g k (x, tt) r q → (q ≡ k) × (r ≡ f x)) where
  chain : YieldsList (maps nat_range_steps g) (λ r. r) s (map f (range_with_len 0 n))
  chain = YieldsList-from_map g f (YieldsList-from_range 0 n n a (omega arith)) b e

  pub chain_sum : {r : ℕ} → ((xs : List ℕ) × (⊤ → Drains (maps nat_range_steps g) s xs) × (r ≡ fold (λ a x. a + x) 0 xs)) → r ≡ sum n f
  chain_sum ran = ranges.sum_is f 0 n chain f (from_0 f) ran

  pub sum_fits : (m top : ℕ) → ((i : ℕ) → i < n → f i ≤ m) → n * m < top → EachRunFrom (maps nat_range_steps g) s (λ p. fold (λ a x. a + x) 0 p.items < top)
  sum_fits m top h l =
      ranges.sum_fits f 0 n chain f (from_0 f) top
      (λ j q. let w = sum_most j f m (λ i r. h i (omega arith)) in let v = mul-le-mul_right m q in omega arith)

  pub chain_product : {r : ℕ} → ((xs : List ℕ) × (⊤ → Drains (maps nat_range_steps g) s xs) × (r ≡ fold (λ a x. a * x) 1 xs)) → r ≡ product n f
  chain_product ran = ranges.product_is f 0 n chain f (from_0 f) ran

  pub product_fits : n ≤ 4 → ((i : ℕ) → i < n → f i ≤ 65535) → EachRunFrom (maps nat_range_steps g) s (λ p. fold (λ a x. a * x) 1 p.items < 2 ^ 64)
  product_fits few h =
      ranges.product_fits f 0 n chain f (from_0 f) (2 ^ 64)
      (λ j q. let w = product_most j f (omega arith) (λ i r. h i (omega arith)) in omega arith)
