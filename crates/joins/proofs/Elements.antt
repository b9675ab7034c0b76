-- The elements of a plane lie in its span, and no two have a byte in common, because its strides fall inward. Assumes nothing.
use Prim.Native.Nat.{ℕ, suc, ◌+◌, ◌-◌, ◌*◌, ◌≤◌, ◌<◌}
use native.Mathlib.Nat.{mul-le-mul_right}
use native.Mathlib.Omega.{arith}
use mathlib.Core.Path.{◌≡◌, ap}
use mathlib.Core.Logic.{⊎_elim, inl, inr}
use mathlib.Core.Bool.{Bool, true, false}
use Rattle.plane.specs.declared.Tensor.{Tensor}
use Rattle.plane.specs.Arrays.{at, sum}
use Rattle.plane.specs.Planes.{shape_at, stride_at, down_at, up, src_strides, source_at, span}
use Rattle.plane.proofs.Arrays.{sum_same}
use Rattle.plane.proofs.Falling.{strides_within, strides_hold}
use Rattle.mover.proofs.Sums.{sum_least, before_in_bytes}
use Rattle.mover.proofs.Numbers.{spots_differ}
use Rattle.mover.proofs.Fitting.{up_within}
use Rattle.slices.specs.Claims.{element_byte}
use Rattle.joins.specs.Claims.{IsIn, ElementWithin, ElementsApart}

-- an element's byte looks at the coordinates below the rank alone
pub byte_same : (t : Tensor) (x y : ℕ → ℕ) → ((i : ℕ) → i < t.rank → x i ≡ y i) → element_byte t x ≡ element_byte t y
byte_same t x y e =
    ap (λ (k : ℕ). k * t.element_size) (sum_same t.rank _ _ (λ i h. ap (λ (k : ℕ). source_at t i k) (e i h)))

-- coordinates that differ lie in different places, counted up or down
up_differ : (down : Bool) (shape x y : ℕ) → x < shape → y < shape → up down shape x ≡ up down shape y → x ≡ y
up_differ true shape x y h k e = omega arith
up_differ false shape x y h k e = e

-- how many strides up from its lowest element each coordinate lies
abbrev up_at : Tensor → (ℕ → ℕ) → ℕ → ℕ
up_at t y i = up (down_at t i) (shape_at t i) (y i)

up_in : (t : Tensor) (y : ℕ → ℕ) → IsIn t y → IsIn t (up_at t y)
up_in t y w i h = let l = w i h in omega (arith, up_within (down_at t i) (shape_at t i) (y i) (omega arith))

-- ---- the theorems

pub element_within : ElementWithin
unfolding span
element_within t y w =
    let f : ℕ → ℕ = λ i. (shape_at t i - 1) * at (src_strides t) i in
    let l = sum_least t.rank (λ i. source_at t i (y i)) f (λ i h. mul-le-mul_right (at (src_strides t) i) (omega (arith, up_in t y w i h))) in
    before_in_bytes t.element_size {q = 1 + sum t.rank f} (omega arith)

pub elements_apart : ElementsApart
elements_apart t few f x y a b i h d =
    let some : (j : ℕ) → j < t.rank → 1 ≤ shape_at t j = λ j k. omega (arith, a j k) in
    let within = strides_within t.rank (shape_at t) (stride_at t) few some f in
    let holds = strides_hold t.rank (shape_at t) (stride_at t) few some f in
    ⊎_elim
    (λ l. inl (before_in_bytes t.element_size l))
    (λ l. inr (before_in_bytes t.element_size l))
    (spots_differ t.rank (shape_at t) (at (src_strides t)) (λ j k. (within j k).0) (λ j k. holds j (suc j) (omega arith) k) (up_at t x) (up_at t y) (up_in t x a) (up_in t y b) i h
    (λ e. d (up_differ (down_at t i) (shape_at t i) (x i) (y i) (a i h) (b i h) e)))
