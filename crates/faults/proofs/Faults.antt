-- Laws of the faults in `specs/Faults.antt`: the first of several, and a loop that looks for the lowest. Assumes nothing.
use Prim.Native.Nat.{ℕ, zero, suc, ◌-◌, ◌<◌}
use native.Mathlib.Nat.{not-suc-le-zero, le_of_suc-le-suc, eq-or-lt_of_le}
use native.Mathlib.Decide.{ℕ_discrete}
use native.Mathlib.Omega.{arith}
use mathlib.Core.Path.{◌≡◌, refl, sym, ap, ap₂, subst, subst₂, ◌∙◌}
use mathlib.Core.Logic.{⊎_elim}
use mathlib.Core.Bool.{Bool, true, false}
use borrow.Author.Tests.{eq-eqb, ne_eqb}
use Rattle.faults.specs.declared.Fault.{Fault}
use Rattle.faults.specs.Faults.{none, fault, when, ◌or_else◌, first, lowest, outward, if_fault}

pub status : {f g : Fault} → f ≡ g → f.status ≡ g.status
status e = ap (λ (f : Fault). f.status) e

-- a fault with a number is a fault
pub is_fault : {f : Fault} (num d : ℕ) → 0 < num → f ≡ fault num d → f.status ≡ 0 → ⊥
is_fault num d p e z = let y : num ≡ 0 = sym (status e) ∙ z in omega arith

-- ---- the first fault, else the next

pub or_none : (f g : Fault) → f.status ≡ 0 → (f or_else g) ≡ g
unfolding ◌or_else◌
or_none f g e = simp (eq-eqb f.status 0 e)

pub or_found : (f g : Fault) → (f.status ≡ 0 → ⊥) → (f or_else g) ≡ f
unfolding ◌or_else◌
or_found f g e = simp (ne_eqb f.status 0 e)

pub or_clear : (f g : Fault) → (f or_else g).status ≡ 0 → (f.status ≡ 0) × (g.status ≡ 0)
or_clear f g e = elim (ℕ_discrete f.status 0) [
  | yes p ↦ (p, rw (or_none f g p) at e)
  | no h ↦ absurd (h (rw (or_found f g h) at e))
]

pub or_zero : (f g : Fault) → f.status ≡ 0 → g.status ≡ 0 → (f or_else g).status ≡ 0
or_zero f g p q = status (or_none f g p) ∙ q

pub or_path : {f g h k : Fault} → f ≡ h → g ≡ k → (f or_else g) ≡ (h or_else k)
or_path p q = ap₂ (λ (f g : Fault). f or_else g) p q

pub or_assoc : (f g h : Fault) → ((f or_else g) or_else h) ≡ (f or_else g or_else h)
or_assoc f g h = elim (ℕ_discrete f.status 0) [
  | yes z ↦ or_path (or_none f g z) refl ∙ sym (or_none f (g or_else h) z)
  | no z ↦ or_path (or_found f g z) refl ∙ or_found f h z ∙ sym (or_found f (g or_else h) z)
]

-- a check in code, `f`, of a rule `g`: where it finds nothing the next decides, and where it finds a fault that is the answer
pub passed : {f g : Fault} (h : Fault) → f ≡ g → f.status ≡ 0 → (g or_else h) ≡ h
passed {g = g} h e z = or_none g h (sym (status e) ∙ z)

pub stopped : {f g : Fault} (h : Fault) → f ≡ g → (f.status ≡ 0 → ⊥) → (g or_else h) ≡ f
stopped {g = g} h e z = or_found g h (λ y. z (status e ∙ y)) ∙ sym e

-- what an answer is besides a fault, and without one
pub if_fault_lem : {A : Type 0} (f : Fault) (y x : A) → (f.status ≡ 0 → ⊥) → if_fault f y x ≡ y
if_fault_lem f y x h = simp (ne_eqb f.status 0 h)

pub if_none : {A : Type 0} (f : Fault) (y x : A) → f.status ≡ 0 → if_fault f y x ≡ x
if_none f y x h = simp (eq-eqb f.status 0 h)

-- what is so in either case is so; of one value, and of two
pub by_fault : {A : Type 0} (P : A → Type 0) (f : Fault) {x y : A} → (f.status ≡ 0 → P x) → ((f.status ≡ 0 → ⊥) → P y) → P (if_fault f y x)
by_fault P f {x} {y} go stop = elim (ℕ_discrete f.status 0) [
  | yes z ↦ subst P (sym (if_none f y x z)) (go z)
  | no z ↦ subst P (sym (if_fault_lem f y x z)) (stop z)
]

pub by_fault₂ : {A B : Type 0} (P : A → B → Type 0) (f : Fault) {x y : A} {v w : B} → (f.status ≡ 0 → P x v) → ((f.status ≡ 0 → ⊥) → P y w)
    → P (if_fault f y x) (if_fault f w v)
by_fault₂ P f {x} {y} {v} {w} go stop = elim (ℕ_discrete f.status 0) [
  | yes z ↦ subst₂ P (sym (if_none f y x z)) (sym (if_none f w v z)) (go z)
  | no z ↦ subst₂ P (sym (if_fault_lem f y x z)) (sym (if_fault_lem f w v z)) (stop z)
]

-- an answer that has number 0 where there is no fault, and the fault's where there is one
pub number_of : {A : Type 0} (f : Fault) (y x : A) (number : A → ℕ) → number y ≡ f.status → number x ≡ 0 → number (if_fault f y x) ≡ f.status
number_of f y x number p q = by_fault (λ a. number a ≡ f.status) f (λ z. q ∙ sym z) (λ b. p)

-- ---- one condition

pub when_bad : (num d : ℕ) (b : Bool) → b ≡ true → when num d b ≡ fault num d
unfolding when
when_bad num d b e = simp e

pub when_good : (num d : ℕ) (b : Bool) → b ≡ false → when num d b ≡ none
unfolding when
when_good num d b e = simp e

pub when_clear : (num d : ℕ) (b : Bool) → 0 < num → (when num d b).status ≡ 0 → b ≡ false
unfolding when
when_clear num d true h e = let z : 0 < 0 = rw e at h in absurd (not-suc-le-zero z)
when_clear num d false h e = refl

pub when_zero : (num d : ℕ) (b : Bool) → b ≡ false → (when num d b).status ≡ 0
when_zero num d b e = status (when_good num d b e)

-- a test in code, of one condition: where it holds that is the answer, and where not the next decides
pub given : (num d : ℕ) (b : Bool) (h : Fault) → 0 < num → b ≡ true → (when num d b or_else h) ≡ fault num d
given num d b h p e = let w = when_bad num d b e in or_found _ h (is_fault num d p w) ∙ w

pub spared : (num d : ℕ) (b : Bool) (h : Fault) → b ≡ false → (when num d b or_else h) ≡ h
spared num d b h e = or_none _ h (when_zero num d b e)

-- ---- the first of many

pub first_at : (n k : ℕ) (f : ℕ → Fault) → (first k f).status ≡ 0 → k < n → ((f k).status ≡ 0 → ⊥) → first n f ≡ f k
unfolding first
first_at zero k f e h b = absurd (not-suc-le-zero h)
first_at (suc n) k f e h b =
    ⊎_elim
    (λ q. subst (λ (m : ℕ). (first m f or_else f m) ≡ f k) q (or_none (first k f) (f k) e))
    (λ q. ap (λ (g : Fault). g or_else f n) (first_at n k f e q b) ∙ or_found (f k) (f n) b)
    (eq-or-lt_of_le (le_of_suc-le-suc h))

pub first_clear : (n k : ℕ) (f : ℕ → Fault) → (first n f).status ≡ 0 → k < n → (f k).status ≡ 0
unfolding first
first_clear zero k f e h = absurd (not-suc-le-zero h)
first_clear (suc n) k f e h =
    ⊎_elim
    (λ q. subst (λ (m : ℕ). (f m).status ≡ 0) (sym q) (or_clear (first n f) (f n) e).1)
    (λ q. first_clear n k f (or_clear (first n f) (f n) e).0 q)
    (eq-or-lt_of_le (le_of_suc-le-suc h))

pub first_zero : (n : ℕ) (f : ℕ → Fault) → ((k : ℕ) → k < n → (f k).status ≡ 0) → (first n f).status ≡ 0
unfolding first
first_zero zero f h = refl
first_zero (suc n) f h = or_zero _ _ (first_zero n f (λ k q. h k (omega arith))) (h n (omega arith))

-- the same faults below n: the same first
pub first_same : (n : ℕ) (f g : ℕ → Fault) → ((k : ℕ) → k < n → f k ≡ g k) → first n f ≡ first n g
unfolding first
first_same zero f g h = refl
first_same (suc n) f g h = or_path (first_same n f g (λ k q. h k (omega arith))) (h n (omega arith))

-- ---- the lowest, and the first met outward

pub lowest_clear : (num n : ℕ) (bad : ℕ → Bool) (d : ℕ) → 0 < num → (lowest num n bad).status ≡ 0 → d < n → bad d ≡ false
unfolding lowest
lowest_clear num n bad d p e h = when_clear num d (bad d) p (first_clear n d (λ (k : ℕ). when num k (bad k)) e h)

pub lowest_same : (num n : ℕ) (f g : ℕ → Bool) → ((d : ℕ) → d < n → f d ≡ g d) → lowest num n f ≡ lowest num n g
unfolding lowest
lowest_same num n f g h = first_same n _ _ (λ k q. ap (when num k) (h k q))

pub outward_same : (num n : ℕ) (f g : ℕ → Bool) → ((d : ℕ) → d < n → f d ≡ g d) → outward num n f ≡ outward num n g
unfolding outward
outward_same num n f g h = first_same n _ _ (λ k q. ap (when num (n - suc k)) (h (n - suc k) (omega arith)))
