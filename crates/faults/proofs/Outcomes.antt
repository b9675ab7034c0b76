-- What a check comes to (`outcome`): how it comes of a fault or of none, what it tells of them, and what the code answers after it.
-- Assumes nothing.
use Prim.Native.Nat.{ℕ, ◌<◌}
use mathlib.Core.Path.{◌≡◌, refl, sym, ap, subst, subst⁻¹, ◌∙◌}
use mathlib.Core.Bool.{Bool, true, false}
use native.Mathlib.Decide.{ℕ_discrete}
use Rattle.std.specs.Prelude.{Result, Ok, Err}
use Rattle.std.specs.Result.{MatchResult}
use Rattle.faults.specs.declared.Fault.{Fault}
use Rattle.faults.specs.Faults.{none, fault, when, ◌or_else◌, lowest, if_fault, outcome}
use Rattle.faults.proofs.Faults.{status, is_fault, or_none, or_found, or_assoc, if_fault_lem, if_none, when_bad, when_good, when_zero, first_at, first_zero}

-- of no fault: x
pub outcome_ok : {A : Type 0} (f : Fault) (x : A) → f.status ≡ 0 → outcome f x ≡ Ok x
outcome_ok f x z = if_none f (Err f) (Ok x) z

-- of a fault: it
pub outcome_err : {A : Type 0} (f : Fault) (x : A) → (f.status ≡ 0 → ⊥) → outcome f x ≡ Err f
outcome_err f x z = if_fault_lem f (Err f) (Ok x) z

-- ---- the code answers so

-- it goes on with x
pub passes : {A : Type 0} (f : Fault) (x : A) → f.status ≡ 0 → Ok x ≡ outcome f x
passes f x z = sym (outcome_ok f x z)

-- it refuses with e, which is f
pub refuses : {A : Type 0} {f e : Fault} (x : A) → f ≡ e → (e.status ≡ 0 → ⊥) → Err e ≡ outcome f x
refuses {f = f} x p z = ap Err (sym p) ∙ sym (outcome_err f x (λ y. z (sym (status p) ∙ y)))

-- ---- a check answers r

abbrev fails : {A : Type 0} → Result A Fault → Type 0
fails (Ok x) = ⊥
fails (Err e) = Unit

abbrev error : {A : Type 0} → Result A Fault → Fault
error (Ok x) = none
error (Err e) = e

abbrev value : {A : Type 0} → A → Result A Fault → A
value x (Ok y) = y
value x (Err e) = x

module _ {A : Type 0} {r : Result A Fault} (f : Fault) (x : A) (w : r ≡ outcome f x) where
  -- it passes: f is none
  pub clear : {y : A} → r ≡ Ok y → f.status ≡ 0
  clear p = elim (ℕ_discrete f.status 0) [
    | yes z ↦ z
    | no z ↦ absurd (let e = sym p ∙ w ∙ outcome_err f x z in subst⁻¹ fails e tt)
  ]

  -- and its value is x
  pub passed_value : {y : A} → r ≡ Ok y → y ≡ x
  passed_value p = ap (value x) (sym p ∙ w ∙ outcome_ok f x (clear p))

  -- it fails: f is a fault
  pub found : {e : Fault} → r ≡ Err e → f.status ≡ 0 → ⊥
  found p z = let e = sym p ∙ w ∙ outcome_ok f x z in subst fails e tt

  -- and the one that it gives
  pub fault_is : {e : Fault} → r ≡ Err e → f ≡ e
  fault_is p = sym (ap error (sym p ∙ w ∙ outcome_err f x (found p)))

-- ---- a check is told by its answer

module _ {A : Type 0} (f : Fault) (x : A) where
  -- its value is x, and f is none
  pub tells_ok : {y : A} → Ok y ≡ outcome f x → (y ≡ x) × (f.status ≡ 0)
  tells_ok q = (passed_value f x q refl, clear f x q refl)

  -- its fault is f, which is one
  pub tells_err : {e : Fault} → Err e ≡ outcome f x → (e ≡ f) × (f.status ≡ 0 → ⊥)
  tells_err q = (sym (fault_is f x q refl), found f x q refl)

  -- so the paper's answer is a, where f is a fault
  pub answer_err : {B : Type 0} (a b : B) {e : Fault} → Err e ≡ outcome f x → a ≡ if_fault f a b
  answer_err a b q = sym (if_fault_lem f a b (found f x q refl))

  -- and b, where it is none
  pub answer_ok : {B : Type 0} (a b : B) {y : A} → Ok y ≡ outcome f x → b ≡ if_fault f a b
  answer_ok a b q = sym (if_none f a b (clear f x q refl))

-- ---- what the code comes to after it, where the next decide g

module _ {A B : Type 0} {r : Result A Fault} (f : Fault) (x : A) (g : Fault) (y : B) (w : r ≡ outcome f x) where
  -- it passes: g decides
  pub goes : {a : A} → r ≡ Ok a → outcome (f or_else g) y ≡ outcome g y
  goes p = ap (λ (h : Fault). outcome h y) (or_none f g (clear f x w p))

  -- it fails: its fault is the answer
  pub halts : {e : Fault} → r ≡ Err e → outcome (f or_else g) y ≡ Err e
  halts p =
      let z = found f x w p in
      ap (λ (h : Fault). outcome h y) (or_found f g z) ∙ outcome_err f y z ∙ ap Err (fault_is f x w p)

-- it fails, and nothing comes after it: its fault is the answer
pub ends : {A B : Type 0} {r : Result A Fault} (f : Fault) (x : A) (y : B) → r ≡ outcome f x → {e : Fault} → r ≡ Err e → outcome f y ≡ Err e
ends f x y w p = outcome_err f y (found f x w p) ∙ ap Err (fault_is f x w p)

-- ---- a test b answers number num

module _ {B : Type 0} (num : ℕ) (b : Bool) (g : Fault) (y : B) where
  -- it does not hold: g decides
  pub goes_if : b ≡ false → outcome (when num 0 b or_else g) y ≡ outcome g y
  goes_if e = ap (λ (h : Fault). outcome h y) (or_none _ g (status (when_good num 0 b e)))

  -- it holds: num is the answer
  pub halts_if : 0 < num → b ≡ true → outcome (when num 0 b or_else g) y ≡ Err (fault num 0)
  halts_if h e =
      let w = when_bad num 0 b e in
      let z = is_fault num 0 h w in
      ap (λ (h : Fault). outcome h y) (or_found _ g z) ∙ outcome_err _ y z ∙ ap Err w

-- nothing comes after it, and it holds: num is the answer
pub ends_if : {B : Type 0} (num : ℕ) (b : Bool) (y : B) → 0 < num → b ≡ true → outcome (when num 0 b) y ≡ Err (fault num 0)
ends_if num b y h e = let w = when_bad num 0 b e in outcome_err _ y (is_fault num 0 h w) ∙ ap Err w

-- nothing comes after it, and it does not hold: y is the answer
pub ok_if : {B : Type 0} (num : ℕ) (b : Bool) (y : B) → b ≡ false → outcome (when num 0 b) y ≡ Ok y
ok_if num b y e = outcome_ok _ y (status (when_good num 0 b e))

-- rules that were asked together, and then another
pub regroup : {B : Type 0} (f g h : Fault) (y : B) → outcome (f or_else g or_else h) y ≡ outcome ((f or_else g) or_else h) y
regroup f g h y = ap (λ (k : Fault). outcome k y) (sym (or_assoc f g h))

-- ---- a test of each dimension below n, told by the first that is bad

module _ {A : Type 0} (x : A) (num n : ℕ) (bad : ℕ → Bool) where
  -- dimension d is bad, and none below it
  pub lowest_found : {d : ℕ} → 0 < num → d < n → bad d ≡ true → ((k : ℕ) → k < d → bad k ≡ false) → Err (fault num d) ≡ outcome (lowest num n bad) x
  unfolding lowest
  lowest_found {d} p l b h =
      let w = when_bad num d (bad d) b in
      let z = first_zero d (λ (k : ℕ). when num k (bad k)) (λ k q. when_zero num k (bad k) (h k q)) in
      refuses x (first_at n d (λ (k : ℕ). when num k (bad k)) z l (is_fault num d p w) ∙ w) (is_fault num d p refl)

  -- none is bad
  pub lowest_none : ((k : ℕ) → k < n → bad k ≡ false) → Ok x ≡ outcome (lowest num n bad) x
  unfolding lowest
  lowest_none h =
      passes (lowest num n bad) x (first_zero n (λ (k : ℕ). when num k (bad k)) (λ k q. when_zero num k (bad k) (h k q)))

-- ---- the answer that the code gives then

-- the same refusal
pub stops : {A B : Type 0} {o r : Result A B} {e : B} → o ≡ Err e → r ≡ Err e → r ≡ o
stops p q = q ∙ sym p

-- a is what r holds, or what stands for its fault: y
pub recovers : {A : Type 0} {r : Result A Fault} (f : Fault) (x : A) (P : Fault → Type 0) → r ≡ outcome f x → {a y : A}
    → MatchResult r (λ z. a ≡ z) P → (P f → a ≡ y) → a ≡ if_fault f y x
recovers f x P w {a} {y} m h = elim (ℕ_discrete f.status 0) [
  | yes z ↦ subst (λ r. MatchResult r (λ z. a ≡ z) P) (w ∙ outcome_ok f x z) m ∙ sym (if_none f y x z)
  | no z ↦ h (subst (λ r. MatchResult r (λ z. a ≡ z) P) (w ∙ outcome_err f x z) m) ∙ sym (if_fault_lem f y x z)
]
