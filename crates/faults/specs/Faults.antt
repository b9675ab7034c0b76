-- A fault is a number of refusal with its dimension; number 0 is no fault. A call has rules, one then the other, in the paper's order:
-- the first that is broken gives its number, with the first of its broken dimensions.
use Rattle.std.specs.Prelude.{ℕ, zero, suc, ◌-◌, Bool, cond, eqb, Result, Ok, Err}
use Rattle.faults.specs.declared.Fault.{Fault}

-- ---- Faults

infixr 30 ◌or_else◌
abbrev pub none : Fault
none = record { status = 0; dim = 0 }

abbrev pub fault : ℕ → ℕ → Fault
fault num d = record { status = num; dim = d }

-- number num at dimension d, if b
unfoldable pub when : ℕ → ℕ → Bool → Fault
when num d b = cond b (fault num d) none

-- the first fault, else the next
unfoldable pub ◌or_else◌ : Fault → Fault → Fault
f or_else g = cond (eqb f.status 0) g f

-- the first fault of f 0, f 1, .., f (n - 1)
unfoldable pub first : ℕ → (ℕ → Fault) → Fault
first zero f = none
first (suc k) f = first k f or_else f k

-- the lowest dimension below n that is bad
unfoldable pub lowest : ℕ → ℕ → (ℕ → Bool) → Fault
lowest num n bad = first n (λ d. when num d (bad d))

-- the first bad dimension that is met from n - 1 outward, to 0
unfoldable pub outward : ℕ → ℕ → (ℕ → Bool) → Fault
outward num n bad = first n (λ k. when num (n - suc k) (bad (n - suc k)))

-- y where f is a fault, and x where it is none
abbrev pub if_fault : {A : Type 0} → Fault → A → A → A
if_fault f y x = cond (eqb f.status 0) x y

-- what a check comes to: x where f is none, else the fault
abbrev pub outcome : {A : Type 0} → Fault → A → Result A Fault
outcome f x = if_fault f (Err f) (Ok x)

-- ---- Rules

infixr 30 ◌then◌
-- a rule has a number, and a test that tells where it is broken
pub data Rules : Type 0 where
  -- a rule of the whole: it names dimension 0
  overall : ℕ → Bool → Rules
  -- a rule of the dimensions below n: it names the lowest at fault
  from_first : ℕ → ℕ → (ℕ → Bool) → Rules
  -- a rule of the dimensions below n: it names the first met from n - 1 outward
  from_last : ℕ → ℕ → (ℕ → Bool) → Rules
  -- rules, and after them others
  ◌then◌ : Rules → Rules → Rules

-- the first rule that is broken decides
abbrev pub first_fault : Rules → Fault
first_fault (overall num bad) = when num 0 bad
first_fault (from_first num n bad) = lowest num n bad
first_fault (from_last num n bad) = outward num n bad
first_fault (r then s) = first_fault r or_else first_fault s
