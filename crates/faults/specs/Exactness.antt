-- What "each refusal exactly in its case and order" says of the answer that rules are to give.
use Rattle.std.specs.Prelude.{ℕ, ◌<◌, ◌≡◌, ◌⊎◌, ◌↔◌, true, false}
use Rattle.faults.specs.Faults.{Rules, overall, from_first, from_last, ◌then◌, first_fault}

-- every number is above 0
abbrev pub Positive : Rules → Type 0
Positive (overall num bad) = 0 < num
Positive (from_first num n bad) = 0 < num
Positive (from_last num n bad) = 0 < num
Positive (r then s) = Positive r × Positive s

-- no rule is broken anywhere
abbrev pub Unbroken : Rules → Type 0
Unbroken (overall num bad) = bad ≡ false
Unbroken (from_first num n bad) = (d : ℕ) → d < n → bad d ≡ false
Unbroken (from_last num n bad) = (d : ℕ) → d < n → bad d ≡ false
Unbroken (r then s) = Unbroken r × Unbroken s

-- number k at dimension d is given: a rule of that number is broken there and at no dimension met before, and no rule before it is
-- broken. A rule of the whole names dimension 0
abbrev pub Given : Rules → ℕ → ℕ → Type 0
Given (overall num bad) k d = (k ≡ num) × (bad ≡ true) × (d ≡ 0)
Given (from_first num n bad) k d = (k ≡ num) × (d < n) × (bad d ≡ true) × ((e : ℕ) → e < d → bad e ≡ false)
Given (from_last num n bad) k d = (k ≡ num) × (d < n) × (bad d ≡ true) × ((e : ℕ) → d < e → e < n → bad e ≡ false)
Given (r then s) k d = Given r k d ⊎ (Unbroken r × Given s k d)

-- an answer's number and dimension are exact: number 0 exactly if every rule is kept, a number at a dimension exactly if it is given
pub record Exact (rs : Rules) (number dim : ℕ) : Type 0 where
  pub accepts : (number ≡ 0) ↔ Unbroken rs
  -- an accepted answer names dimension 0
  pub plain : number ≡ 0 → dim ≡ 0
  pub gives : (num d : ℕ) → 0 < num → ((number ≡ num) × (dim ≡ d)) ↔ Given rs num d

-- what the first broken of any rules gives is exact
abbrev pub RulesExact : Type 0
RulesExact = (rs : Rules) → Positive rs → Exact rs (first_fault rs).status (first_fault rs).dim
