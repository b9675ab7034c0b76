-- Laws of rules (`specs/Faults.antt`): what they give is exact (`specs/Exactness.antt`). Assumes nothing.
use Prim.Native.Nat.{ℕ, zero, suc, ◌-◌, ◌<◌}
use native.Mathlib.Nat.{not-suc-le-zero, le_of_suc-le-suc, eq-or-lt_of_le}
use native.Mathlib.Decide.{ℕ_discrete}
use native.Mathlib.Omega.{arith}
use mathlib.Core.Path.{◌≡◌, refl, sym, ap, ap₂, subst, ◌∙◌}
use mathlib.Core.Logic.{◌⊎◌, inl, inr, ⊎_elim}
use mathlib.Core.Bool.{Bool, true, false, ◌||◌, ◌&&◌, true≢false}
use borrow.Author.Tests.{eqb-false}
use lib.Dec.{eqb}
use Rattle.faults.specs.declared.Fault.{Fault}
use Rattle.faults.specs.Faults.{none, fault, when, ◌or_else◌, first, lowest, outward, Rules, overall, from_first, from_last, ◌then◌, first_fault}
use Rattle.faults.specs.Exactness.{Positive, Unbroken, Given, Exact, RulesExact}
use Rattle.faults.proofs.Bools.{either_clear, both_first, both_second}
use Rattle.faults.proofs.Faults.{status, is_fault, or_none, or_found, first_at, first_zero, when_bad, when_good, when_zero}

-- ---- kept

first_none : (n : ℕ) (f : ℕ → Fault) → ((k : ℕ) → k < n → f k ≡ none) → first n f ≡ none
unfolding first
first_none zero f h = refl
first_none (suc n) f h = or_none _ _ (status (first_none n f (λ k q. h k (omega arith)))) ∙ h n (omega arith)

pub unbroken_none : (rs : Rules) → Unbroken rs → first_fault rs ≡ none
unfolding lowest outward
unbroken_none (overall num bad) h = when_good num 0 bad h
unbroken_none (from_first num n bad) h = first_none n _ (λ k q. when_good num k (bad k) (h k q))
unbroken_none (from_last num n bad) h = first_none n _ (λ k q. when_good num (n - suc k) (bad (n - suc k)) (h (n - suc k) (omega arith)))
unbroken_none (r then s) h = or_none _ _ (status (unbroken_none r h.0)) ∙ unbroken_none s h.1

-- ---- broken

given_positive : (rs : Rules) (k d : ℕ) → Positive rs → Given rs k d → 0 < k
given_positive (overall num bad) k d p g = rw g.0 p
given_positive (from_first num n bad) k d p g = rw g.0 p
given_positive (from_last num n bad) k d p g = rw g.0 p
given_positive (r then s) k d p (inl g) = given_positive r k d p.0 g
given_positive (r then s) k d p (inr g) = given_positive s k d p.1 g.1

pub given_fault : (rs : Rules) (k d : ℕ) → Positive rs → Given rs k d → first_fault rs ≡ fault k d
unfolding lowest outward
given_fault (overall num bad) k d p (e, b, z) = when_bad num 0 bad b ∙ ap₂ fault (sym e) (sym z)
given_fault (from_first num n bad) k d p (e, l, b, h) =
    let w = when_bad num d (bad d) b in
    first_at n d (λ (k : ℕ). when num k (bad k)) (first_zero d _ (λ k q. when_zero num k (bad k) (h k q))) l (is_fault num d p w) ∙ w ∙
    ap (λ (x : ℕ). fault x d) (sym e)
given_fault (from_last num n bad) k d p (e, l, b, h) =
    let i : n - suc (n - suc d) ≡ d = omega arith in
    let w : when num (n - suc (n - suc d)) (bad (n - suc (n - suc d))) ≡ fault num d = rw i (when_bad num d (bad d) b) in
    first_at n (n - suc d) (λ (k : ℕ). when num (n - suc k) (bad (n - suc k)))
    (first_zero (n - suc d) _ (λ k q. when_zero num (n - suc k) (bad (n - suc k)) (h (n - suc k) (omega arith) (omega arith))))
    (omega arith) (is_fault num d p w) ∙ w ∙ ap (λ (x : ℕ). fault x d) (sym e)
given_fault (r then s) k d p (inl g) =
    let w = given_fault r k d p.0 g in or_found _ _ (is_fault k d (given_positive r k d p.0 g) w) ∙ w
given_fault (r then s) k d p (inr g) = or_none _ _ (status (unbroken_none r g.0)) ∙ given_fault s k d p.1 g.1

-- ---- one of the two

-- the first of n places at which a test holds, or none
data Least (n : ℕ) (p : ℕ → Bool) : Type 0 where
  nowhere : ((k : ℕ) → k < n → p k ≡ false) → Least n p
  found : (k : ℕ) → k < n → p k ≡ true → ((j : ℕ) → j < k → p j ≡ false) → Least n p

least_more : (n : ℕ) (p : ℕ → Bool) (b : Bool) → p n ≡ b → Least n p → Least (suc n) p
least_more n p b e (found k l t h) = found k (omega arith) t h
least_more n p true e (nowhere h) = found n (omega arith) e h
least_more n p false e (nowhere h) =
    nowhere (λ k l. ⊎_elim (λ q. subst (λ (m : ℕ). p m ≡ false) (sym q) e) (λ q. h k q) (eq-or-lt_of_le (le_of_suc-le-suc l)))

least : (n : ℕ) (p : ℕ → Bool) → Least n p
least zero p = nowhere (λ k l. absurd (not-suc-le-zero l))
least (suc n) p = least_more n p (p n) refl (least n p)

unbroken_or_given : (rs : Rules) → Unbroken rs ⊎ ((k : ℕ) × (d : ℕ) × Given rs k d)
unbroken_or_given (overall num true) = inr (num, 0, (refl, refl, refl))
unbroken_or_given (overall num false) = inl refl
unbroken_or_given (from_first num n bad) = elim (least n bad) [
  | nowhere h ↦ inl h
  | found k l t h ↦ inr (num, k, (refl, l, t, h))
]
unbroken_or_given (from_last num n bad) = elim (least n (λ k. bad (n - suc k))) [
  | nowhere h ↦ inl (λ d l. let e : n - suc (n - suc d) ≡ d = omega arith in rw e at (h (n - suc d) (omega arith)))
  | found k l t h ↦ inr (
    num,
    n - suc k,
    (refl, omega arith, t, λ e m q. let s : n - suc (n - suc e) ≡ e = omega arith in rw s at (h (n - suc e) (omega arith))),
  )
]
unbroken_or_given (r then s) =
    ⊎_elim
    (λ k. ⊎_elim (λ a. inl (k, a)) (λ g. inr (g.0, g.1, inr (k, g.2))) (unbroken_or_given s))
    (λ g. inr (g.0, g.1, inl g.2))
    (unbroken_or_given r)

-- ---- the theorem, of any rules

-- an answer that takes its number from the rules' fault: dimension 0 where there is none, and the fault's where there is one
module _
    (rs : Rules) (p : Positive rs) {number dim : ℕ}
    (n : number ≡ (first_fault rs).status) (z : (first_fault rs).status ≡ 0 → dim ≡ 0) (m : ((first_fault rs).status ≡ 0 → ⊥) → dim ≡ (first_fault rs).dim) where
  pub exact : Exact rs number dim
  exact = record {
    plain = λ y. z (sym n ∙ y);
    accepts = (
      λ z. ⊎_elim (λ a. a) (λ g. absurd (is_fault g.0 g.1 (given_positive rs _ _ p g.2) (told g) (sym n ∙ z))) (unbroken_or_given rs),
      λ a. n ∙ status (unbroken_none rs a),
    );
    gives = λ num d q. (
      λ w. ⊎_elim (λ a. absurd (never num q (sym w.0 ∙ n ∙ status (unbroken_none rs a)))) (λ g. same g num d w) (unbroken_or_given rs),
      λ g. let e = given_fault rs num d p g in (n ∙ status e, m (is_fault num d q e) ∙ ap (λ (x : Fault). x.dim) e),
    );
  }
    where
      told : (g : (num : ℕ) × (d : ℕ) × Given rs num d) → first_fault rs ≡ fault g.0 g.1
      told g = given_fault rs g.0 g.1 p g.2

      never : (num : ℕ) → 0 < num → num ≡ 0 → ⊥
      never num q z = omega arith

      same : (g : (num : ℕ) × (d : ℕ) × Given rs num d) (num d : ℕ) → (number ≡ num) × (dim ≡ d) → Given rs num d
      same g num d w =
          let e = told g in
          let x : g.0 ≡ num = sym (status e) ∙ sym n ∙ w.0 in
          let h = is_fault g.0 g.1 (given_positive rs _ _ p g.2) e in
          let y : g.1 ≡ d = sym (ap (λ (x : Fault). x.dim) e) ∙ sym (m h) ∙ w.1 in
          subst (λ (k : ℕ). Given rs num k) y (subst (λ (k : ℕ). Given rs k g.1) x g.2)

-- the fault itself: where no rule is broken it is `none`
pub exact_fault : RulesExact
exact_fault rs p = exact rs p refl plain (λ h. refl)
  where
    plain : (first_fault rs).status ≡ 0 → (first_fault rs).dim ≡ 0
    plain z =
        ⊎_elim
        (λ k. ap (λ (x : Fault). x.dim) (unbroken_none rs k))
        (λ g. absurd (is_fault g.0 g.1 (given_positive rs _ _ p g.2) (given_fault rs g.0 g.1 p g.2) z))
        (unbroken_or_given rs)

-- what acceptance tells, and what is enough for it
pub unbroken : (rs : Rules) → Positive rs → (first_fault rs).status ≡ 0 → Unbroken rs
unbroken rs p z = (exact_fault rs p).accepts.0 z

pub unbroken_accepts : (rs : Rules) → Unbroken rs → (first_fault rs).status ≡ 0
unbroken_accepts rs u = status (unbroken_none rs u)

-- rules of the whole name dimension 0
abbrev pub are_overall : Rules → Bool
are_overall (overall num bad) = true
are_overall (from_first num n bad) = false
are_overall (from_last num n bad) = false
are_overall (r then s) = are_overall r && are_overall s

pub overall_dim : (rs : Rules) → are_overall rs ≡ true → (first_fault rs).dim ≡ 0
unfolding when
overall_dim (overall num true) e = refl
overall_dim (overall num false) e = refl
overall_dim (from_first num n bad) e = absurd (true≢false (sym e))
overall_dim (from_last num n bad) e = absurd (true≢false (sym e))
overall_dim (r then s) e = elim (ℕ_discrete (first_fault r).status 0) [
  | yes z ↦ rw (or_none (first_fault r) (first_fault s) z) (overall_dim s (both_second (are_overall r) _ e))
  | no b ↦ rw (or_found (first_fault r) (first_fault s) b) (overall_dim r (both_first _ (are_overall s) e))
]

-- so an answer of theirs that tells none is exact
pub exact_overall : (rs : Rules) → Positive rs → are_overall rs ≡ true → {number : ℕ} → number ≡ (first_fault rs).status → Exact rs number 0
exact_overall rs p w n = exact rs p n (λ z. refl) (λ h. sym (overall_dim rs w))

-- where nothing stands after the rules, they decide
pub or_last : (rs : Rules) → Positive rs → (first_fault rs or_else none) ≡ first_fault rs
or_last rs p =
    ⊎_elim
    (λ k. let e = unbroken_none rs k in or_none _ _ (status e) ∙ sym e)
    (λ g. or_found _ _ (is_fault g.0 g.1 (given_positive rs _ _ p g.2) (given_fault rs g.0 g.1 p g.2)))
    (unbroken_or_given rs)

-- whether one of the rules has the number
abbrev pub has : ℕ → Rules → Bool
has k (overall num bad) = eqb k num
has k (from_first num n bad) = eqb k num
has k (from_last num n bad) = eqb k num
has k (r then s) = has k r || has k s

-- a number that none of the rules has is never given
pub never_given : (rs : Rules) (k d : ℕ) → has k rs ≡ false → Given rs k d → ⊥
never_given (overall num bad) k d e g = eqb-false k num e g.0
never_given (from_first num n bad) k d e g = eqb-false k num e g.0
never_given (from_last num n bad) k d e g = eqb-false k num e g.0
never_given (r then s) k d e (inl g) = never_given r k d (either_clear _ (has k s) e).0 g
never_given (r then s) k d e (inr g) = never_given s k d (either_clear (has k r) _ e).1 g.1
