-- What the fields of a record come to where a test in code stops them, and where none does. Assumes nothing.
use Prim.Native.Nat.{ℕ}
use native.Mathlib.Omega.{arith}
use native.Mathlib.Decide.{ℕ_discrete}
use mathlib.Core.Path.{◌≡◌, refl, sym, ap, ◌∙◌}
use mathlib.Core.Bool.{true, false}
use borrow.Author.Tests.{eq-eqb, ne_eqb}
use lib.Dec.{eqb}
use Rattle.plane.specs.declared.Tensor.{Tensor}
use Rattle.plane.specs.declared.Config.{Config}
use Rattle.plane.specs.Planes.{bad_rank, bad_element}
use Rattle.faults.specs.declared.Fault.{Fault}
use Rattle.faults.specs.Faults.{fault, lowest, from_first, Rules, first_fault, outcome}
use Rattle.faults.proofs.Bools.{both, not_first, not_second}
use Rattle.faults.proofs.Faults.{or_path, given, spared, when_bad, when_good, passed, stopped}
use Rattle.faults.proofs.Chains.{unbroken, unbroken_none, or_last}
use Rattle.faults.proofs.Outcomes.{outcome_ok, outcome_err}
use Rattle.faults.specs.Exactness.{Positive}
use Rattle.record.specs.Private.{fault_in}
use Rattle.record.specs.Records.{stray, bad_fill, fields_rules, fields_fault}

-- the fault that a check of rules tells is what they give
pub fault_back : {A : Type 0} (rs : Rules) → Positive rs → (x : A) → fault_in (outcome (first_fault rs) x) ≡ first_fault rs
fault_back rs p x = elim (ℕ_discrete (first_fault rs).status 0) [
  | yes z ↦ ap fault_in (outcome_ok (first_fault rs) x z) ∙ sym (unbroken_none rs (unbroken rs p z))
  | no z ↦ ap fault_in (outcome_err (first_fault rs) x z)
]

module _ (v : ℕ) (t : Tensor) (c : Config) where
  pub fields_1 : bad_rank t.rank ≡ true → fault 1 0 ≡ fields_fault v t c
  unfolding fields_fault
  fields_1 r = sym (given 1 0 _ _ (omega arith) r)

  module _ (r : bad_rank t.rank ≡ false) where
    -- any version but 2 asks no more than that no entry is past the rank
    pub fields_plain : {f : Fault} → (v ≡ 2 → ⊥) → f ≡ lowest 28 4 (stray t c) → f ≡ fields_fault v t c
    unfolding fields_fault
    fields_plain n e =
        let other = ne_eqb v 2 n in
        e ∙ sym (spared 1 0 _ _ r ∙ spared 2 0 _ _ (not_first _ _ other) ∙ or_path refl (when_good 28 0 _ (not_first _ _ other)) ∙ or_last (from_first 28 4 (stray t c)) (omega arith))

    module _ (two : v ≡ 2) where
      pub fields_2 : bad_element t.element_size ≡ true → fault 2 0 ≡ fields_fault v t c
      unfolding fields_fault
      fields_2 z = sym (spared 1 0 _ _ r ∙ given 2 0 _ _ (omega arith) (both _ _ (eq-eqb v 2 two) z))

      module _ (z : bad_element t.element_size ≡ false) {f : Fault} (e : f ≡ lowest 28 4 (stray t c)) where
        pub fields_stray : (f.status ≡ 0 → ⊥) → f ≡ fields_fault v t c
        unfolding fields_fault
        fields_stray h = sym (spared 1 0 _ _ r ∙ spared 2 0 _ _ (not_second (eqb v 2) (bad_element t.element_size) z) ∙ stopped _ e h)

        pub fields_fill : f.status ≡ 0 → bad_fill t.element_size c.fill ≡ true → fault 28 0 ≡ fields_fault v t c
        unfolding fields_fault
        fields_fill h b =
            sym (spared 1 0 _ _ r ∙ spared 2 0 _ _ (not_second (eqb v 2) (bad_element t.element_size) z) ∙ passed _ e h ∙ when_bad 28 0 _ (both _ _ (eq-eqb v 2 two) b))

        pub fields_good : bad_fill t.element_size c.fill ≡ false → f ≡ fields_fault v t c
        unfolding fields_fault
        fields_good b =
            e ∙ sym (spared 1 0 _ _ r ∙ spared 2 0 _ _ (not_second (eqb v 2) (bad_element t.element_size) z) ∙ or_path refl (when_good 28 0 _ (not_second (eqb v 2) (bad_fill t.element_size c.fill) b)) ∙ or_last (from_first 28 4 (stray t c)) (omega arith))

-- where the fields of version 2 are accepted, the fill is neither 0 nor too wide
pub fill_passed : (t : Tensor) (c : Config) → (fields_fault 2 t c).status ≡ 0 → bad_fill t.element_size c.fill ≡ false
unfolding fields_fault
fill_passed t c z = (unbroken (fields_rules 2 t c) (omega arith) z).1.1.1
