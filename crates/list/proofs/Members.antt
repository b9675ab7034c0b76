-- The fields of a record that a list takes: they have no fill, so the record is of version 1. Assumes nothing.
use Prim.Native.Nat.{ℕ}
use native.Mathlib.Omega.{arith}
use mathlib.Core.Path.{◌≡◌, refl, sym, ap, ◌∙◌}
use mathlib.Core.Bool.{Bool, true, false, not}
use borrow.Author.Tests.{eqb-true, eq-eqb, ne_eqb, not-false}
use lib.Dec.{eqb}
use lib.ListN.{length}
use Rattle.faults.specs.declared.Fault.{Fault}
use Rattle.faults.specs.Faults.{fault}
use Rattle.faults.proofs.Chains.{unbroken}
use Rattle.faults.proofs.Faults.{status, or_clear, or_zero, when_bad, when_clear, when_zero, passed, stopped}
use Rattle.plane.specs.declared.Tensor.{Tensor}
use Rattle.plane.specs.declared.Config.{Config}
use Rattle.record.specs.Layout.{record_length, length_of, version_for}
use Rattle.record.specs.Records.{record_bytes, bad_room, fields_fault, write_fault}
use Rattle.record.proofs.Laying.{length_record}
use Rattle.record.proofs.Lengths.{version_plain, version_filled}
use Rattle.list.specs.Writers.{member_rules, member_fault}

module _ (t : Tensor) (c : Config) where
  -- ---- as the code comes to it

  module _ {f : Fault} (e : f ≡ fields_fault 1 t c) where
    pub member_fields : (f.status ≡ 0 → ⊥) → member_fault t c ≡ f
    unfolding member_fault fields_fault
    member_fields h = stopped _ e h

    module _ (z : f.status ≡ 0) where
      pub member_27 : (c.fill ≡ 0 → ⊥) → member_fault t c ≡ fault 27 0
      unfolding member_fault fields_fault
      member_27 h = passed _ e z ∙ when_bad 27 0 _ (ap not (ne_eqb c.fill 0 h))

      pub member_good : c.fill ≡ 0 → (member_fault t c).status ≡ 0
      unfolding member_fault fields_fault
      member_good h = status (passed _ e z) ∙ when_zero 27 0 _ (ap not (eq-eqb c.fill 0 h))

  -- ---- what is taken

  module _ (z : (member_fault t c).status ≡ 0) where
    pub no_fill : c.fill ≡ 0
    unfolding member_fault fields_fault
    no_fill = eqb-true c.fill 0 (not-false _ (unbroken (member_rules t c) (omega arith) z).1)

    pub version_one : version_for c ≡ 1
    version_one = version_plain c no_fill

    -- its record has 131 bytes
    pub member_length : length (record_bytes t c) ≡ record_length
    member_length = length_record t c ∙ ap length_of version_one

    -- a write accepts it
    pub member_written : (fields_fault (version_for c) t c).status ≡ 0
    unfolding member_fault fields_fault
    member_written = status (ap (λ (v : ℕ). fields_fault v t c) version_one) ∙ (or_clear _ _ z).0

  -- and it is what a write accepts into 131 bytes
  pub written_member : (n : ℕ) → n ≡ record_length → (write_fault t c n).status ≡ 0 → (member_fault t c).status ≡ 0
  unfolding write_fault member_fault fields_fault
  written_member n l z = by_test (eqb c.fill 0) refl
    where
      long : n ≡ length_of (version_for c)
      long = eqb-true _ _ (not-false _ (when_clear 25 0 (bad_room c n) (omega arith) (or_clear _ _ z).0))

      by_test : (b : Bool) → eqb c.fill 0 ≡ b → (member_fault t c).status ≡ 0
      by_test true e =
          let v = version_plain c (eqb-true c.fill 0 e) in
          or_zero _ _ (sym (status (ap (λ (v : ℕ). fields_fault v t c) v)) ∙ (or_clear _ _ z).1) (when_zero 27 0 _ (ap not e))
      by_test false e =
          let d = ap length_of (version_filled c e) in
          let q = long in
          absurd (omega arith)
