-- Laws of the part of a source at which a sub-tensor starts. Assumes nothing.
use Rattle.std.proofs.Common.{◌≡◌, ℕ, ◌-◌, ◌≤◌, cond, eqb, List, [], length, take, drop, sym, ap, ◌∙◌, arith, length-drop, eq-eqb}
use native.Mathlib.Decide.{ℕ_discrete}
use lib.Seq.{take-length}
use Rattle.plane.specs.declared.Tensor.{Tensor}
use Rattle.plane.specs.declared.SubConfig.{SubConfig}
use Rattle.plane.specs.declared.SubTensor.{SubTensor}
use Rattle.plane.specs.Helpers.{sub_fault, sub_of, sub_byte, no_sub, sub_answer, sub_tensor_of}
use Rattle.faults.proofs.Faults.{if_fault_lem, if_none}
use Rattle.plane.proofs.SubAnswers.{sub_status}
use Rattle.plane.proofs.SubTensors.{sub_taken, sub_given, sub_fits}
use Rattle.mover.specs.SubPart.{sub_part}

-- the part told by the sub-tensor's answer: the first call's byte is where it starts
abbrev pub part_by : SubTensor → List ℕ → List ℕ
part_by r src = cond (eqb r.status 0) (drop r.byte src) []

pub part_by_lem : (t : Tensor) (s : SubConfig) (src : List ℕ) → sub_part t s src ≡ part_by (sub_tensor_of t s (length src)) src
unfolding sub_part sub_tensor_of sub_answer
part_by_lem t s src =
    let f = sub_fault t s (length src) in
    let x : SubTensor = record { status = 0; dim = 0; tensor = sub_of t s; byte = sub_byte t s } in
    elim (ℕ_discrete f.status 0) [
      | yes z ↦ if_none f [] (drop (sub_byte t s) src) z ∙ ap (λ (r : SubTensor). part_by r src) (sym (if_none f (no_sub f) x z))
      | no z ↦ if_fault_lem f [] (drop (sub_byte t s) src) z ∙ sym (if_fault_lem f [] (drop 0 src) z) ∙
          ap (λ (r : SubTensor). part_by r src) (sym (if_fault_lem f (no_sub f) x z))
    ]

pub part_here : (t : Tensor) (s : SubConfig) (src : List ℕ) → (sub_tensor_of t s (length src)).status ≡ 0 → sub_part t s src ≡ drop (sub_tensor_of t s (length src)).byte src
part_here t s src z = part_by_lem t s src ∙ simp (eq-eqb (sub_tensor_of t s (length src)).status 0 z)

module _ (t : Tensor) (s : SubConfig) (src : List ℕ) {r : SubTensor} (e : r ≡ sub_tensor_of t s (length src)) where
  pub part_refused : (r.status ≡ 0 → ⊥) → take (length src - length src) (drop (length src) src) ≡ sub_part t s src
  unfolding sub_part sub_tensor_of
  part_refused h =
      let z : length src - length src ≡ 0 = omega arith in
      ap (λ (k : ℕ). take k (drop (length src) src)) z ∙
      sym (if_fault_lem (sub_fault t s (length src)) [] (drop (sub_byte t s) src)
      (λ y. h (ap (λ (x : SubTensor). x.status) e ∙ sub_status (sub_fault t s (length src)) (sub_of t s) (sub_byte t s) ∙ y)))

  module _ (z : r.status ≡ 0) where
    its_status : (sub_tensor_of t s (length src)).status ≡ 0
    its_status = sym (ap (λ (x : SubTensor). x.status) e) ∙ z

    pub part_within : r.byte ≤ length src
    part_within =
        let f = sub_fits t s (length src) its_status in
        let b = ap (λ (x : SubTensor). x.byte) e in
        omega arith

    pub part_given : take (length src - r.byte) (drop r.byte src) ≡ sub_part t s src
    unfolding sub_part
    part_given =
        let b = ap (λ (x : SubTensor). x.byte) (e ∙ sub_given t s (length src) its_status) in
        ap (λ (k : ℕ). take k (drop r.byte src)) (sym (length-drop r.byte src)) ∙ take-length (drop r.byte src) ∙
        ap (λ (k : ℕ). drop k src) b ∙
        sym (if_none (sub_fault t s (length src)) [] (drop (sub_byte t s) src) (sub_taken t s (length src) its_status))
