-- Each refusal in its exact case and order, as in plane's file of this name. A refused reading is zeros besides, a refused write leaves
-- the room as it was. Assumes nothing.
use native.Mathlib.Omega.{arith}
use mathlib.Core.Path.{refl, sym, ap, ◌∙◌}
use Rattle.faults.specs.Faults.{fault}
use Rattle.faults.proofs.Chains.{exact, exact_fault}
use Rattle.record.specs.declared.Reading.{Reading}
use Rattle.record.specs.Records.{fields_rules, fields_fault, read_rules, read_fault, write_rules, write_fault, no_reading}
use Rattle.record.specs.Claims.{ReadExact, FieldsExact, WriteExact, ReadZeros, WriteUnchanged}
use Rattle.record.proofs.Answers.{read-refused, read-given, read-status, room-kept}

-- ---- the theorems

pub read_zeros : ReadZeros
read_zeros bs h =
    let e = sym (read-refused bs refl (λ z. h (read-status bs ∙ z)) refl) in
    e ∙ ap (λ (r : Reading). no_reading (fault r.status r.dim)) (sym e)

pub read_exact : ReadExact
unfolding read_fault
read_exact bs =
    exact (read_rules bs) (omega arith) (read-status bs)
    (λ z. ap (λ (r : Reading). r.dim) (read-given bs z))
    (λ h. ap (λ (r : Reading). r.dim) (sym (read-refused bs {f = read_fault bs} refl h refl)))

pub fields_exact : FieldsExact
unfolding fields_fault
fields_exact v t c = exact_fault (fields_rules v t c) (omega arith)

pub write_exact : WriteExact
unfolding write_fault
write_exact t c n = exact_fault (write_rules t c n) (omega arith)

-- a refused write changes no byte
pub write_unchanged : WriteUnchanged
write_unchanged t c room h = room-kept t c room h
