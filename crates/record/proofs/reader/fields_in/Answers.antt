-- `record::reader::fields_in` meets its contract. Assumes nothing.
use mathlib.Core.Path.{refl, ap, ◌∙◌}
use native.Mathlib.Omega.{arith}
use borrow.Author.Rules.{rules}
use Rattle.std.specs.Prelude.{Ok}
use Rattle.faults.specs.declared.Fault.{Fault}
use Rattle.faults.specs.Faults.{outcome}
use Rattle.faults.proofs.Faults.{status}
use Rattle.faults.proofs.Outcomes.{passes, refuses, clear, ends, stops}
use Rattle.record.specs.Records.{tensor_in, config_in}
use Rattle.record.proofs.Answers.{read-25, read-26, read-27, read-judged, marked, version-other, version-same}
use Rattle.record.proofs.reader.fields_in.Goals as goal

pub returns-then-bytes : goal.returns-then-bytes
returns-then-bytes c = refuses _ (read-25 c.args.bytes.now c.if-bytes.true) (λ z. omega arith)

pub returns-then-not-starts_with : goal.returns-then-not-starts_with
returns-then-not-starts_with c =
    refuses _ (read-26 c.args.bytes.now c.if-bytes.false (marked c.args.bytes.now c.if-bytes.false c.starts_with.ensures.value c.if-not-starts_with.true)) (λ z. omega arith)

pub returns-then-from_le_bytes-version : goal.returns-then-from_le_bytes-version
returns-then-from_le_bytes-version c =
    refuses _
    (read-27 c.args.bytes.now c.if-bytes.false (marked c.args.bytes.now c.if-bytes.false c.starts_with.ensures.value c.if-not-starts_with.false)
    (version-other c.args.bytes.now c.if-bytes.false c.part.ensures c.from_le_bytes.ensures c.version_by_length-version.ensures c.if-from_le_bytes-version.true))
    (λ z. omega arith)

pub returns-in_err-check_fields : goal.returns-in_err-check_fields
returns-in_err-check_fields c =
    let bs = c.args.bytes.now in
    let e = read-judged bs c.tensor_in-tensor.ensures c.config_in-config.ensures c.version_by_length-version.ensures refl c.if-bytes.false
    (marked bs c.if-bytes.false c.starts_with.ensures.value c.if-not-starts_with.false)
    (version-same bs c.if-bytes.false c.part.ensures c.from_le_bytes.ensures c.version_by_length-version.ensures c.if-from_le_bytes-version.false) in
    stops (ap (λ (f : Fault). outcome f (tensor_in bs, config_in bs)) e ∙ ends _ tt _ c.check_fields.ensures c.in_err-check_fields.was) (search rules)

pub returns : goal.returns
returns c =
    let bs = c.args.bytes.now in
    let e = read-judged bs c.tensor_in-tensor.ensures c.config_in-config.ensures c.version_by_length-version.ensures refl c.if-bytes.false
    (marked bs c.if-bytes.false c.starts_with.ensures.value c.if-not-starts_with.false)
    (version-same bs c.if-bytes.false c.part.ensures c.from_le_bytes.ensures c.version_by_length-version.ensures c.if-from_le_bytes-version.false) in
    (λ i. Ok (c.tensor_in-tensor.ensures i, c.config_in-config.ensures i)) ∙
    passes _ _ (status e ∙ clear _ tt c.check_fields.ensures c.in_ok-check_fields.was)
