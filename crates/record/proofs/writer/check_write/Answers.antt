-- `record::writer::check_write` meets its contract. Assumes nothing.
use mathlib.Core.Path.{sym, ap, ◌∙◌}
use native.Mathlib.Omega.{arith}
use Rattle.faults.specs.declared.Fault.{Fault}
use Rattle.faults.specs.Faults.{outcome}
use Rattle.faults.proofs.Outcomes.{refuses}
use Rattle.record.specs.Records.{fields_fault}
use Rattle.record.proofs.Answers.{write-25, write-fields}
use Rattle.record.proofs.writer.check_write.Goals as goal

pub returns-then-n-length_for : goal.returns-then-n-length_for
returns-then-n-length_for c =
    refuses tt (write-25 c.args.t c.args.c c.args.n (λ e. c.if-n-length_for.true (e ∙ sym c.length_for.ensures))) (λ z. omega arith)

pub returns : goal.returns
returns c =
    c.check_fields.ensures ∙
    ap (λ (f : Fault). outcome f tt)
    (ap (λ v. fields_fault v c.args.t c.args.c) c.version_for.ensures ∙
    sym (write-fields c.args.t c.args.c c.args.n (c.if-n-length_for.false ∙ c.length_for.ensures)))
