-- `record::reader::read` meets its contract. Assumes nothing.
use mathlib.Core.Path.{sym, ap, ◌∙◌}
use Rattle.plane.specs.declared.Tensor.{Tensor}
use Rattle.plane.specs.declared.Config.{Config}
use Rattle.faults.proofs.Faults.{status}
use Rattle.faults.proofs.Outcomes.{clear, passed_value, found, fault_is}
use Rattle.record.specs.Records.{reading}
use Rattle.record.proofs.Answers.{read-refused, read-given}
use Rattle.record.proofs.reader.read.Goals as goal

pub returns-in-Ok : goal.returns-in-Ok
returns-in-Ok c =
    let w = c.fields_in.ensures in
    ap (λ (p : Tensor × Config). reading p.0 p.1) (passed_value _ _ w c.in-Ok.is) ∙ sym (read-given c.args.bytes.now (clear _ _ w c.in-Ok.is))

pub returns-in-Err : goal.returns-in-Err
returns-in-Err c =
    let w = c.fields_in.ensures in
    read-refused c.args.bytes.now (fault_is _ _ w c.in-Err.is) (λ z. found _ _ w c.in-Err.is (status (fault_is _ _ w c.in-Err.is) ∙ z))
    (rw (c.zero-in-Err.ensures, c.zero.ensures))
