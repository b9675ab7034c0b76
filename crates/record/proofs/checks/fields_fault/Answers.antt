-- `record::checks::fields_fault` meets its contract. Assumes nothing.
use mathlib.Core.Path.{ap, ◌∙◌}
use native.Mathlib.Omega.{arith}
use Rattle.record.specs.Private.{fault_in}
use Rattle.record.specs.Records.{fields_rules, fields_fault}
use Rattle.record.proofs.Fields.{fault_back}
use Rattle.record.proofs.checks.fields_fault.Goals as goal

pub returns : goal.returns
unfolding fields_fault
returns c =
    c.fault_of.ensures ∙ ap fault_in c.check_fields.ensures ∙ fault_back (fields_rules c.args.version c.args.tensor c.args.config) (omega arith) tt
