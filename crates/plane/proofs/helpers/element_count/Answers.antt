use mathlib.Core.Path.{sym, ap, ◌∙◌}
use Rattle.faults.specs.declared.Fault.{Fault}
use Rattle.plane.specs.Helpers.{no_count, count_of}
use Rattle.plane.proofs.CountAnswers.{count_answer_refused, count_answer_given}
use Rattle.faults.proofs.Outcomes.{clear, passed_value, found, fault_is}
use Rattle.plane.proofs.helpers.element_count.Goals as goal

pub returns-in-Ok : goal.returns-in-Ok
unfolding count_of
returns-in-Ok c =
    ap (λ x. record { status = 0; dim = 0; count = x }) (passed_value _ _ c.counted.ensures c.in-Ok.is) ∙
    sym (count_answer_given _ _ (clear _ _ c.counted.ensures c.in-Ok.is))

pub returns-in-Err : goal.returns-in-Err
unfolding count_of
returns-in-Err c =
    ap (λ (f : Fault). no_count f) (sym (fault_is _ _ c.counted.ensures c.in-Err.is)) ∙
    sym (count_answer_refused _ _ (found _ _ c.counted.ensures c.in-Err.is))
