-- A list holds only records of version 1, which have no fill. Assumes nothing.
use Prim.Native.Nat.{ℕ}
use mathlib.Core.Path.{◌≡◌, sym, ap, ◌∙◌}
use mathlib.Core.Logic.{⊎_elim}
use mathlib.Core.List.{List}
use Rattle.record.specs.Layout.{record_length}
use Rattle.record.proofs.Parts.{length_part}
use Rattle.record.proofs.Answers.{read_plain}
use Rattle.list.specs.declared.Numbered.{Numbered}
use Rattle.list.specs.Layout.{list_length}
use Rattle.list.specs.Lists.{record_count, record_in, record_at}
use Rattle.list.specs.Claims.{NoFill}
use Rattle.list.proofs.Answers.{in-or-past, record-within, at-past, at_in}
use Rattle.list.proofs.Members.{no_fill}
use Rattle.list.proofs.Writing.{append_status, append_member}

handed : (bs : List ℕ) (k : ℕ) → (record_at bs k).reading.config.fill ≡ 0
handed bs k =
    ⊎_elim
    (λ h.
    ap (λ (r : Numbered). r.reading.config.fill) (at_in bs k h) ∙
    read_plain (record_in bs k) (length_part (list_length k) record_length bs (record-within bs k h)))
    (λ h. ap (λ (r : Numbered). r.reading.config.fill) (at-past bs k h))
    (in-or-past k (record_count bs))

pub plain_records : NoFill
plain_records = record {
  handed = handed;
  appended = λ buffer n t c y. no_fill t c (append_member buffer n t c (sym (append_status buffer n t c) ∙ y));
}
