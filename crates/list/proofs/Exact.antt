-- Each refusal in its exact case and order, as in plane's file of this name. A refused reading is zeros besides its number, a refused
-- append tells length 0, and a refused call leaves the buffer. Assumes nothing.
use Prim.Native.Nat.{ℕ, ◌<◌, ◌≤◌}
use native.Mathlib.Omega.{arith}
use mathlib.Core.Path.{◌≡◌, refl, sym, ap, ◌∙◌}
use mathlib.Core.Logic.{⊎_elim}
use mathlib.Core.List.{List}
use borrow.Author.Tests.{lt-leb, le-leb}
use Rattle.faults.specs.declared.Fault.{Fault}
use Rattle.faults.specs.Faults.{fault}
use Rattle.faults.specs.Exactness.{Exact}
use Rattle.faults.proofs.Faults.{status, is_fault, given, spared}
use Rattle.faults.proofs.Chains.{exact, exact_overall}
use Rattle.record.specs.declared.Reading.{Reading}
use Rattle.record.specs.Records.{read_fault, no_reading}
use Rattle.record.proofs.Answers.{read-status, read-given, read-refused}
use Rattle.record.proofs.Exact.{read_zeros}
use Rattle.list.specs.declared.Appended.{Appended}
use Rattle.list.specs.declared.Numbered.{Numbered}
use Rattle.list.specs.Lists.{list_rules, list_fault, record_count, record_in, record_at, record_rules}
use Rattle.list.specs.Writers.{start_rules, start_fault, append_rules, append_fault, no_append}
use Rattle.list.specs.Claims.{ListExact, RecordExact, StartExact, AppendExact, RecordZeros, AppendZeros, StartUnchanged, AppendUnchanged}
use Rattle.list.proofs.Answers.{in-or-past, at-past, at_in}
use Rattle.list.proofs.Writing.{start_same, append_same, append_refused, append_told, append_status}

-- ---- the theorems

pub list_exact : ListExact
unfolding list_fault
list_exact bs = exact_overall (list_rules bs) (omega arith) refl refl

pub start_exact : StartExact
unfolding start_fault
start_exact buffer = exact_overall (start_rules buffer) (omega arith) refl refl

pub append_exact : AppendExact
unfolding append_fault
append_exact buffer n t c =
    exact (append_rules buffer n t c) (omega arith) (append_status buffer n t c)
    (λ z. ap (λ (a : Appended). a.dim) (append_told buffer n t c z))
    (λ h. ap (λ (a : Appended). a.dim) (append_refused buffer n t c h))

pub append_zeros : AppendZeros
append_zeros buffer n t c h =
    let e = append_refused buffer n t c (λ z. h (append_status buffer n t c ∙ z)) in
    e ∙ ap (λ (a : Appended). no_append (fault a.status a.dim)) (sym e)

pub start_unchanged : StartUnchanged
start_unchanged buffer h = start_same buffer h

pub append_unchanged : AppendUnchanged
append_unchanged buffer n t c h = append_same buffer n t c (λ z. h (append_status buffer n t c ∙ z))

-- ---- a record of a list

module _ (bs : List ℕ) (k : ℕ) where
  -- a record that is there is judged as its bytes are
  exact_there : k < record_count bs → let r = (record_at bs k).reading in Exact (record_rules bs k) r.status r.dim
  unfolding read_fault
  exact_there h =
      let one = record_in bs k in
      let e = spared 39 0 _ (read_fault one) (lt-leb (record_count bs) k h) in
      let r = ap (λ (a : Numbered). a.reading) (at_in bs k h) in
      exact (record_rules bs k) (omega arith)
      (ap (λ (a : Reading). a.status) r ∙ read-status one ∙ sym (status e))
      (λ z. ap (λ (a : Reading). a.dim) (r ∙ read-given one (sym (status e) ∙ z)))
      (λ n. ap (λ (a : Reading). a.dim) (r ∙ sym (read-refused one {f = read_fault one} refl (λ z. n (status e ∙ z)) refl)) ∙ ap (λ (f : Fault). f.dim) (sym e))

  exact_past : record_count bs ≤ k → let r = (record_at bs k).reading in Exact (record_rules bs k) r.status r.dim
  unfolding read_fault
  exact_past h =
      let e = given 39 0 _ (read_fault (record_in bs k)) (omega arith) (le-leb (record_count bs) k h) in
      let r = ap (λ (a : Numbered). a.reading) (at-past bs k h) in
      exact (record_rules bs k) (omega arith)
      (ap (λ (a : Reading). a.status) r ∙ sym (status e))
      (λ z. absurd (is_fault 39 0 (omega arith) e z))
      (λ n. ap (λ (a : Reading). a.dim) r ∙ sym (ap (λ (f : Fault). f.dim) e))

pub record_exact : RecordExact
record_exact bs k = ⊎_elim (exact_there bs k) (exact_past bs k) (in-or-past k (record_count bs))

pub record_zeros : RecordZeros
record_zeros bs k h = ⊎_elim there past (in-or-past k (record_count bs))
  where
    there : k < record_count bs → let r = (record_at bs k).reading in r ≡ no_reading (fault r.status r.dim)
    there l =
        let r = ap (λ (a : Numbered). a.reading) (at_in bs k l) in
        r ∙ read_zeros (record_in bs k) (λ z. h (ap (λ (a : Reading). a.status) r ∙ z)) ∙ ap (λ (a : Reading). no_reading (fault a.status a.dim)) (sym r)

    past : record_count bs ≤ k → let r = (record_at bs k).reading in r ≡ no_reading (fault r.status r.dim)
    past l =
        let r = ap (λ (a : Numbered). a.reading) (at-past bs k l) in
        r ∙ ap (λ (a : Reading). no_reading (fault a.status a.dim)) (sym r)
