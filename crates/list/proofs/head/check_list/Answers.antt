-- `list::head::check_list` meets its contract. Assumes nothing.
use Prim.Native.Nat.{ℕ, ◌+◌, ◌*◌}
use mathlib.Core.Path.{◌≡◌, sym, ap, ◌∙◌}
use mathlib.Core.Bool.{not}
use native.Mathlib.Omega.{arith}
use borrow.Author.Tests.{eq-eqb, ne_eqb}
use Rattle.std.specs.Prelude.{Ok}
use Rattle.faults.proofs.Faults.{status}
use Rattle.faults.proofs.Outcomes.{passes, refuses}
use Rattle.record.proofs.Digits.{mark_told}
use Rattle.list.specs.Layout.{version_place, count_place}
use Rattle.list.specs.Lists.{count_in}
use Rattle.list.proofs.Answers.{two_read, list-25, list-26, list-27, list-30, list-0}
use Rattle.list.proofs.head.check_list.Goals as goal

pub returns-then-bytes-lt-HEAD : goal.returns-then-bytes-lt-HEAD
returns-then-bytes-lt-HEAD c = refuses _ (list-25 c.args.bytes.now c.if-bytes-lt-HEAD.true) (λ z. omega arith)

pub returns-then-not-starts_with : goal.returns-then-not-starts_with
returns-then-not-starts_with c =
    let bs = c.args.bytes.now in
    let m = mark_told 82 77 76 bs (omega arith) c.starts_with.ensures.value c.if-not-starts_with.true in
    refuses _ (list-26 bs c.if-bytes-lt-HEAD.false m) (λ z. omega arith)

pub returns-then-version-ne-VERSION : goal.returns-then-version-ne-VERSION
returns-then-version-ne-VERSION c =
    let bs = c.args.bytes.now in
    let m = mark_told 82 77 76 bs (omega arith) c.starts_with.ensures.value c.if-not-starts_with.false in
    let v = two_read bs version_place (omega arith) c.from_le_bytes-version.ensures in
    refuses _ (list-27 bs c.if-bytes-lt-HEAD.false m (ap not (ne_eqb _ _ (λ e. c.if-version-ne-VERSION.true (v ∙ e))))) (λ z. omega arith)

pub returns-then-bytes-from : goal.returns-then-bytes-from
returns-then-bytes-from c =
    let bs = c.args.bytes.now in
    let m = mark_told 82 77 76 bs (omega arith) c.starts_with.ensures.value c.if-not-starts_with.false in
    let v = two_read bs version_place (omega arith) c.from_le_bytes-version.ensures in
    let n : c.from.result ≡ count_in bs = c.from.ensures ∙ two_read bs count_place (omega arith) c.from_le_bytes-count.ensures in
    refuses _
    (list-30 bs c.if-bytes-lt-HEAD.false m (ap not (eq-eqb _ _ (sym v ∙ c.if-version-ne-VERSION.false)))
    (λ e. c.if-bytes-from.true (e ∙ ap (λ (k : ℕ). 7 + 131 * k) (sym n))))
    (λ z. omega arith)

pub returns : goal.returns
returns c =
    let bs = c.args.bytes.now in
    let m = mark_told 82 77 76 bs (omega arith) c.starts_with.ensures.value c.if-not-starts_with.false in
    let v = two_read bs version_place (omega arith) c.from_le_bytes-version.ensures in
    let k = two_read bs count_place (omega arith) c.from_le_bytes-count.ensures in
    let n : c.from.result ≡ count_in bs = c.from.ensures ∙ k in
    ap Ok k ∙
    passes _ _
    (status (list-0 bs c.if-bytes-lt-HEAD.false m (ap not (eq-eqb _ _ (sym v ∙ c.if-version-ne-VERSION.false)))
    (c.if-bytes-from.false ∙ ap (λ (k : ℕ). 7 + 131 * k) n)))
