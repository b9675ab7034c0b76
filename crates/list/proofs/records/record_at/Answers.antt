-- `list::records::record_at` meets its contract. Assumes nothing.
use Prim.Native.Nat.{◌+◌, ◌-◌, ◌≤◌}
use mathlib.Core.Path.{◌≡◌, sym, ◌∙◌}
use native.Mathlib.Omega.{arith}
use borrow.Author.Rules.{rules}
use lib.ListN.{length}
use Rattle.record.specs.Layout.{part, record_length}
use Rattle.record.specs.Records.{read_of}
use Rattle.list.specs.Layout.{list_length}
use Rattle.list.proofs.Answers.{at-past, at_in, record-within}
use Rattle.list.proofs.records.record_at.Goals as goal
use Rattle.list.proofs.records.record_at.Goals.{Else-record_count-k}

pub returns-then-record_count-k : goal.returns-then-record_count-k
returns-then-record_count-k c =
    c.no_record.ensures ∙ sym (at-past c.args.bytes.now c.args.k (omega (arith, c.record_count.ensures, c.if-record_count-k.true)))

-- the record lies inside the bytes, so no place in them wraps
inside : (c : Else-record_count-k) → list_length c.args.k + record_length ≤ length c.args.bytes.now
inside c =
    record-within c.args.bytes.now c.args.k (omega (arith, c.record_count.ensures, c.if-record_count-k.false))

pub overflow_mul-start : goal.overflow_mul-start
overflow_mul-start c = search (rules, inside c)

pub overflow_add-start : goal.overflow_add-start
overflow_add-start c = search (rules, inside c)

pub overflow_add-end : goal.overflow_add-end
overflow_add-end c = search (rules, inside c)

pub slice_bounds-read-end : goal.slice_bounds-read-end
slice_bounds-read-end c = omega (arith, inside c)

pub returns : goal.returns
returns c =
    let k = c.args.k in
    let s = list_length k in
    let e : c.read.result ≡ read_of (part s (s + record_length - s) c.args.bytes.now) = c.read.ensures in
    let l : s + record_length - s ≡ record_length = omega arith in
    rw (e, l, at_in c.args.bytes.now k (omega (arith, c.record_count.ensures, c.if-record_count-k.false)))
