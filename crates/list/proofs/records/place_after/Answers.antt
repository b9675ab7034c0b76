-- `list::records::place_after` meets its contract. Assumes nothing.
use mathlib.Core.Path.{sym}
use native.Mathlib.Omega.{arith}
use Rattle.list.proofs.Answers.{after-past, after-in}
use Rattle.list.proofs.records.place_after.Goals as goal

pub returns-then-record_count-k : goal.returns-then-record_count-k
returns-then-record_count-k c =
    sym (after-past c.args.bytes.now c.args.k (omega (arith, c.record_count.ensures, c.if-record_count-k.true)))

pub returns : goal.returns
returns c =
    sym (after-in c.args.bytes.now c.args.k (omega (arith, c.record_count.ensures, c.if-record_count-k.false)))
