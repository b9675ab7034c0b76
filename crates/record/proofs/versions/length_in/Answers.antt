-- `record::versions::length_in` meets its contract. Assumes nothing.
use borrow.Author.Tests.{lt-ltb, le-ltb}
use native.Mathlib.Omega.{arith}
use Rattle.record.specs.Records.{length_in}
use Rattle.record.proofs.Digits.{half_is}
use Rattle.record.proofs.versions.length_in.Goals as goal

pub returns-then-bytes-lt-VERSION_END : goal.returns-then-bytes-lt-VERSION_END
unfolding length_in
returns-then-bytes-lt-VERSION_END c = simp (lt-ltb _ _ c.if-bytes-lt-VERSION_END.true)

pub returns : goal.returns
unfolding length_in
returns c =
    rw (c.length_of.ensures, half_is 3 c.args.bytes.now (omega arith) c.part.ensures c.from_le_bytes.ensures, le-ltb _ _ c.if-bytes-lt-VERSION_END.false)
