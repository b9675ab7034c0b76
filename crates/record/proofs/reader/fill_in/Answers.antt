-- `record::reader::fill_in` meets its contract. Assumes nothing.
use mathlib.Core.Path.{sym}
use mathlib.Core.Logic.{⊎_elim}
use native.Mathlib.Omega.{arith}
use Rattle.record.proofs.Lengths.{two_lengths, fill_none}
use Rattle.record.proofs.Digits.{word_is}
use Rattle.record.proofs.reader.fill_in.Goals as goal

pub returns-then-bytes-eq-LENGTH : goal.returns-then-bytes-eq-LENGTH
returns-then-bytes-eq-LENGTH c = sym (fill_none c.args.bytes.now c.if-bytes-eq-LENGTH.true)

pub part-requires : goal.part-requires
part-requires c =
    ⊎_elim (λ e. absurd (c.if-bytes-eq-LENGTH.false e)) (λ e. omega arith) (two_lengths _ c.requires)

pub returns : goal.returns
returns c =
    word_is 131 c.args.bytes.now (⊎_elim (λ e. absurd (c.if-bytes-eq-LENGTH.false e)) (λ e. omega arith) (two_lengths _ c.requires))
    c.part.ensures c.from_le_bytes.ensures
