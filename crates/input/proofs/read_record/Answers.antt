-- The fill stands behind the rest of the record, and no record is longer than both.
use Rattle.std.proofs.Common.{◌≡◌, ◌++◌, rules, length, take, sym, ap, ◌∙◌, subst}
use Rattle.std.specs.Io.KnownBytes.{Consumes}
use Rattle.std.proofs.KnownBytes.{Consumes-trans}
use borrow.Rule.Slice.PartMut.{post_of}
use lib.Seq.{take-append-le}
use Rattle.input.proofs.Reading.{take-put_mid, ends-short}
use Rattle.input.proofs.read_record.Goals as goal

pub returns-clause-read : goal.returns-clause-read
returns-clause-read g c =
    let n = c.in_ok-n.n in
    let more = c.in_ok-more.more in
    let head = c.read_full.new.bytes in
    let after = post_of 0 131 c.args.bytes.now in
    let size : length head ≡ 131 = search rules in
    let full : n ≡ 131 = search rules in
    let front = ap (λ k. take k head) full ∙ sym (take-append-le 131 head after (search rules)) in
    let joined = take-put_mid 131 4 more (head ++ after) c.read_full-2.new.bytes (search rules) (search rules) in
    subst (Consumes _ _) (ap (λ l. l ++ take more c.read_full-2.new.bytes) front ∙ sym joined) (Consumes-trans _ _ _ _ _ c.in_ok-n.ensures.read c.in_ok-more.ensures.read)

pub returns-clause-end : goal.returns-clause-end
returns-clause-end g c = λ short.
    let below = ends-short c.in_ok-more.more (c.read_full.new.bytes ++ post_of 0 131 c.args.bytes.now) c.read_full-2.new.bytes (search rules) (search rules) short in
    c.in_ok-more.ensures.end (search (below, rules))
