-- `mover::copies::copy_ends` copies a block by its two ends. Assumes nothing.
use Rattle.std.proofs.Common.{◌≡◌, ◌+◌, ◌-◌, ◌*◌, ◌<◌, ◌≤◌, length, ap, ◌∙◌, arith}
use lib.Seq.{length-sets}
use Rattle.mover.specs.Private.Elements.{source_bytes}
use Rattle.mover.proofs.Blocking.{ends_stored}
use Rattle.mover.proofs.copies.copy_ends.Goals as goal

pub read-first-requires : goal.read-first-requires
read-first-requires g c =
    let e = c.requires.ends in
    let p : 0 < c.args.n = omega (arith, e) in
    let h : c.args.at + g.row.N ≤ length c.source-bytes.result.now = omega (arith, e, c.requires.blocked.read p, ap length c.source-bytes.ensures) in
    let w : g.row.N * 1 < 9223372036854775808 = omega (arith, e, c.requires.blocked.write p, c.well_formed) in
    (w, h)

pub read-last-requires : goal.read-last-requires
read-last-requires g c =
    let e = c.requires.ends in
    let p : 0 < c.args.n = omega (arith, e) in
    let h : c.args.at + (c.args.n - g.row.N) + g.row.N ≤ length c.source-bytes.result.now = omega (arith, e, c.requires.blocked.read p, ap length c.source-bytes.ensures) in
    let w : g.row.N * 1 < 9223372036854775808 = omega (arith, e, c.requires.blocked.write p, c.well_formed) in
    (w, h)

pub write-requires : goal.write-requires
write-requires g c =
    let e = c.requires.ends in
    let p : 0 < c.args.n = omega (arith, e) in
    let h : c.args.to + g.row.N ≤ length c.args.dst.now = omega (arith, e, c.requires.blocked.write p) in
    let w : g.row.N * 1 < 9223372036854775808 = omega (arith, e, c.requires.blocked.write p, c.well_formed) in
    (w, h)

pub write-requires-2 : goal.write-requires-2
write-requires-2 g c =
    let e = c.requires.ends in
    let p : 0 < c.args.n = omega (arith, e) in
    let l : length c.write.new.dst ≡ length c.args.dst.now = ap length c.write.ensures ∙ length-sets c.args.dst.now c.args.to c.read-first.result in
    let h : c.args.to + (c.args.n - g.row.N) + g.row.N ≤ length c.write.new.dst = omega (arith, e, c.requires.blocked.write p, l) in
    let w : g.row.N * 1 < 9223372036854775808 = omega (arith, e, c.requires.blocked.write p, c.well_formed) in
    (w, h)

pub returns : goal.returns
returns g c =
    let a = c.args in
    let e = c.requires.ends in
    let p : 0 < a.n = omega (arith, e) in
    c.write-2.ensures
    ∙ rw (c.write.ensures, c.read-first.ensures, c.read-last.ensures, c.source-bytes.ensures)
    (ends_stored a.dst.now (source_bytes a.origin a.dst.now) a.at a.to g.row.N a.n (omega (arith, e)) (omega (arith, e)) (c.requires.blocked.read p) (c.requires.blocked.write p))
