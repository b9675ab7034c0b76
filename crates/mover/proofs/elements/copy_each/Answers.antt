use Rattle.std.proofs.Common.{◌≡◌, sym, ap, ◌∙◌, refl, arith}
use lib.Seq.{sets}
use Rattle.mover.specs.Private.Elements.{source_bytes}
use Rattle.mover.specs.Private.Runs.{run_stored, kept_bytes}
use Rattle.mover.proofs.Adding.{along_none, along_next}
use Rattle.mover.proofs.Places.{still_held}
use Rattle.mover.proofs.Runs.{run_keeps, done_start, done_next, done_end}
use Rattle.mover.proofs.elements.copy_each.Goals as goal

pub loop-init : goal.loop-init
loop-init c =
    let a = c.args.c in (
      done_start (kept_bytes (source_bytes c.args.origin c.args.dst.now) a) a.to a.stride a.n c.args.dst.now (omega (arith, c.well_formed)),
      sym (along_none a.at a.jump (omega (arith, c.well_formed))),
    )

pub copy-requires-clause-size_in_bounds : goal.copy-requires-clause-size_in_bounds
copy-requires-clause-size_in_bounds c =
    let l = c.loop in
    rw l.invariant.1 (still_held c.args.origin c.args.dst.now l.dst l.auto.dst (c.requires.readable.held l.counter c.loop-test.true))

pub copy-requires-clause-size_in_bounds_2 : goal.copy-requires-clause-size_in_bounds_2
copy-requires-clause-size_in_bounds_2 c =
    let l = c.loop in
    rw l.invariant.0.place (omega (arith, c.requires.writable.held l.counter c.loop-test.true, l.auto.dst))

pub loop-preserved : goal.loop-preserved
loop-preserved c =
    let l = c.loop in
    let a = c.args.c in
    let d = c.args.dst.now in
    let v = source_bytes c.args.origin d in
    let e : c.copy.new.dst ≡ sets l.dst l.to (kept_bytes v a l.counter) =
    c.copy.ensures ∙
    rw (l.invariant.1, l.invariant.0.bytes) (ap (sets (run_stored (kept_bytes v a) a.to a.stride l.counter d) l.to)
    (run_keeps c.args.origin d v a l.counter c.requires.readable.parted c.loop-test.true)) in (
      done_next l.invariant.0 c.loop-test.true refl e,
      rw l.invariant.1 (along_next a.at a.jump l.counter),
    )

pub returns : goal.returns
returns c =
    let told = done_end c.loop.invariant.0 c.loop-test.false in record {
      next = told.0;
      written = told.1;
    }
