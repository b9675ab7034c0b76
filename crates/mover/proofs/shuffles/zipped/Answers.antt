use Rattle.std.proofs.Common.{length, ap, arith}
use lib.Seq.{length-sets}
use Rattle.mover.proofs.Shuffled.{zip_left, zip_more, zip_done}
use Rattle.mover.proofs.shuffles.zipped.Goals as goal

pub copy-requires : goal.copy-requires
copy-requires g c =
    let z = c.loop-k.invariant.0 in
    let h = zip_left z c.loop-k-test.true in record {
      sized = c.requires.sized.0;
      size_in_bounds = omega (arith, z.of);
      size_in_bounds_2 = omega (arith, z.long);
    }

pub copy-requires-in-loop-k : goal.copy-requires-in-loop-k
copy-requires-in-loop-k g c =
    let z = c.loop-k.invariant.0 in
    let h = zip_left z c.loop-k-test.true in
    let e = simp length-sets at (ap length c.copy.ensures) in record {
      sized = c.requires.sized.0;
      size_in_bounds = omega (arith, z.of);
      size_in_bounds_2 = omega (arith, e, z.long);
    }

pub loop-k-preserved : goal.loop-k-preserved
loop-k-preserved g c =
    let e = c.copy-in-loop-k.ensures in
    let f = c.copy.ensures in
    let l = c.loop-k in
    (rw (e, f, l.invariant.1) (zip_more l.invariant.0 c.loop-k-test.true), omega arith)

pub returns : goal.returns
returns g c = zip_done c.loop-k.invariant.0 c.loop-k-test.false
