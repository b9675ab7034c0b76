use Rattle.std.proofs.Common.{◌≡◌, ℕ, take, ap, ◌∙◌, arith}
use lib.Seq.{sets}
use Rattle.mover.specs.Private.Rows.{size_of, row_bytes}
use Rattle.mover.proofs.Storing.{byte_next, stored_all}
use Rattle.mover.proofs.plain.store.Goals as goal

pub loop-b-preserved : goal.loop-b-preserved
loop-b-preserved c =
    let l = c.loop-b in
    let h = c.loop-b-test.true in (
      omega (arith, h),
      rw l.invariant.1
          (byte_next c.args.row.now c.args.dst.now c.requires l.b h (rw l.invariant.1 at c.byte.ensures)),
    )

pub returns : goal.returns
returns c =
    let e : c.loop-b.b ≡ size_of c.args.row.now = omega (arith, c.loop-b.invariant.0, c.loop-b-test.false) in
    c.loop-b.invariant.1 ∙
    ap (λ (n : ℕ). sets c.args.dst.now c.args.row.now.place (take n (row_bytes c.args.row.now c.args.dst.now))) e ∙
    stored_all c.args.row.now c.args.dst.now c.requires
