-- `mover::elements::copy` reads an element's bytes, and stores them. Assumes nothing.
use Rattle.std.proofs.Common.{◌≡◌, arith}
use Rattle.mover.specs.Private.Elements.{source_bytes}
use Rattle.plane.proofs.Bounds.{element_four}
use Rattle.mover.proofs.Bytes.{copied_four}
use Rattle.mover.proofs.elements.copy.Goals as goal

pub returns : goal.returns
returns c =
    let e : c.args.size ≡ 4 = element_four c.args.size c.requires.sized c.if-size-eq1.false c.if-size-eq2.false c.if-size-eq3.false in
    rw (e, c.source-bytes.ensures)
    (copied_four c.args.dst.now (source_bytes c.args.origin c.args.dst.now) c.args.at c.args.to (omega (arith, c.requires.size_in_bounds, e)))
