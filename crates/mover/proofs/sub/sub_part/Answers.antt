-- `mover::sub::sub_part` meets its contract. Assumes nothing.
use Rattle.mover.proofs.SubParts.{part_refused, part_within, part_given}
use Rattle.mover.proofs.sub.sub_part.Goals as goal

pub returns-then-a-ne0 : goal.returns-then-a-ne0
returns-then-a-ne0 c =
    part_refused _ _ _ c.sub_tensor-a.ensures c.if-a-ne0.true

pub slice_bounds-result-count-2 : goal.slice_bounds-result-count-2
slice_bounds-result-count-2 c = part_within _ _ c.args.src.now c.sub_tensor-a.ensures c.if-a-ne0.false

pub slice_bounds-result-start-2 : goal.slice_bounds-result-start-2
slice_bounds-result-start-2 c = part_within _ _ c.args.src.now c.sub_tensor-a.ensures c.if-a-ne0.false

pub returns : goal.returns
returns c =
    part_given _ _ _ c.sub_tensor-a.ensures c.if-a-ne0.false
