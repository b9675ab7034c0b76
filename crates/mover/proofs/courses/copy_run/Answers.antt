-- `mover::courses::copy_run` copies bytes where elements lie side by side. Assumes nothing.
use Rattle.std.proofs.Common.{ℕ, ◌+◌, ◌%◌, ◌^◌, ap, ◌∙◌, arith}
use Rattle.mover.proofs.Blocks.{Block, block}
use Rattle.mover.proofs.courses.copy_run.Goals as goal
use Rattle.mover.proofs.courses.copy_run.Goals.{Then-c-2}

-- where jump and stride are the size
side_by_side : (c : Then-c-2) → Block c.args.origin c.args.dst.now c.args.c
side_by_side c =
    block c.args.origin c.args.dst.now c.args.c (omega (arith, c.well_formed)) (omega (arith, c.well_formed)) (omega (arith, c.well_formed))
    c.requires.writable c.requires.readable c.if-c-2.true c.if-c.true

pub bytes-n-requires : goal.bytes-n-requires
bytes-n-requires c =
    record {
      sized = c.requires.writable.sized;
      size_bound = (side_by_side c).fits;
    }

pub copy_bytes-requires : goal.copy_bytes-requires
copy_bytes-requires c = rw c.bytes-n.ensures (side_by_side (goal.at-copy_bytes-requires c).Then-c-2).asks

pub returns-then-c-2 : goal.returns-then-c-2
returns-then-c-2 c =
    let b = side_by_side (goal.at-returns-then-c-2 c).Then-c-2 in
    let e = c.bytes-n.ensures in record {
      next = ap (λ (y : ℕ). (c.args.c.to + y) % 2 ^ 64) e ∙ b.next;
      written = c.copy_bytes.ensures ∙ rw e b.copied;
    }
