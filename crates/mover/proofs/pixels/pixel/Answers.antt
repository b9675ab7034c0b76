-- `mover::pixel` is the element at a coordinate, or refused. Assumes nothing.
use Rattle.mover.proofs.Picking.{answer_refuses, answer_pickable, answer_size, answer_fits, answer_tells}
use Rattle.mover.proofs.pixels.pixel.Goals as goal

pub returns-in-Err : goal.returns-in-Err
returns-in-Err c =
    answer_refuses c.args.t c.args.c c.args.src c.args.at c.in-Err.ensures

pub row_at-row-requires : goal.row_at-row-requires
row_at-row-requires c =
    answer_pickable c.args.t c.args.c c.args.src c.args.at c.in-Ok.ensures

pub bytes_of-requires : goal.bytes_of-requires
bytes_of-requires c =
    let e = c.in-Ok.ensures in record {
      row_bound = answer_size c.args.t c.args.c c.args.src c.args.at e c.row_at-row.ensures;
      row_in_bounds = answer_fits c.args.t c.args.c c.args.src c.args.at e c.row_at-row.ensures;
    }

pub returns-in-Ok : goal.returns-in-Ok
returns-in-Ok c =
    rw c.bytes_of.ensures (answer_tells c.args.t c.args.c c.args.src c.args.at c.in-Ok.ensures c.row_at-row.ensures c.is_none.ensures)
