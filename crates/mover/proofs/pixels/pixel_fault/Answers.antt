-- `mover::pixels::pixel_fault` asks as a move does, and then for the coordinate. Assumes nothing.
use Rattle.std.proofs.Common.{◌≡◌, Err, ◌∙◌, rules}
use Rattle.mover.proofs.Picking.{picked_stopped, picked_rank, picked_found}
use Rattle.mover.proofs.pixels.pixel_fault.Goals as goal

pub returns-in_err-a : goal.returns-in_err-a
returns-in_err-a c =
    let e : c.from_residual.result ≡ Err c.in_err-a.field-0.0 = search rules in
    e ∙ picked_stopped c.args.t c.args.c c.args.len c.args.x c.in_err-a.ensures

pub coordinate_fault-requires : goal.coordinate_fault-requires
coordinate_fault-requires c =
    picked_rank c.args.t c.args.c c.args.len c.args.x c.in_ok-a.ensures

pub returns : goal.returns
returns c =
    picked_found c.args.t c.args.c c.args.len c.args.x c.in_ok-a.ensures c.coordinate_fault.ensures
