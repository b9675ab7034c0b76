-- `mover::start::begin` works out coordinates from the number, and places from coordinates. Assumes nothing.
use Rattle.std.proofs.Common.{◌≡◌, ◌+◌, ◌*◌, ◌^◌, ◌<◌, arith}
use Rattle.mover.specs.Private.Elements.{co0, co1, co2, co3}
use Rattle.mover.specs.Private.Adding.{beginning_of}
use Rattle.mover.specs.Private.Ready.{InExtents}
use Rattle.mover.proofs.Places.{axis_some}
use Rattle.mover.proofs.ByNumber.{within_good}
use Rattle.mover.proofs.Adding.{spot_to, begin_to, Reaches, reaches}
use Rattle.mover.proofs.start.begin.Goals as goal
use Rattle.mover.proofs.start.begin.Goals.{After-spot_at-layer, After-spot_at-row, After-spot_at-slab, Start}

within : (s : Start) → let p = s.args.plan in let q = s.args.from in InExtents p (co0 p q) (co1 p q) (co2 p q) (co3 p q)
within s =
    within_good s.args.plan s.requires.good_axes s.args.from s.requires.from_bound

to : (s : Start) → let p = s.args.plan in let q = s.args.from in p.base + co0 p q * p.d0.stride + co1 p q * p.d1.stride + co2 p q * p.d2.stride + co3 p q * p.d3.stride < 2 ^ 64
to s = begin_to s.args.plan (within s) s.requires.plan_bound.1

far : (s : Start) → Reaches s.args.plan
far s = reaches s.args.plan s.requires.plan_bound.0

-- the start of the slab, of the layer and of the row in the destination, in sums
slab : (c : After-spot_at-slab) → let p = c.args.plan in let q = c.args.from in c.spot_at-slab.result.to ≡ p.base + co0 p q * p.d0.stride
slab c = spot_to _ _ _ (omega (arith, to c.before.before)) c.spot_at-slab.ensures

layer : (c : After-spot_at-layer) → let p = c.args.plan in let q = c.args.from in
    c.spot_at-layer.result.to ≡ p.base + co0 p q * p.d0.stride + co1 p q * p.d1.stride
layer c =
    let b = slab c.before.before in
    let e = spot_to _ _ _ (omega (arith, to c.before.before.before.before)) c.spot_at-layer.ensures in
    omega arith

row : (c : After-spot_at-row) → let p = c.args.plan in let q = c.args.from in
    c.spot_at-row.result.to ≡ p.base + co0 p q * p.d0.stride + co1 p q * p.d1.stride + co2 p q * p.d2.stride
row c =
    let b = layer c.before.before in
    let e = spot_to _ _ _ (omega (arith, to c.before.before.before.before.before.before)) c.spot_at-row.ensures in
    omega arith

pub spot_at-slab-requires : goal.spot_at-slab-requires
spot_at-slab-requires c =
    record {
      count_nonzero = c.requires.good_axes.in0.some;
      stride_bound = omega (arith, to (goal.at-spot_at-slab-requires c).Start);
      jump_bound = (far (goal.at-spot_at-slab-requires c).Start).far0;
    }

pub spot_at-layer-requires : goal.spot_at-layer-requires
spot_at-layer-requires c =
    record {
      count_nonzero = c.requires.good_axes.in1.some;
      stride_bound = omega (arith, to (goal.at-spot_at-layer-requires c).Start, slab (goal.at-spot_at-layer-requires c).After-spot_at-slab);
      jump_bound = (far (goal.at-spot_at-layer-requires c).Start).far1;
    }

pub spot_at-row-requires : goal.spot_at-row-requires
spot_at-row-requires c =
    record {
      count_nonzero = c.requires.good_axes.in2.some;
      stride_bound = omega (arith, to (goal.at-spot_at-row-requires c).Start, layer (goal.at-spot_at-row-requires c).After-spot_at-layer);
      jump_bound = (far (goal.at-spot_at-row-requires c).Start).far2;
    }

pub spot_at-here-requires : goal.spot_at-here-requires
spot_at-here-requires c =
    record {
      count_nonzero = c.requires.good_axes.in3.some;
      stride_bound = omega (arith, to (goal.at-spot_at-here-requires c).Start, row (goal.at-spot_at-here-requires c).After-spot_at-row);
      jump_bound = (far (goal.at-spot_at-here-requires c).Start).far3;
    }

pub returns : goal.returns
unfolding beginning_of
returns c = rw (c.spot_at-here.ensures, c.spot_at-row.ensures, c.spot_at-layer.ensures, c.spot_at-slab.ensures)

pub nonzero_div-rows : goal.nonzero_div-rows
nonzero_div-rows c = axis_some c.requires.good_axes.in3

pub nonzero_div-layers : goal.nonzero_div-layers
nonzero_div-layers c = axis_some c.requires.good_axes.in2

pub nonzero_div-c0 : goal.nonzero_div-c0
nonzero_div-c0 c = axis_some c.requires.good_axes.in1

pub nonzero_rem-c1 : goal.nonzero_rem-c1
nonzero_rem-c1 c = axis_some c.requires.good_axes.in1

pub nonzero_rem-c2 : goal.nonzero_rem-c2
nonzero_rem-c2 c = axis_some c.requires.good_axes.in2

pub nonzero_rem-c3 : goal.nonzero_rem-c3
nonzero_rem-c3 c = axis_some c.requires.good_axes.in3
