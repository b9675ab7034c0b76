-- `mover::layers::by_bands` meets its contract. Each loop keeps `At`: the coordinates are those of element number from + done, the
-- elements before it are moved, and the spots are its own. A loop's own start is another than the function's, so its invariant says
-- that `At`, at whatever destination the function began with, holds now if it held where the loop began; and that the last coordinate
-- is one of a row. Assumes nothing.
use Rattle.std.proofs.Common.{◌-◌, ◌<◌}
use Rattle.mover.proofs.Turns.{Keeps}
use Rattle.mover.proofs.layers.by_bands.Given as goal

abbrev pub invariant-loop-c2 : goal.invariant-loop-c2
invariant-loop-c2 l =
    Keeps l.origin l.plan l.from l.budget l.initial.dst l.c0 l.c1 l.initial.c2 l.initial.c3 l.initial.left l.initial.spots l.dst l.c0 l.c1 l.c2 l.c3 l.left l.spots × (l.initial.c3 < l.plan.d3.extent → l.c3 < l.plan.d3.extent)

abbrev pub decreases-loop-c2 : goal.decreases-loop-c2
decreases-loop-c2 l = l.plan.d2.extent - l.c2

abbrev pub invariant-loop-c1 : goal.invariant-loop-c1
invariant-loop-c1 l =
    Keeps l.origin l.plan l.from l.budget l.initial.dst l.c0 l.first1 l.initial.c2 l.initial.c3 l.initial.left l.initial.spots l.dst l.c0 l.c1 l.c2 l.c3 l.left l.spots × (l.initial.c3 < l.plan.d3.extent → l.c3 < l.plan.d3.extent)

abbrev pub invariant-all : goal.invariant-all
invariant-all l =
    Keeps l.origin l.plan l.from l.budget l.initial.dst l.initial.c0 l.initial.first1 l.initial.c2 l.initial.c3 l.initial.left l.initial.spots l.dst l.c0 l.first1 l.c2 l.c3 l.left l.spots × (l.initial.c3 < l.plan.d3.extent → l.c3 < l.plan.d3.extent)
