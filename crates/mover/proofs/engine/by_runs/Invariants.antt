use Rattle.std.proofs.Common.{◌-◌}
use Rattle.mover.proofs.Turns.{Keeps}
use Rattle.mover.proofs.engine.by_runs.Given as goal

abbrev pub invariant-loop-c3 : goal.invariant-loop-c3
invariant-loop-c3 l =
    Keeps l.origin l.plan l.from l.budget l.initial.dst l.c0 l.c1 l.c2 l.initial.c3 l.initial.left l.initial.spots l.dst l.c0 l.c1 l.c2 l.c3 l.left l.spots

abbrev pub decreases-loop-c3 : goal.decreases-loop-c3
decreases-loop-c3 l = l.plan.d3.extent - l.c3

abbrev pub invariant-loop-c2 : goal.invariant-loop-c2
invariant-loop-c2 l =
    Keeps l.origin l.plan l.from l.budget l.initial.dst l.c0 l.c1 l.first2 l.initial.c3 l.initial.left l.initial.spots l.dst l.c0 l.c1 l.c2 l.c3 l.left l.spots

abbrev pub invariant-loop-c1 : goal.invariant-loop-c1
invariant-loop-c1 l =
    Keeps l.origin l.plan l.from l.budget l.initial.dst l.c0 l.first1 l.initial.first2 l.initial.c3 l.initial.left l.initial.spots l.dst l.c0 l.c1 l.first2 l.c3 l.left l.spots

abbrev pub invariant-all : goal.invariant-all
invariant-all l =
    Keeps l.origin l.plan l.from l.budget l.initial.dst l.initial.c0 l.initial.first1 l.initial.first2 l.initial.c3 l.initial.left l.initial.spots l.dst l.c0 l.first1 l.first2 l.c3 l.left l.spots
