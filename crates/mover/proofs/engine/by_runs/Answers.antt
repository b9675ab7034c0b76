use Rattle.std.proofs.Common.{◌≡◌, ◌^◌, ◌<◌, Bool, ◌&&◌, length, ap, ◌∙◌, pos_of_ne-zero, arith}
use Rattle.mover.specs.Private.Elements.{axis_kept}
use Rattle.mover.specs.Private.Ready.{Ready, InExtents}
use Rattle.mover.proofs.Turns.{At, Over, start, run_writes, run_reads, turn, next_row_lem, next_layer_lem, next_slab_lem, at_spent, at_end, at_length, at_ready}
use Rattle.mover.proofs.engine.by_runs.Goals as goal
use Rattle.mover.proofs.engine.by_runs.Goals.{At-all, At-loop-c1, At-loop-c2, At-loop-c3, In-loop-c3, Left-all, Start, else-all-test, then-all-test+then-loop-c1-test+then-loop-c2-test+then-loop-c3-test+then-is_spent}

-- where the innermost loop stands, from the destination that the function began with
at-loop3 : (c : At-loop-c3) → let a = c.loop-c3 in
    At c.args.origin c.args.plan c.args.dst.now c.args.from c.args.budget a.dst c.all.c0 c.loop-c1.c1 c.loop-c2.c2 a.c3 a.left a.spots
at-loop3 c =
    c.loop-c3.invariant c.args.dst.now
    (c.loop-c2.invariant c.args.dst.now
    (c.loop-c1.invariant c.args.dst.now
    (c.all.invariant c.args.dst.now
    (start c.args.origin c.args.plan c.args.dst.now c.args.from c.args.budget c.requires.ready c.requires.from_bound c.begin-start.ensures))))

-- in the innermost loop the coordinates are those of an element, and what a run asks holds
within : (c : In-loop-c3) → InExtents c.args.plan c.all.c0 c.loop-c1.c1 c.loop-c2.c2 c.loop-c3.c3
within c =
    record { in0 = c.all-test.true; in1 = c.loop-c1-test.true; in2 = c.loop-c2-test.true; in3 = c.loop-c3-test.true }

ready : (c : At-loop-c3) → Ready c.args.origin c.args.plan c.loop-c3.dst
ready c = at_ready (at-loop3 c) c.requires.ready

long : (c : At-loop-c3) → length c.loop-c3.dst < 2 ^ 63
long c = omega (arith, c.well_formed, at_length (at-loop3 c))

-- whether the outer coordinates are kept
outer : (c : At-loop-c3) → let p = c.args.plan in
    c.kept-kept2.result ≡ (axis_kept p.d0 c.all.c0 && axis_kept p.d1 c.loop-c1.c1 && axis_kept p.d2 c.loop-c2.c2)
outer c =
    let p = c.args.plan in
    c.kept-kept2.ensures
    ∙ ap (λ (x : Bool). x && axis_kept p.d2 c.loop-c2.c2) (c.kept-kept1.ensures ∙ ap (λ (x : Bool). x && axis_kept p.d1 c.loop-c1.c1) c.kept-kept0.ensures)

pub begin-start-requires : goal.begin-start-requires
begin-start-requires c =
    record {
      good_axes = c.requires.ready.axes;
      plan_bound = (c.requires.ready.reach, omega (arith, c.requires.ready.need, c.well_formed));
      from_bound = c.requires.from_bound;
    }

pub run_at-run-requires : goal.run_at-run-requires
run_at-run-requires c =
    record {
      count_bound = (ready (goal.at-run_at-run-requires c).At-loop-c3).axes.in3.within;
      c_lt_extent = c.loop-c3-test.true;
      most_nonzero = pos_of_ne-zero c.if-is_spent.false;
    }

pub overflow_add-c3 : goal.overflow_add-c3
overflow_add-c3 c =
    omega (arith, c.run_at-run.ensures.row, c.well_formed)

pub move_run-spots-requires : goal.move_run-spots-requires
move_run-spots-requires c =
    let a = at-loop3 (goal.at-move_run-spots-requires c).At-loop-c3 in record {
      writable = run_writes a (ready (goal.at-move_run-spots-requires c).At-loop-c3) (long (goal.at-move_run-spots-requires c).At-loop-c3) (within (goal.at-move_run-spots-requires c).In-loop-c3) (outer (goal.at-move_run-spots-requires c).At-loop-c3) c.run_at-run.ensures;
      readable = run_reads a (ready (goal.at-move_run-spots-requires c).At-loop-c3) (long (goal.at-move_run-spots-requires c).At-loop-c3) (within (goal.at-move_run-spots-requires c).In-loop-c3) (outer (goal.at-move_run-spots-requires c).At-loop-c3) c.run_at-run.ensures;
    }

pub loop-c3-smaller : goal.loop-c3-smaller
loop-c3-smaller c =
    omega (arith, c.run_at-run.ensures.some, c.loop-c3-test.true)

pub loop-c3-preserved : goal.loop-c3-preserved
loop-c3-preserved c =
    λ d₀ a. turn (c.loop-c3.invariant d₀ a) (ready (goal.at-loop-c3-preserved c).At-loop-c3) (long (goal.at-loop-c3-preserved c).At-loop-c3) (within (goal.at-loop-c3-preserved c).In-loop-c3) (outer (goal.at-loop-c3-preserved c).At-loop-c3) c.run_at-run.ensures (c.move_run-spots.ensures.next, c.move_run-spots.ensures.written)

pub loop-c2-preserved : goal.loop-c2-preserved
loop-c2-preserved c =
    λ d₀ a. next_row_lem (c.loop-c3.invariant d₀ (c.loop-c2.invariant d₀ a)) c.loop-c1-test.true c.loop-c2-test.true c.loop-c3-test.false c.next_row-spots.ensures

pub loop-c1-preserved : goal.loop-c1-preserved
loop-c1-preserved c =
    λ d₀ a. next_layer_lem (c.loop-c2.invariant d₀ (c.loop-c1.invariant d₀ a)) c.loop-c1-test.true c.loop-c2-test.false c.next_layer-spots.ensures

pub all-preserved : goal.all-preserved
all-preserved c =
    λ d₀ a. next_slab_lem (c.loop-c1.invariant d₀ (c.all.invariant d₀ a)) c.loop-c1-test.false c.next_slab-spots.ensures

-- where the ways out of the loops meet: at the end of the outermost, and by the label
over : (c : Left-all) → Over c.args.origin c.args.plan c.args.dst.now c.args.from c.args.budget c.all-test.dst c.all-test.left
over c =
    let at_all = c.all.invariant c.args.dst.now
    (start c.args.origin c.args.plan c.args.dst.now c.args.from c.args.budget c.requires.ready c.requires.from_bound c.begin-start.ensures) in
    elim c.all-test.branch [
      | else-all-test w ↦ rw (w.dst-is, w.left-is) (at_end at_all w.all-test.false)
      | then-all-test+then-loop-c1-test+then-loop-c2-test+then-loop-c3-test+then-is_spent w ↦
          rw (w.dst-is, w.left-is)
          (at_spent (w.loop-c3.invariant c.args.dst.now (w.loop-c2.invariant c.args.dst.now (w.loop-c1.invariant c.args.dst.now at_all))) w.if-is_spent.true)
    ]

pub all-init : goal.all-init
all-init c d a = a

pub loop-c1-init : goal.loop-c1-init
loop-c1-init c d a = a

pub loop-c2-init : goal.loop-c2-init
loop-c2-init c d a = a

pub loop-c3-init : goal.loop-c3-init
loop-c3-init c d a = a

pub overflow_sub-left : goal.overflow_sub-left
overflow_sub-left c = c.run_at-run.ensures.cut

pub overflow_add-c2 : goal.overflow_add-c2
overflow_add-c2 c = omega (arith, c.loop-c2-test.true, c.well_formed)

pub loop-c2-smaller : goal.loop-c2-smaller
loop-c2-smaller c = omega (arith, c.loop-c2-test.true)

pub overflow_add-c1 : goal.overflow_add-c1
overflow_add-c1 c = omega (arith, c.loop-c1-test.true, c.well_formed)

pub loop-c1-smaller : goal.loop-c1-smaller
loop-c1-smaller c = omega (arith, c.loop-c1-test.true)

pub overflow_add-c0 : goal.overflow_add-c0
overflow_add-c0 c = omega (arith, c.all-test.true, c.well_formed)

pub all-smaller : goal.all-smaller
all-smaller c = omega (arith, c.all-test.true)

pub overflow_sub-result : goal.overflow_sub-result
overflow_sub-result c = (over c).fund

pub shape_of-dst : goal.shape_of-dst
shape_of-dst c = (over c).long

pub returns : goal.returns
returns c =
    record {
      counted = (over c).count;
      written = (over c).bytes;
    }
