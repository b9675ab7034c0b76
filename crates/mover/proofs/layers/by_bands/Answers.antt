use Rattle.std.proofs.Common.{◌≡◌, ℕ, ◌+◌, ◌-◌, ◌^◌, ◌<◌, ◌≤◌, Bool, ◌&&◌, List, length, ap, ◌∙◌, pos_of_ne-zero, arith}
use Rattle.mover.specs.Private.Elements.{axis_kept}
use Rattle.mover.specs.Private.Adding.{after_run}
use Rattle.mover.specs.Private.Ready.{reach_of, place_end, Ready, InExtents}
use Rattle.mover.specs.Private.Bands.{BandAt}
use Rattle.mover.proofs.Places.{axis_some}
use Rattle.mover.proofs.Turns.{At, Over, Cut, cut_row, start, start_row, row_turn, next_row_lem, next_layer_lem, next_slab_lem, at_below, at_spent, at_end, at_length, at_ready}
use Rattle.mover.proofs.Banded.{row_end, band_asks, band_behind, band_turn}
use Rattle.mover.proofs.layers.by_bands.Goals as goal
use Rattle.mover.proofs.layers.by_bands.Goals.{After-min-n, After-slice_known-in-loop-c2-1, At-all, At-loop-c1, At-loop-c2, Else-left-eq0, In-Some, Left-all, Start, else-all-test, then-all-test+then-loop-c1-test+then-loop-c2-test+else-left-eq0+then-left-eq0-2, then-all-test+then-loop-c1-test+then-loop-c2-test+then-left-eq0}

-- where the innermost loop stands, from the destination that the function began with
at-loop2 : (c : At-loop-c2) → let a = c.loop-c2 in
    At c.args.origin c.args.plan c.args.dst.now c.args.from c.args.budget a.dst c.all.c0 c.loop-c1.c1 a.c2 a.c3 a.left a.spots
at-loop2 c =
    c.loop-c2.invariant.0 c.args.dst.now
    (c.loop-c1.invariant.0 c.args.dst.now
    (c.all.invariant.0 c.args.dst.now
    (start c.args.origin c.args.plan c.args.dst.now c.args.from c.args.budget c.requires.ready c.requires.from_bound c.begin-start.ensures)))

-- the last coordinate is one of a row
in_row : (c : At-loop-c2) → c.loop-c2.c3 < c.args.plan.d3.extent
in_row c =
    c.loop-c2.invariant.1 (c.loop-c1.invariant.1 (c.all.invariant.1 (start_row c.args.plan c.args.from c.requires.ready.axes c.begin-start.ensures)))

ready : (c : At-loop-c2) → Ready c.args.origin c.args.plan c.loop-c2.dst
ready c = at_ready (at-loop2 c) c.requires.ready

long : (c : At-loop-c2) → length c.loop-c2.dst < 2 ^ 63
long c = omega (arith, c.well_formed, at_length (at-loop2 c))

-- whether the outer coordinates are kept
outer : (c : At-loop-c2) → let p = c.args.plan in c.kept-kept1.result ≡ (axis_kept p.d0 c.all.c0 && axis_kept p.d1 c.loop-c1.c1)
outer c =
    let p = c.args.plan in
    c.kept-kept1.ensures ∙ ap (λ (x : Bool). x && axis_kept p.d1 c.loop-c1.c1) c.kept-kept0.ensures

-- all places fit
ends : (s : Start) → (reach_of s.args.plan < 2 ^ 64) × (place_end s.args.plan < 2 ^ 64)
ends s = (s.requires.ready.reach, omega (arith, s.requires.ready.need, s.well_formed))

pub begin-start-requires : goal.begin-start-requires
begin-start-requires c =
    record {
      good_axes = c.requires.ready.axes;
      plan_bound = ends (goal.at-begin-start-requires c).Start;
      from_bound = c.requires.from_bound;
    }

pub frame_of-frame-requires : goal.frame_of-frame-requires
frame_of-frame-requires c =
    record {
      good_axis = c.requires.ready.axes.in3;
      stride_bound = row_end c.args.plan (ends (goal.at-frame_of-frame-requires c).Start).1;
    }

pub band_at-requires : goal.band_at-requires
band_at-requires c =
    let r = ready (goal.at-band_at-requires c).At-loop-c2 in record {
      count_bound = r.axes.in2.within;
      c_lt_extent = c.loop-c2-test.true;
      most_nonzero = (axis_some r.axes.in3, c.frame_of-frame.ensures.most);
    }

-- the band that there is
band : (c : In-Some) → BandAt c.args.plan.d2 c.args.plan.d3.extent c.kept-kept1.result c.loop-c2.c2 c.loop-c2.left c.in-Some.band
band c = rw c.in-Some.is at c.band_at.ensures

pub move_band-requires : goal.move_band-requires
move_band-requires c =
    record {
      framed = c.frame_of-frame.ensures;
      banded = band_asks (at-loop2 (goal.at-move_band-requires c).At-loop-c2) (ready (goal.at-move_band-requires c).At-loop-c2) (long (goal.at-move_band-requires c).At-loop-c2) c.all-test.true c.loop-c1-test.true (outer (goal.at-move_band-requires c).At-loop-c2) c.if-c3-eq0.true (band (goal.at-move_band-requires c).In-Some);
    }

pub overflow_add-c2 : goal.overflow_add-c2
overflow_add-c2 c =
    omega (arith, (band (goal.at-overflow_add-c2 c).In-Some).within, c.well_formed)

pub behind-spots-requires : goal.behind-spots-requires
behind-spots-requires c =
    let told = band_behind (at-loop2 (goal.at-behind-spots-requires c).At-loop-c2) (ready (goal.at-behind-spots-requires c).At-loop-c2) (long (goal.at-behind-spots-requires c).At-loop-c2) c.all-test.true c.loop-c1-test.true (outer (goal.at-behind-spots-requires c).At-loop-c2) c.if-c3-eq0.true (band (goal.at-behind-spots-requires c).In-Some) (ends (goal.at-behind-spots-requires c).Start).1 in record {
      count_nonzero = ((ready (goal.at-behind-spots-requires c).At-loop-c2).axes.in2.some, omega (arith, (band (goal.at-behind-spots-requires c).In-Some).some));
      stride_bound = told.0;
      jump_bound = told.1;
    }

pub loop-c2-smaller-in-Some : goal.loop-c2-smaller-in-Some
loop-c2-smaller-in-Some c =
    let b = band (goal.at-loop-c2-smaller-in-Some c).In-Some in
    omega (arith, b.some, b.within)

pub loop-c2-preserved-in-Some : goal.loop-c2-preserved-in-Some
loop-c2-preserved-in-Some c = (
  λ d₀ a.
      band_turn (c.loop-c2.invariant.0 d₀ a) (ready (goal.at-loop-c2-preserved-in-Some c).At-loop-c2) (long (goal.at-loop-c2-preserved-in-Some c).At-loop-c2) c.all-test.true c.loop-c1-test.true (outer (goal.at-loop-c2-preserved-in-Some c).At-loop-c2) c.if-c3-eq0.true (band (goal.at-loop-c2-preserved-in-Some c).In-Some)
      c.move_band.ensures c.behind-spots.ensures,
  c.loop-c2.invariant.1,
)

within : (c : Else-left-eq0) → InExtents c.args.plan c.all.c0 c.loop-c1.c1 c.loop-c2.c2 c.loop-c2.c3
within c = record {
  in0 = c.all-test.true;
  in1 = c.loop-c1-test.true;
  in2 = c.loop-c2-test.true;
  in3 = c.loop-c2.invariant.1 (c.loop-c1.invariant.1 (c.all.invariant.1 (start_row c.args.plan c.args.from c.requires.ready.axes c.begin-start.ensures)));
}

cut : (c : After-min-n) → Cut c.args.plan.d3.extent c.loop-c2.c3 c.loop-c2.left c.min-n.result
cut c =
    cut_row c.args.plan.d3.extent c.loop-c2.c3 c.loop-c2.left (c.loop-c2.invariant.1 (c.loop-c1.invariant.1 (c.all.invariant.1 (start_row c.args.plan c.args.from c.requires.ready.axes c.begin-start.ensures)))) (pos_of_ne-zero c.if-left-eq0.false) c.min-n.ensures

pub overflow_sub-plan : goal.overflow_sub-plan
overflow_sub-plan c =
    let h : c.loop-c2.c3 ≤ c.args.plan.d3.extent = omega (arith, in_row (goal.at-overflow_sub-plan c).At-loop-c2) in
    h

pub overflow_add-from : goal.overflow_add-from
overflow_add-from c =
    omega (arith, (at-loop2 (goal.at-overflow_add-from c).At-loop-c2).most, c.requires.ready.few)

pub by_runs-requires : goal.by_runs-requires
by_runs-requires c =
    record {
      ready = ready (goal.at-by_runs-requires c).At-loop-c2;
      from_bound = at_below (at-loop2 (goal.at-by_runs-requires c).At-loop-c2) (within (goal.at-by_runs-requires c).Else-left-eq0);
    }

-- where it was, the loops stand behind it
turned : (c : After-slice_known-in-loop-c2-1) (d₀ : List ℕ) → let a = c.loop-c2 in
    At c.args.origin c.args.plan d₀ c.args.from c.args.budget a.dst c.all.c0 c.loop-c1.c1 a.c2 a.c3 a.left a.spots
    → At c.args.origin c.args.plan d₀ c.args.from c.args.budget c.by_runs.new.dst c.all.c0 c.loop-c1.c1 a.c2 (a.c3 + c.min-n.result) (a.left - c.min-n.result) (after_run a.spots c.args.plan.d3 c.min-n.result)
turned c d₀ a =
    row_turn a (within (goal.at-overflow_sub-left-in-loop-c2 c).Else-left-eq0) (cut (goal.at-overflow_sub-left-in-loop-c2 c).After-min-n) (ready (goal.at-overflow_sub-left-in-loop-c2 c).At-loop-c2) c.by_runs.ensures.counted c.by_runs.ensures.written

pub loop-c2-preserved : goal.loop-c2-preserved
loop-c2-preserved c =
    let w : c.args.plan.d3.extent ≤ c.loop-c2.c3 + c.min-n.result = omega (arith, (cut (goal.at-loop-c2-preserved c).After-min-n).full (pos_of_ne-zero c.if-left-eq0-2.false)) in (
      λ d₀ a. next_row_lem (turned (goal.at-loop-c2-preserved c).After-slice_known-in-loop-c2-1 d₀ (c.loop-c2.invariant.0 d₀ a)) (within (goal.at-loop-c2-preserved c).Else-left-eq0).in1 (within (goal.at-loop-c2-preserved c).Else-left-eq0).in2 w c.next_row-spots.ensures,
      λ _. axis_some (ready (goal.at-loop-c2-preserved c).At-loop-c2).axes.in3,
    )

pub loop-c1-preserved : goal.loop-c1-preserved
loop-c1-preserved c = (
  λ d₀ a. next_layer_lem (c.loop-c2.invariant.0 d₀ (c.loop-c1.invariant.0 d₀ a)) c.loop-c1-test.true c.loop-c2-test.false c.next_layer-spots.ensures,
  λ h. c.loop-c2.invariant.1 (c.loop-c1.invariant.1 h),
)

pub all-preserved : goal.all-preserved
all-preserved c = (
  λ d₀ a. next_slab_lem (c.loop-c1.invariant.0 d₀ (c.all.invariant.0 d₀ a)) c.loop-c1-test.false c.next_slab-spots.ensures,
  λ h. c.loop-c1.invariant.1 (c.all.invariant.1 h),
)

-- where the ways out of the loops meet: at the end of the outermost, and by the label, before a part of a row or behind it
over : (c : Left-all) → Over c.args.origin c.args.plan c.args.dst.now c.args.from c.args.budget c.all-test.dst c.all-test.left
over c =
    let at_all = c.all.invariant.0 c.args.dst.now
    (start c.args.origin c.args.plan c.args.dst.now c.args.from c.args.budget c.requires.ready c.requires.from_bound c.begin-start.ensures) in
    elim c.all-test.branch [
      | else-all-test w ↦ rw (w.dst-is, w.left-is) (at_end at_all w.all-test.false)
      | then-all-test+then-loop-c1-test+then-loop-c2-test+then-left-eq0 w ↦
          rw (w.dst-is, w.left-is) (at_spent (w.loop-c2.invariant.0 c.args.dst.now (w.loop-c1.invariant.0 c.args.dst.now at_all)) w.if-left-eq0.true)
      | then-all-test+then-loop-c1-test+then-loop-c2-test+else-left-eq0+then-left-eq0-2 w ↦
          let here = w.loop-c2.invariant.0 c.args.dst.now (w.loop-c1.invariant.0 c.args.dst.now at_all) in
          let row : w.loop-c2.c3 < c.args.plan.d3.extent = w.loop-c2.invariant.1 (w.loop-c1.invariant.1 (c.all.invariant.1 (start_row c.args.plan c.args.from c.requires.ready.axes c.begin-start.ensures))) in
          let inside : InExtents c.args.plan c.all.c0 w.loop-c1.c1 w.loop-c2.c2 w.loop-c2.c3 =
          record { in0 = w.all-test.true; in1 = w.loop-c1-test.true; in2 = w.loop-c2-test.true; in3 = row } in
          let cut_there = cut_row c.args.plan.d3.extent w.loop-c2.c3 w.loop-c2.left row (pos_of_ne-zero w.if-left-eq0.false) w.min-n.ensures in
          rw (w.dst-is, w.left-is)
          (at_spent (row_turn here inside cut_there (at_ready here c.requires.ready) w.by_runs.ensures.counted w.by_runs.ensures.written) w.if-left-eq0-2.true)
    ]

pub all-init : goal.all-init
all-init c = (λ d a. a, λ h. h)

pub loop-c1-init : goal.loop-c1-init
loop-c1-init c = (λ d a. a, λ h. h)

pub loop-c2-init : goal.loop-c2-init
loop-c2-init c = (λ d a. a, λ h. h)

pub overflow_sub-left : goal.overflow_sub-left
overflow_sub-left c = (band (goal.at-overflow_sub-left c).In-Some).paid

pub overflow_sub-budget : goal.overflow_sub-budget
overflow_sub-budget c = (at-loop2 (goal.at-overflow_sub-budget c).At-loop-c2).fund

pub overflow_sub-left-in-loop-c2 : goal.overflow_sub-left-in-loop-c2
overflow_sub-left-in-loop-c2 c = (cut (goal.at-overflow_sub-left-in-loop-c2 c).After-min-n).paid

pub overflow_add-c2-in-loop-c2 : goal.overflow_add-c2-in-loop-c2
overflow_add-c2-in-loop-c2 c = omega (arith, c.loop-c2-test.true, c.well_formed)

pub loop-c2-smaller : goal.loop-c2-smaller
loop-c2-smaller c = omega (arith, c.loop-c2-test.true)

pub overflow_add-c1 : goal.overflow_add-c1
overflow_add-c1 c = omega (arith, c.loop-c1-test.true, c.well_formed)

pub loop-c1-smaller : goal.loop-c1-smaller
loop-c1-smaller c = omega (arith, c.loop-c1-test.true)

pub overflow_add-c0 : goal.overflow_add-c0
overflow_add-c0 c = omega (arith, c.all-test.true, c.well_formed)

pub all-smaller : goal.all-smaller
all-smaller c = omega (arith, c.all-test.true)

pub overflow_sub-result : goal.overflow_sub-result
overflow_sub-result c = (over (goal.at-overflow_sub-result c).Left-all).fund

pub shape_of-dst : goal.shape_of-dst
shape_of-dst c = (over (goal.at-shape_of-dst c).Left-all).long

pub returns : goal.returns
returns c =
    record {
      counted = (over (goal.at-returns c).Left-all).count;
      written = (over (goal.at-returns c).Left-all).bytes;
    }
