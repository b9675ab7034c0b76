-- `mover::plain::inward` goes one dimension further in. Assumes nothing.
use Rattle.std.proofs.Common.{◌≡◌, true, false, rules, arith}
use Rattle.plane.specs.Planes.{down_at}
use Rattle.mover.specs.Element.{dim_of, is_kept}
use Rattle.mover.specs.Private.Rows.{inward_of}
use Rattle.mover.proofs.Rows.{is_before, is_within, is_behind, pass_parts, pass_number, pass_offset, pass_place, pass_to, lifted, pass_at, pass_shape, pass_from}
use Rattle.mover.proofs.plain.inward.Goals as goal
use Rattle.mover.proofs.plain.inward.Goals.{Then-c-pre, Joined-t-s-lt0, then-t-s-lt0, else-t-s-lt0, in-Some, in_default, in_default-2, in_default-3}

kept : (c : Then-c-pre) → is_kept c.args.row.now.tensor c.args.row.now.config c.args.i c.args.c ≡ true
kept c =
    is_within c.args.row.now.tensor c.args.row.now.config c.args.i c.args.c c.kept_count-count.ensures c.if-pre-c.true c.if-c-pre.true

pub overflow_mul-number : goal.overflow_mul-number
overflow_mul-number c = record { fits = omega (arith, pass_number c.requires) }

pub overflow_add-number : goal.overflow_add-number
overflow_add-number c = record { fits = pass_number c.requires }

pub overflow_add-place : goal.overflow_add-place
overflow_add-place c = record { fits = omega (arith, pass_offset c.requires) }

pub overflow_mul-place : goal.overflow_mul-place
overflow_mul-place c = record { fits = omega (arith, pass_place c.requires) }

pub overflow_mul-place-2 : goal.overflow_mul-place-2
overflow_mul-place-2 c = record { fits = omega (arith, pass_to c.requires) }

pub overflow_add-place-2 : goal.overflow_add-place-2
overflow_add-place-2 c = record { fits = pass_to c.requires }

pub overflow_add-pre : goal.overflow_add-pre
overflow_add-pre c = record { fits = omega (arith, pass_parts c.requires, c.kept_count-count.ensures) }

pub overflow_mul-coordinate : goal.overflow_mul-coordinate
overflow_mul-coordinate c =
    let k = kept (goal.at-overflow_mul-coordinate c).Then-c-pre in record { fits = omega (arith, pass_at c.requires k, pass_shape c.requires k) }

pub overflow_add-coordinate : goal.overflow_add-coordinate
overflow_add-coordinate c =
    let k = kept (goal.at-overflow_add-coordinate c).Then-c-pre in record { fits = omega (arith, pass_at c.requires k, pass_shape c.requires k) }

-- how many strides up it lies
lifts : (c : Joined-t-s-lt0) → c.if-t-s-lt0.up ≡ lifted c.args.row.now c.args.i c.args.c
lifts c = elim c.if-t-s-lt0.branch [
  | then-t-s-lt0 w ↦ let e : down_at c.args.row.now.tensor (dim_of c.args.row.now.config c.args.i) ≡ true = search rules in rw e w.up-is
  | else-t-s-lt0 w ↦ let e : down_at c.args.row.now.tensor (dim_of c.args.row.now.config c.args.i) ≡ false = search rules in rw e w.up-is
]

pub overflow_sub-up-then-t-s-lt0 : goal.overflow_sub-up-then-t-s-lt0
overflow_sub-up-then-t-s-lt0 c = omega (arith, pass_at c.requires (kept (goal.at-overflow_sub-up-then-t-s-lt0 c).Then-c-pre))

pub overflow_mul-at-in-Some : goal.overflow_mul-at-in-Some
overflow_mul-at-in-Some c =
    record { fits = rw (lifts (goal.at-overflow_mul-at-in-Some c).Joined-t-s-lt0) (omega (arith, pass_from c.requires (kept (goal.at-overflow_mul-at-in-Some c).Then-c-pre) c.in-Some.is)) }

pub overflow_add-at : goal.overflow_add-at
overflow_add-at c =
    record { fits = rw (lifts (goal.at-overflow_add-at c).Joined-t-s-lt0) (pass_from c.requires (kept (goal.at-overflow_add-at c).Then-c-pre) c.in-Some.is) }

pub returns : goal.returns
unfolding inward_of
returns c =
    let t = c.args.row.now.tensor in
    let f = c.args.row.now.config in
    let n = c.kept_count-count.ensures in
    elim c.match-row.branch [
      | in-Some w ↦
          let e = is_within t f c.args.i c.args.c n w.if-pre-c.true w.if-c-pre.true in
          elim w.if-t-s-lt0.branch [
            | then-t-s-lt0 v ↦ let d : down_at t (dim_of f c.args.i) ≡ true = search rules in rw (w.at-is, v.up-is, e, w.in-Some.is, d)
            | else-t-s-lt0 v ↦ let d : down_at t (dim_of f c.args.i) ≡ false = search rules in rw (w.at-is, v.up-is, e, w.in-Some.is, d)
          ]
      | in_default-2 w ↦ rw (w.at-is, w.in-Some.is, is_behind t f c.args.i c.args.c n w.if-pre-c.true w.if-c-pre.false)
      | in_default-3 w ↦ rw (w.at-is, w.in-Some.is, is_before t f c.args.i c.args.c w.if-pre-c.false)
      | in_default w ↦ rw (w.at-is, w.in_default.is)
    ]
