use Rattle.std.proofs.Common.{◌≡◌, ℕ, ◌+◌, ◌-◌, ◌<◌, refl, ◌∙◌, subst, arith}
use Rattle.plane.specs.Arrays.{at}
use Rattle.mover.proofs.Rows.{its_extent}
use Rattle.mover.proofs.Stretches.{storable, number_small, inward_stands, comes_start, comes_more, ends_most, comes_stopped, comes_end, comes_stored, comes_passed, told_one, told_inside, told_none, told_more, told_end, before_first, before_inside, source_inside}
use Rattle.mover.proofs.plain.+store_row.Goals as goal
use Rattle.mover.proofs.plain.+store_row.Goals.{then-is_asked, else-is_asked}

-- with no dimension left: the element can be stored, its number fits, and what is left of the memory
pub store-requires : goal.store-requires
store-requires t c = storable c.requires.stands c.if-depth-eq0.true

pub overflow_add-result : goal.overflow_add-result
overflow_add-result t c = record { fits = number_small c.requires.stands c.if-depth-eq0.true }

pub returns-then-depth-eq0-clause-told : goal.returns-then-depth-eq0-clause-told
returns-then-depth-eq0-clause-told t c = told_one c.args.row.now c.args.depth (c.args.row.now.number + 1) c.args.end c.if-depth-eq0.true

pub returns-then-depth-eq0-clause-stored : goal.returns-then-depth-eq0-clause-stored
returns-then-depth-eq0-clause-stored t c h m u =
    let z = c.if-depth-eq0.true in
    elim c.if-is_asked.branch [
      | then-is_asked w ↦ comes_stored h z c.args.first c.args.end w.if-is_asked.true c.requires.depth_bound (w.dst-is ∙ w.store.ensures) m u
      | else-is_asked w ↦ comes_passed h z c.args.first c.args.end w.if-is_asked.false w.dst-is m u
    ]

-- before the first coordinate
pub loop-c-init : goal.loop-c-init
loop-c-init t c =
    let z = c.if-depth-eq0.false in
    (omega arith, refl, before_first c.requires.stands z c.args.end c.requires.depth_bound, λ h. comes_start h z c.args.first c.args.end)

-- at a coordinate: the row inside, and one dimension fewer
pub inward-next-requires : goal.inward-next-requires
inward-next-requires t c =
    let s = c.requires.stands in
    let dim : c.args.row.now.tensor.rank - c.args.depth < c.args.row.now.tensor.rank = omega (arith, s.few, c.if-depth-eq0.false) in record {
      p = s.p.start;
      r = s.r.start;
      row = s.row;
      dim = dim;
      below = rw (← its_extent s.row dim) c.loop-c-test.true;
      source_end = omega (arith, s.source, s.long, c.requires.source_bound);
      end = omega (arith, s.destination, s.enough, c.well_formed);
    }

pub store_row-requires : goal.store_row-requires
store_row-requires t c =
    let z = c.if-depth-eq0.false in
    let k = c.loop-c in (
      subst (λ (j : ℕ). c.args.depth - 1 < j) c.decreases (omega arith),
      (
        rw c.inward-next.ensures (inward_stands c.requires.stands z k.c c.loop-c-test.true k.invariant.1),
        (
          before_inside c.args.row.now (c.args.row.now.tensor.rank - c.args.depth) k.c (c.args.depth - 1) c.args.end c.inward-next.ensures k.invariant.2,
          source_inside c.args.row.now (c.args.row.now.tensor.rank - c.args.depth) k.c c.args.dst.now k.dst c.inward-next.ensures k.invariant.1 c.requires.source_bound,
        ),
      ),
    )

-- no more are to come: it stops
pub returns-then-not-store_row-clause-told : goal.returns-then-not-store_row-clause-told
returns-then-not-store_row-clause-told t c =
    let told = told_inside c.args.row.now (c.args.row.now.tensor.rank - c.args.depth) c.loop-c.c (c.args.depth - 1) c.args.end c.inward-next.ensures c.store_row.ensures.told in
    (told_none c.store_row.result _ _ c.args.end (simp c.if-not-store_row.true) told (ends_most c.requires.stands c.if-depth-eq0.false c.args.first c.args.end c.loop-c.c c.loop-c-test.true)).1

pub returns-then-not-store_row-clause-stored : goal.returns-then-not-store_row-clause-stored
returns-then-not-store_row-clause-stored t c h =
    let z = c.if-depth-eq0.false in
    let x = c.loop-c.c in
    let l = c.loop-c-test.true in
    let told = told_inside c.args.row.now (c.args.row.now.tensor.rank - c.args.depth) x (c.args.depth - 1) c.args.end c.inward-next.ensures c.store_row.ensures.told in
    let n = told_none c.store_row.result _ _ c.args.end (simp c.if-not-store_row.true) told (ends_most c.requires.stands z c.args.first c.args.end x l) in
    comes_stopped h z c.args.first c.args.end x l n.0
    (comes_more h z c.args.first c.args.end x l c.inward-next.ensures c.loop-c.invariant.1 (c.loop-c.invariant.3 h) c.store_row.ensures.stored)

-- more are: the next coordinate
pub loop-c-preserved : goal.loop-c-preserved
loop-c-preserved t c =
    let z = c.if-depth-eq0.false in
    let x = c.loop-c.c in
    let l = c.loop-c-test.true in
    let told = told_inside c.args.row.now (c.args.row.now.tensor.rank - c.args.depth) x (c.args.depth - 1) c.args.end c.inward-next.ensures c.store_row.ensures.told in (
      omega (arith, l),
      c.store_row.auto.dst ∙ c.loop-c.invariant.1,
      told_more c.store_row.result _ c.args.end (simp c.if-not-store_row.false) told,
      λ h. comes_more h z c.args.first c.args.end x l c.inward-next.ensures c.loop-c.invariant.1 (c.loop-c.invariant.3 h) c.store_row.ensures.stored,
    )

-- after the last coordinate
pub returns-clause-told : goal.returns-clause-told
returns-clause-told t c =
    let e : c.loop-c.c ≡ at c.args.row.now.answer.extent (c.args.row.now.tensor.rank - c.args.depth) = omega (arith, c.loop-c.invariant.0, c.loop-c-test.false) in
    told_end c.requires.stands c.if-depth-eq0.false c.args.end c.loop-c.c e c.loop-c.invariant.2

pub returns-clause-stored : goal.returns-clause-stored
returns-clause-stored t c h =
    let e : c.loop-c.c ≡ at c.args.row.now.answer.extent (c.args.row.now.tensor.rank - c.args.depth) = omega (arith, c.loop-c.invariant.0, c.loop-c-test.false) in
    comes_end h c.if-depth-eq0.false c.args.first c.args.end e (c.loop-c.invariant.3 h)
