-- `mover::within::answer` answers a job by the first rule that refuses it, else as its move does. Assumes nothing.
use Rattle.std.proofs.Common.{◌≡◌, Err, false, sym, ◌∙◌, rules}
use Rattle.mover.specs.Within.{leaves, off_boundary}
use Rattle.mover.proofs.Judged.{source_leaves, destination_leaves, move_refused, some_size, source_off, destination_off, parts_meet, job_given}
use Rattle.mover.proofs.within.answer.Goals as goal
use Rattle.mover.proofs.within.answer.Goals.{Else-is_off_boundary-2, Else-leaves-2}

pub returns-then-leaves : goal.returns-then-leaves
returns-then-leaves c =
    source_leaves c.args.len c.args.job (sym c.leaves.ensures ∙ c.if-leaves.true) c.overall.ensures

pub returns-then-leaves-2 : goal.returns-then-leaves-2
returns-then-leaves-2 c =
    destination_leaves c.args.len c.args.job (sym c.leaves-2.ensures ∙ c.if-leaves-2.true) c.overall-then-leaves-2.ensures

-- neither part leaves the memory
stays : (c : Else-leaves-2) → (leaves c.args.len c.args.job.source ≡ false) × (leaves c.args.len c.args.job.destination ≡ false)
stays c =
    (sym c.leaves.ensures ∙ c.if-leaves.false, sym c.leaves-2.ensures ∙ c.if-leaves-2.false)

pub returns-in_err-a : goal.returns-in_err-a
returns-in_err-a c =
    let s = stays (goal.at-returns-in_err-a c).Else-leaves-2 in
    let e : c.from_residual.result ≡ Err c.in_err-a.field-0.0 = search rules in
    e ∙ move_refused c.args.len c.args.job s.0 s.1 c.in_err-a.ensures

pub returns-then-is_off_boundary : goal.returns-then-is_off_boundary
returns-then-is_off_boundary c =
    let s = stays (goal.at-returns-then-is_off_boundary c).Else-leaves-2 in
    source_off c.args.len c.args.job s.0 s.1 c.in_ok-a.ensures
    (sym c.is_off_boundary.ensures ∙ c.if-is_off_boundary.true) c.overall-then-is_off_boundary.ensures

pub returns-then-is_off_boundary-2 : goal.returns-then-is_off_boundary-2
returns-then-is_off_boundary-2 c =
    let s = stays (goal.at-returns-then-is_off_boundary-2 c).Else-leaves-2 in
    destination_off c.args.len c.args.job s.0 s.1 c.in_ok-a.ensures
    (sym c.is_off_boundary-2.ensures ∙ c.if-is_off_boundary-2.true) c.overall-then-is_off_boundary-2.ensures

-- both parts start on a boundary
on : (c : Else-is_off_boundary-2) → let j = c.args.job in
    (off_boundary j.tensor.element_size j.source ≡ false) × (off_boundary j.tensor.element_size j.destination ≡ false)
on c =
    (sym c.is_off_boundary.ensures ∙ c.if-is_off_boundary.false, sym c.is_off_boundary-2.ensures ∙ c.if-is_off_boundary-2.false)

pub returns-then-meets : goal.returns-then-meets
returns-then-meets c =
    let s = stays (goal.at-returns-then-meets c).Else-leaves-2 in
    let o = on (goal.at-returns-then-meets c).Else-is_off_boundary-2 in
    parts_meet c.args.len c.args.job s.0 s.1 c.in_ok-a.ensures o.0 o.1 (sym c.meets.ensures ∙ c.if-meets.true) c.overall-then-meets.ensures

pub returns : goal.returns
returns c =
    let s = stays (goal.at-returns c).Else-leaves-2 in
    let o = on (goal.at-returns c).Else-is_off_boundary-2 in
    job_given c.args.len c.args.job s.0 s.1 c.in_ok-a.ensures o.0 o.1 (sym c.meets.ensures ∙ c.if-meets.false)

-- the move is accepted, so elements have a size
pub is_off_boundary-requires : goal.is_off_boundary-requires
is_off_boundary-requires c =
    let s = stays (goal.at-is_off_boundary-requires c).Else-leaves-2 in
    some_size c.args.len c.args.job s.0 s.1 c.in_ok-a.ensures

pub is_off_boundary-requires-2 : goal.is_off_boundary-requires-2
is_off_boundary-requires-2 c =
    let s = stays (goal.at-is_off_boundary-requires-2 c).Else-leaves-2 in
    some_size c.args.len c.args.job s.0 s.1 c.in_ok-a.ensures
