-- `mover::plan::Accepted::axis` reads one dimension of the plan. Said here, so that a wrong number is refused for what it is, and not at a
-- limit of the search. Assumes nothing.
use Rattle.std.proofs.Common.{◌≡◌, ℕ, ◌*◌, Bool, refl, ◌∙◌, ap₂, rules}
use Rattle.mover.specs.Private.Plans.{jump_by, axis_made}
use Rattle.mover.proofs.plan.Accepted.axis.Goals as goal

pub returns : goal.returns
returns c =
    let t = c.args.self in
    let jump : c.jump_by.result ≡ (axis_made t.tensor t.config t.answer t.sizes c.args.i).jump =
    c.jump_by.ensures ∙ ap₂ (λ (down : Bool) (n : ℕ). jump_by down (n * t.answer.element_size)) (search rules) c.times.ensures.0 in
    rw (c.times-2.ensures.0, jump) refl
