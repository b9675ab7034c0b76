-- `mover::plain::kept_count` is the kept count of a source dimension. Assumes nothing.
use Rattle.std.proofs.Common.{◌≡◌, ℕ, ◌<◌, ◌∙◌, arith, eq-eqb, ne_eqb}
use Rattle.std.specs.Int.{div_ceil}
use Rattle.std.proofs.lemmas.Grind.{common_steps}
use Rattle.plane.specs.Arrays.{at}
use Rattle.plane.specs.Moves.{upward, taken, count}
use Rattle.mover.proofs.plain.kept_count.Goals as goal
use Rattle.mover.proofs.plain.kept_count.Goals.{Joined-size-eq0, else-size-eq0, then-size-eq0}

-- size, or shape - offset where it is 0
size : (c : Joined-size-eq0) → c.if-size-eq0.taken ≡ taken c.args.t.now c.args.config.now c.args.s
size c = elim c.if-size-eq0.branch [
  | then-size-eq0 w ↦ w.taken-is ∙ rw (eq-eqb _ 0 w.if-size-eq0.true)
  | else-size-eq0 w ↦ w.taken-is ∙ rw (ne_eqb _ 0 w.if-size-eq0.false)
]

rounded : (m s : ℕ) → 0 < s → div_ceil m s ≡ upward m s
rounded m s h = grind (arith, common_steps)

pub returns : goal.returns
unfolding count
returns c =
    let s = at c.args.config.now.step c.args.s in
    let e = size (goal.at-returns c).Joined-size-eq0 in
    let r = rounded (taken c.args.t.now c.args.config.now c.args.s) s (omega (arith, c.requires.good_config.step c.args.s c.requires.s_lt_rank)) in
    cc
