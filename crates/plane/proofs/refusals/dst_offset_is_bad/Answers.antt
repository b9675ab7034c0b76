-- `plane::refusals::dst_offset_is_bad` meets its contract. Assumes nothing.
use Prim.Native.Nat.{ℕ, ◌-◌}
use mathlib.Core.Path.{sym, ap, ◌∙◌}
use lib.Dec.{ltb}
use Rattle.plane.specs.Arrays.{at}
use Rattle.plane.specs.Moves.{bad_dst_offset_at}
use Rattle.plane.proofs.Good.{positive, too_large, first_free, after_first_lem}
use Rattle.plane.proofs.refusals.dst_offset_is_bad.Goals as goal

pub returns-then-offset-k-gt65535 : goal.returns-then-offset-k-gt65535
returns-then-offset-k-gt65535 c = sym (too_large _ _ _ _ c.if-offset-k-gt65535.true)

pub returns-then-k-eq0 : goal.returns-then-k-eq0
returns-then-k-eq0 c =
    let a = c.args in
    let o : ℕ → ℕ = at a.offset in
    sym
    (ap (bad_dst_offset_at (at a.extent) (at a.stride) o) c.if-k-eq0.true ∙
    first_free _ _ o (rw c.if-k-eq0.true at c.if-offset-k-gt65535.false))

pub returns : goal.returns
returns c =
    let a = c.args in
    ap (ltb (at a.stride (a.k - 1))) c.times.ensures.0 ∙
    sym (after_first_lem (at a.extent) (at a.stride) (at a.offset) a.k (positive a.k c.if-k-eq0.false) c.if-offset-k-gt65535.false)
