-- `transfers::Slot::is_sound` tells whether a slot by itself is sound. Assumes nothing.
use native.Mathlib.Omega.{arith}
use mathlib.Core.Path.{◌≡◌, ap, subst, ◌∙◌}
use Rattle.std.specs.Bool.{Decides}
use Rattle.std.proofs.lemmas.Bool.Decides.{Decides-at, same_from_decides}
use Rattle.faults.proofs.Outcomes.{tells_ok, tells_err}
use Rattle.transfers.specs.declared.Slot.{Slot}
use Rattle.transfers.specs.Slots.{moved_right}
use Rattle.transfers.specs.Sound.{FourEntries}
use Rattle.transfers.proofs.Sounds.{fault_unsound, clear_sound}
use Rattle.transfers.proofs.AllZero.{free_sound, four_entries}
use Rattle.transfers.proofs.Equal.{slot_decides}
use Rattle.transfers.proofs.Slot.is_sound.Goals as goal

pub returns-then-self-eq-FREE : goal.returns-then-self-eq-FREE
returns-then-self-eq-FREE c =
    let s = c.args.self in
    let same : Decides c.eq.result (s ≡ c.free.result) = Decides-at _ _ c.eq.ensures (slot_decides s c.free.result) in
    let entries : FourEntries s.job = four_entries s.job (omega arith) (omega arith) (omega arith) (omega arith) (omega arith) (omega arith) (omega arith) (omega arith) (omega arith) (omega arith) in
    same_from_decides _ _ (subst (λ (u : Slot). Decides c.eq.result (s ≡ u)) c.free.ensures same)
    (free_sound c.args.length s entries c.if-self-eq-FREE.true)

pub returns-in-Ok : goal.returns-in-Ok
returns-in-Ok c =
    let s = c.args.self in
    let w = tells_ok _ _ c.in-Ok.ensures in
    clear_sound c.args.length s c.if-self-eq-FREE.false w.1 (c.moved_is_right.ensures ∙ ap (moved_right s.state s.moved) w.0)

pub returns-in-Err : goal.returns-in-Err
returns-in-Err c = fault_unsound c.args.length c.args.self c.if-self-eq-FREE.false (tells_err _ _ c.in-Err.ensures).1
