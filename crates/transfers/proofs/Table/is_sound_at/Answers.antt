-- `transfers::Table::is_sound_at` tells whether a slot is sound, and apart from those before it. Assumes nothing.
use mathlib.Core.Path.{◌≡◌, ◌∙◌}
use native.Mathlib.Omega.{arith}
use lib.ListN.{length}
use Rattle.transfers.proofs.Fours.{slot_read}
use Rattle.transfers.proofs.Sounds.{at_unsound, at_clashes, clashes_told}
use Rattle.transfers.proofs.Table.is_sound_at.Goals as goal

pub returns-then-is_sound : goal.returns-then-is_sound
returns-then-is_sound c =
    let t = c.args.self.now in
    let n : length t.slots ≡ 4 = omega arith in
    at_clashes t c.args.i (slot_read t c.args.i n c.requires) c.is_sound.ensures c.if-is_sound.true
    (c.clashes.ensures ∙ clashes_told t _ c.args.i n (omega (arith, c.requires)))

pub returns-else-is_sound : goal.returns-else-is_sound
returns-else-is_sound c =
    let t = c.args.self.now in
    let n : length t.slots ≡ 4 = omega arith in
    at_unsound t c.args.i (slot_read t c.args.i n c.requires) c.is_sound.ensures c.if-is_sound.false
