-- `transfers::Table::is_sound` tells whether a table is sound. Assumes nothing.
use mathlib.Core.Path.{◌≡◌, ◌∙◌}
use mathlib.Core.Bool.{true, ◌&&◌}
use borrow.Author.Tests.{lt-leb}
use Rattle.std.proofs.Common.{rules}
use Rattle.std.proofs.iter.runs.Sources.{ranges}
use Rattle.transfers.specs.Slots.{sound_at, limit}
use Rattle.transfers.proofs.Fours.{all_four}
use Rattle.transfers.proofs.Sounds.{long_unsound, short_sound}
use Rattle.transfers.proofs.Table.is_sound.Goals as goal

pub returns-then-self-le-LIMIT : goal.returns-then-self-le-LIMIT
returns-then-self-le-LIMIT c =
    let p = sound_at c.args.self.now in
    let all : c.all.result ≡ (p 0 && (p 1 && (p 2 && (p 3 && true)))) = search (rules, ranges) in
    short_sound c.args.self.now c.if-self-le-LIMIT.true (all ∙ all_four p)

pub returns-else-self-le-LIMIT : goal.returns-else-self-le-LIMIT
returns-else-self-le-LIMIT c =
    lt-leb c.args.self.now.length limit c.if-self-le-LIMIT.false ∙ long_unsound c.args.self.now c.if-self-le-LIMIT.false
