-- `record::writer::put_config` meets its contract. Assumes nothing.
use mathlib.Core.Path.{ap, ◌∙◌}
use borrow.Author.Rules.{rules}
use Rattle.std.proofs.lemmas.List.Edits.{sets}
use Rattle.record.proofs.Digits.{singles_bytes}
use Rattle.record.proofs.Laying.{config_laid}
use Rattle.record.proofs.writer.put_config.Goals as goal

pub returns : goal.returns
returns c =
    let x = c.args.c in
    config_laid c.args.room.now x c.put_words.ensures c.put_words-2.ensures c.put_words-3.ensures c.put_words-4.ensures
    c.put_words-5.ensures
    (c.put.ensures ∙ ap (sets _ 119) (singles_bytes x.perm (search rules) (search rules)))
    (c.put-2.ensures ∙ ap (sets _ 123) (singles_bytes x.pre (search rules) (search rules)))
    (c.put-3.ensures ∙ ap (sets _ 127) (singles_bytes x.post (search rules) (search rules)))
