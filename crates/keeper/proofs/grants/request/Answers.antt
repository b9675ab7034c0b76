-- `keeper::grants::request` grants the lowest run, or hands the word back. Assumes nothing.
use mathlib.Core.Path.{ap, ◌∙◌}
use Rattle.keeper.specs.Blocks.{with_run}
use Rattle.keeper.proofs.Answers.{request_stopped, request_went}
use Rattle.keeper.proofs.grants.request.Goals as goal

pub returns-in-Ok : goal.returns-in-Ok
returns-in-Ok c =
    let g = c.in-Ok.ensures.granted in
    request_went c.args.word c.args.n g.0 (c.taken_in.ensures ∙ ap (with_run c.args.word c.in-Ok.run'.first) g.1)

pub returns-in-Err : goal.returns-in-Err
returns-in-Err c = request_stopped c.args.word c.args.n c.in-Err.ensures.refused
