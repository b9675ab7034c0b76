-- `mover::stretch::advance` goes by runs or by bands, over a plan of the same move. Assumes nothing.
use Rattle.mover.proofs.Places.{axis_some}
use Rattle.mover.proofs.Folds.{ready_foldable, folds_ready, folds_from, folds_written}
use Rattle.mover.proofs.stretch.advance.Goals as goal

pub by_runs-requires-then-is_few : goal.by_runs-requires-then-is_few
by_runs-requires-then-is_few c =
    record {
      ready = folds_ready c.folded-p.ensures c.requires.ready;
      from_bound = folds_from c.folded-p.ensures c.requires.from_bound;
    }

pub returns-then-is_few : goal.returns-then-is_few
returns-then-is_few c =
    let told = folds_written c.args.origin c.folded-p.ensures c.args.dst.now c.args.from c.args.budget c.requires.from_bound c.by_runs-then-is_few.ensures.counted c.by_runs-then-is_few.ensures.written in record {
      counted = told.0;
      written = told.1;
    }

pub by_bands-requires : goal.by_bands-requires
by_bands-requires c =
    record {
      ready = folds_ready c.folded-p.ensures c.requires.ready;
      from_bound = folds_from c.folded-p.ensures c.requires.from_bound;
    }

pub returns : goal.returns
returns c =
    let told = folds_written c.args.origin c.folded-p.ensures c.args.dst.now c.args.from c.args.budget c.requires.from_bound c.by_bands.ensures.counted c.by_bands.ensures.written in record {
      counted = told.0;
      written = told.1;
    }

pub by_runs-requires : goal.by_runs-requires
by_runs-requires c =
    record {
      ready = c.requires.ready;
      from_bound = c.requires.from_bound;
    }

pub returns-then-is_short : goal.returns-then-is_short
returns-then-is_short c =
    record { counted = c.by_runs.ensures.counted; written = c.by_runs.ensures.written }

pub folded-p-requires : goal.folded-p-requires
folded-p-requires c = ready_foldable c.requires.ready

pub is_few-requires : goal.is_few-requires
is_few-requires c = axis_some c.folded-p.ensures.axes.in3
