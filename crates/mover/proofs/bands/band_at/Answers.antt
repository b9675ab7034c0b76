-- `mover::bands::band_at` takes the rows that are alike and paid for. Assumes nothing.
use Rattle.std.proofs.Common.{◌≡◌, ℕ, ◌/◌, min, ap, ◌∙◌, arith}
use Rattle.mover.proofs.Banding.{band_some, rows_fit}
use Rattle.mover.proofs.bands.band_at.Goals as goal
use Rattle.mover.proofs.bands.band_at.Goals.{After-min-rows}

-- the rows taken
some : (c : After-min-rows) → let r = c.run_at-run.result in c.min-rows.result ≡ min (min r.n c.args.f.most) (c.args.left / c.args.plan.d3.extent)
some c =
    c.min-rows.ensures ∙ ap (λ (n : ℕ). min n (c.args.left / c.args.plan.d3.extent)) c.min.ensures

pub overflow_mul-elements : goal.overflow_mul-elements
overflow_mul-elements c =
    omega (arith, rows_fit c.args.plan.d3.extent c.args.left (min c.run_at-run.result.n c.args.f.most) (some c), c.well_formed)

pub returns : goal.returns
returns c =
    band_some c.args.plan.d2 c.args.plan.d3.extent c.args.outer c.args.c c.args.left c.args.f.most
    c.requires.most_nonzero.0 c.if-left-e.false c.requires.most_nonzero.1 c.run_at-run.ensures (some c)
