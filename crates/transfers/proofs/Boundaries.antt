-- The elements of every transfer stand on boundaries of their size, since its job passes. Assumes nothing.
use Prim.Native.Nat.{ℕ}
use mathlib.Core.Path.{sym, ◌∙◌}
use mathlib.Core.List.{[], ◌∷◌}
use Rattle.mover.specs.Claims.{OnBoundaries}
use Rattle.mover.proofs.Boundaries.{job_on_boundaries}
use Rattle.serial.specs.Claims.{Every}
use Rattle.transfers.specs.Slots.{slot_at}
use Rattle.transfers.specs.Demand3.{Log, Passes}
use Rattle.transfers.specs.Claims.{TransfersOnBoundaries}
use Rattle.transfers.proofs.Answers.{preparing}
use Rattle.transfers.proofs.Sounds.{busy, sound_tells}
use Rattle.transfers.proofs.Exact.{prepare_number}
use Rattle.transfers.proofs.Demand3.{demand_3}

each : (n : ℕ) (log : Log) → Every (λ e. Passes n e.job) log → Every (λ e. OnBoundaries e.job) log
each n [] p = tt
each n (e ∷ older) p = (job_on_boundaries n e.job p.0, each n older p.1)

pub transfers_on_boundaries : TransfersOnBoundaries
transfers_on_boundaries = record {
  prepare = λ t n j z. job_on_boundaries n j (preparing t n j (sym (prepare_number t n j) ∙ z)).clear;
  accepted = λ m₀ t m log s. each _ log (demand_3 m₀ t m log s).passed;
  slot = λ t h e l b. job_on_boundaries t.length (slot_at t h).job (busy t.length (slot_at t h) b ((sound_tells t e).each h l)).clear;
}
