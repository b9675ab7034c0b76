-- Midway, byte by byte: in the destination part of a transfer its first elements are in place. Assumes nothing.
use mathlib.Core.Path.{◌≡◌}
use Prim.Native.Nat.{ℕ}
use mathlib.Core.List.{List, [], ◌∷◌}
use lib.ListN.{length}
use Rattle.parts.specs.Parts.{bytes_of}
use Rattle.mover.specs.declared.Job.{Job}
use Rattle.mover.specs.Within.{job_fault}
use Rattle.mover.proofs.Demand2.{firsts_meant}
use Rattle.mover.proofs.Laws.{job_judged}
use Rattle.serial.specs.Machine.{Entry}
use Rattle.serial.specs.Claims.{EveryHeld, Midway}
use Rattle.transfers.specs.Demand3.{the_mover, Log, InPlace}

in_place : (m : List ℕ) (e : Entry Job) → Midway the_mover m e → InPlace m e
in_place m e w =
    let z : (job_fault (length e.before) e.job).status ≡ 0 = rw w.long at w.passed in
    record {
      destination =
          rw w.destination
          (firsts_meant e.job.tensor e.job.config (bytes_of e.job.source e.before) (bytes_of e.job.destination e.before)
          (job_judged e.before e.job z) e.reported w.most);
      source = w.source;
    }

pub in_place_each : (m : List ℕ) (log : Log) → EveryHeld (Midway the_mover m) log → EveryHeld (InPlace m) log
in_place_each m [] ws = tt
in_place_each m (e ∷ older) ws = ((λ h. in_place m e (ws.0 h)), in_place_each m older ws.1)
