-- Entries at or past the rank, and bytes of the fill past the element size, are not looked at by the calls on a table, beyond keeping
-- them as given: with tables and jobs that agree in the rest, every call answers the same, leaves the same memory, and hands back
-- tables that agree again.
use Rattle.std.specs.Prelude.{ℕ, ◌<◌, ◌≡◌, List, length}
use Rattle.mover.specs.declared.Job.{Job}
use Rattle.mover.specs.Claims.{SameJob}
use Rattle.transfers.specs.declared.Slot.{Slot}
use Rattle.transfers.specs.declared.Table.{Table}
use Rattle.transfers.specs.declared.Prepared.{Prepared}
use Rattle.transfers.specs.declared.Changed.{Changed}
use Rattle.transfers.specs.declared.Stepped.{Stepped}
use Rattle.transfers.specs.Slots.{slot_at, table_sound}
use Rattle.transfers.specs.Calls.{prepare_of, start_of, step_of, step_memory, release_of, poll_of}

-- ---- what agrees

pub record SameSlot (s s' : Slot) : Type 0 where
  pub state : s.state ≡ s'.state
  pub moved : s.moved ≡ s'.moved
  -- jobs that agree in what is looked at
  pub taken : (s.state ≡ 0 → ⊥) → SameJob s.job s'.job
  -- a free slot is to be all zero, so there all is looked at
  pub free : s.state ≡ 0 → s.job ≡ s'.job

pub record SameTable (t t' : Table) : Type 0 where
  pub long : t.length ≡ t'.length
  pub slot : (h : ℕ) → h < 4 → SameSlot (slot_at t h) (slot_at t' h)

-- answers that are the same, but for tables that agree

pub record SamePrepared (a a' : Prepared) : Type 0 where
  pub status : a.status ≡ a'.status
  pub dim : a.dim ≡ a'.dim
  pub handle : a.handle ≡ a'.handle
  pub table : SameTable a.table a'.table

pub record SameChanged (a a' : Changed) : Type 0 where
  pub status : a.status ≡ a'.status
  pub table : SameTable a.table a'.table

pub record SameStepped (a a' : Stepped) : Type 0 where
  pub status : a.status ≡ a'.status
  pub count : a.count ≡ a'.count
  pub table : SameTable a.table a'.table

-- ---- what is claimed

-- soundness and every call are the same for t and t'
pub record SameCalls (t t' : Table) : Type 0 where
  pub sound : table_sound t ≡ table_sound t'
  pub prepare : (n : ℕ) (j j' : Job) → SameJob j j' → SamePrepared (prepare_of t n j) (prepare_of t' n j')
  pub start : (n h : ℕ) → SameChanged (start_of t n h) (start_of t' n h)
  pub step : (h budget : ℕ) (m : List ℕ) → SameStepped (step_of t (length m) h budget) (step_of t' (length m) h budget)
  pub memory : (h budget : ℕ) (m : List ℕ) → step_memory t h budget m ≡ step_memory t' h budget m
  pub release : (n h : ℕ) → SameChanged (release_of t n h) (release_of t' n h)
  pub poll : (h : ℕ) → poll_of t h ≡ poll_of t' h

abbrev pub TablesUnseen : Type 0
TablesUnseen = (t t' : Table) → SameTable t t' → SameCalls t t'
