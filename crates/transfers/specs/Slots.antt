-- Four transfers over one memory: the slots, and when a table is sound.
use Rattle.std.specs.Prelude.{ℕ, Bool, cond, not, ◌&&◌, ◌||◌, List, ltb, leb, eqb, get_or}
use Rattle.plane.specs.declared.Tensor.{Tensor}
use Rattle.plane.specs.declared.Config.{Config}
use Rattle.plane.specs.Settings.{array_count, array_of, zero_config}
use Rattle.plane.specs.Planes.{zero_tensor}
use Rattle.plane.specs.Signs.{sizes}
use Rattle.plane.specs.Arrays.{at, array, some, every}
use Rattle.parts.specs.declared.Part.{Part}
use Rattle.mover.specs.declared.Job.{Job}
use Rattle.mover.specs.Within.{meets, job_fault, total_of}
use Rattle.transfers.specs.declared.Slot.{Slot}
use Rattle.transfers.specs.declared.Table.{Table}

-- ---- slots

abbrev pub zero_part : Part
zero_part = record { start = 0; length = 0 }

abbrev pub zero_job : Job
zero_job = record { source = zero_part; destination = zero_part; tensor = zero_tensor; config = zero_config }

-- state 0 is free, 1 prepared, 2 running, 3 done
abbrev pub free_slot : Slot
free_slot = record { state = 0; job = zero_job; moved = 0 }

-- four free slots for a memory of n bytes
abbrev pub fresh_table : ℕ → Table
fresh_table n = record { length = n; slots = array (λ i. free_slot) }

abbrev pub slot_at : Table → ℕ → Slot
slot_at t h = get_or t.slots h free_slot

abbrev pub is_free : Table → ℕ → Bool
is_free t h = eqb (slot_at t h).state 0

-- the table with the slot s at h, and every other slot as it was
unfoldable pub with_slot : Table → ℕ → Slot → Table
with_slot t h s = record { length = t.length; slots = array (λ i. cond (eqb i h) s (slot_at t i)) }

-- the lowest free slot, or 4 where none is
unfoldable pub lowest_free : Table → ℕ
lowest_free t =
    cond (is_free t 0) 0
    (cond (is_free t 1) 1
    (cond (is_free t 2) 2
    (cond (is_free t 3) 3 4)))

-- ---- the rule between two slots

-- the destination part of one meets a part of the other. The parts of a free slot are empty, and an empty part meets none
unfoldable pub breaks : Job → Job → Bool
breaks j k = meets j.destination k.destination || meets j.destination k.source || meets j.source k.destination

-- the job breaks the rule with one of the first n slots
unfoldable pub clashes : Table → Job → ℕ → Bool
clashes t j n = some n (λ k. breaks j (slot_at t k).job)

-- ---- when a table is sound

-- an array of zeros
abbrev pub is_zero_array : List ℕ → Bool
is_zero_array xs = every 4 (λ i. eqb (at xs i) 0)

abbrev pub is_zero_part : Part → Bool
is_zero_part p = eqb p.start 0 && eqb p.length 0

unfoldable pub is_zero_tensor : Tensor → Bool
is_zero_tensor t = eqb t.rank 0 && eqb t.element_size 0 && is_zero_array t.shape && is_zero_array (sizes t.stride)

unfoldable pub is_zero_config : Config → Bool
is_zero_config c = every array_count (λ k. is_zero_array (array_of c k)) && eqb c.fill 0

-- a job that is all zero
unfoldable pub is_zero_job : Job → Bool
is_zero_job j = is_zero_part j.source && is_zero_part j.destination && is_zero_tensor j.tensor && is_zero_config j.config

-- moved is 0 when prepared, below the total when running, the total when done
unfoldable pub moved_right : ℕ → ℕ → ℕ → Bool
moved_right state moved total =
    cond (eqb state 1) (eqb moved 0) (cond (eqb state 2) (ltb moved total) (eqb state 3 && eqb moved total))

-- a free slot is all zero; every other passes 20, 1 to 13, 34 and 21, and has moved what its state says
unfoldable pub slot_sound : ℕ → Slot → Bool
slot_sound n s =
    cond (eqb s.state 0)
    (is_zero_job s.job && eqb s.moved 0)
    (eqb (job_fault n s.job).status 0 && moved_right s.state s.moved (total_of s.job))

-- the longest memory
abbrev pub limit : ℕ
limit = 2147483647

-- the slot at i is sound, and breaks the rule with none before it
unfoldable pub sound_at : Table → ℕ → Bool
sound_at t i = slot_sound t.length (slot_at t i) && not (clashes t (slot_at t i).job i)

-- the length is within the limit, and each of the four slots is sound and apart from those before it
unfoldable pub table_sound : Table → Bool
table_sound t = leb t.length limit && every 4 (sound_at t)
