-- What each call of the keeper answers. A refusal hands the word back unchanged, with zeros besides its number.
use Rattle.std.specs.Prelude.{ℕ, ◌*◌, ◌/◌, Bool, not, ◌&&◌, ◌||◌, ltb, eqb}
use Rattle.faults.specs.declared.Fault.{Fault}
use Rattle.faults.specs.Faults.{if_fault, Rules, overall, ◌then◌, first_fault}
use Rattle.plane.specs.Arrays.{some}
use Rattle.parts.specs.declared.Part.{Part}
use Rattle.mover.specs.Within.{meets}
use Rattle.transfers.specs.declared.Slot.{Slot}
use Rattle.transfers.specs.declared.Table.{Table}
use Rattle.transfers.specs.Slots.{zero_part, slot_at, table_sound, limit}
use Rattle.keeper.specs.declared.Granted.{Granted}
use Rattle.keeper.specs.declared.GivenBack.{GivenBack}
use Rattle.keeper.specs.declared.Placed.{Placed}
use Rattle.keeper.specs.Blocks.{bad_block_count, bad_run, all_taken, some_run, lowest_run, with_run, without_run}

-- ---- request

-- 31, 32
abbrev pub request_rules : ℕ → ℕ → Rules
request_rules w n = overall 31 (bad_block_count n) then overall 32 (not (some_run w n))

unfoldable pub request_fault : ℕ → ℕ → Fault
request_fault w n = first_fault (request_rules w n)

-- the lowest run of n free neighbours, and the word with it taken
unfoldable pub request_of : ℕ → ℕ → Granted
request_of w n =
    if_fault (request_fault w n)
    (record { status = (request_fault w n).status; first = 0; word = w })
    (record { status = 0; first = lowest_run w n; word = with_run w (lowest_run w n) n })

-- ---- the part that a run is

-- a block is a 64th of a memory of l bytes, rounded down
abbrev pub block_bytes : ℕ → ℕ
block_bytes l = l / 64

unfoldable pub run_part : ℕ → ℕ → ℕ → Part
run_part l first n = record { start = first * block_bytes l; length = n * block_bytes l }

-- 17, 31
abbrev pub part_rules : ℕ → ℕ → ℕ → Rules
part_rules l first n = overall 17 (ltb l 64 || ltb limit l) then overall 31 (bad_run first n)

unfoldable pub part_fault : ℕ → ℕ → ℕ → Fault
part_fault l first n = first_fault (part_rules l first n)

unfoldable pub part_of : ℕ → ℕ → ℕ → Placed
part_of l first n =
    if_fault (part_fault l first n)
    (record { status = (part_fault l first n).status; part = zero_part })
    (record { status = 0; part = run_part l first n })

-- ---- give back

-- the slot is not free, and has a byte of the part p in its source or in its destination
unfoldable pub uses : Slot → Part → Bool
uses s p = not (eqb s.state 0) && (meets p s.job.source || meets p s.job.destination)

-- one of the four does
unfoldable pub in_use : Table → Part → Bool
in_use t p = some 4 (λ h. uses (slot_at t h) p)

-- 17, 18: whatever the run
abbrev pub table_rules : Table → Rules
table_rules t = overall 17 (ltb t.length 64) then overall 18 (not (table_sound t))

unfoldable pub table_fault : Table → Fault
table_fault t = first_fault (table_rules t)

-- 17, 18, 31, 33
abbrev pub give_back_rules : Table → ℕ → ℕ → ℕ → Rules
give_back_rules t w first n =
    table_rules t then
    overall 31 (bad_run first n) then
    overall 33 (not (all_taken w first n) || in_use t (run_part t.length first n))

unfoldable pub give_back_fault : Table → ℕ → ℕ → ℕ → Fault
give_back_fault t w first n = first_fault (give_back_rules t w first n)

unfoldable pub give_back_of : Table → ℕ → ℕ → ℕ → GivenBack
give_back_of t w first n =
    if_fault (give_back_fault t w first n)
    (record { status = (give_back_fault t w first n).status; word = w })
    (record { status = 0; word = without_run w first n })
