-- What each call on a table answers. A refusal hands back the table that was given, with zeros besides its number and dimension.
use Rattle.std.specs.Prelude.{ℕ, ◌+◌, ◌-◌, cond, not, ◌||◌, List, [], ◌∷◌, ltb, eqb, length}
use Rattle.faults.specs.declared.Fault.{Fault}
use Rattle.faults.specs.Faults.{if_fault, Rules, overall, ◌then◌, first_fault}
use Rattle.mover.specs.declared.Job.{Job}
use Rattle.mover.specs.Within.{job_rules, total_of, further, advanced_by}
use Rattle.transfers.specs.declared.Slot.{Slot}
use Rattle.transfers.specs.declared.Table.{Table}
use Rattle.transfers.specs.declared.FreshTable.{FreshTable}
use Rattle.transfers.specs.declared.Prepared.{Prepared}
use Rattle.transfers.specs.declared.Changed.{Changed}
use Rattle.transfers.specs.declared.Stepped.{Stepped}
use Rattle.transfers.specs.declared.Poll.{Poll}
use Rattle.transfers.specs.declared.Poll.TheVariants as poll
use Rattle.transfers.specs.Slots.{free_slot, fresh_table, slot_at, with_slot, is_free, lowest_free, clashes, table_sound, limit}

-- ---- fresh

-- 17: a length above the limit
abbrev pub fresh_rules : ℕ → Rules
fresh_rules n = overall 17 (ltb limit n)

unfoldable pub fresh_fault : ℕ → Fault
fresh_fault n = first_fault (fresh_rules n)

-- a refused table has length 0 and free slots
unfoldable pub fresh_of : ℕ → FreshTable
fresh_of n =
    if_fault (fresh_fault n)
    (record { status = (fresh_fault n).status; table = fresh_table 0 })
    (record { status = 0; table = fresh_table n })

-- ---- what is refused, over a memory of n bytes

-- 17, 18
abbrev pub open_rules : Table → ℕ → Rules
open_rules t n = overall 17 (not (eqb n t.length)) then overall 18 (not (table_sound t))

unfoldable pub open_fault : Table → ℕ → Fault
open_fault t n = first_fault (open_rules t n)

-- 17, 18, 19, 20, 1 to 13, 34, 21, 22
abbrev pub prepare_rules : Table → ℕ → Job → Rules
prepare_rules t n j =
    open_rules t n then
    overall 19 (eqb (lowest_free t) 4) then
    job_rules n j then
    overall 22 (clashes t j 4)

unfoldable pub prepare_fault : Table → ℕ → Job → Fault
prepare_fault t n j = first_fault (prepare_rules t n j)

-- 17, 18, 23, 24, where the slot is to be in the state want
abbrev pub call_rules : Table → ℕ → ℕ → ℕ → Rules
call_rules t n h want =
    open_rules t n then
    overall 23 (ltb 3 h || is_free t h) then
    overall 24 (not (eqb (slot_at t h).state want))

unfoldable pub call_fault : Table → ℕ → ℕ → ℕ → Fault
call_fault t n h want = first_fault (call_rules t n h want)

-- ---- prepare

abbrev pub new_slot : Job → Slot
new_slot j = record { state = 1; job = j; moved = 0 }

unfoldable pub prepare_of : Table → ℕ → Job → Prepared
prepare_of t n j =
    if_fault (prepare_fault t n j)
    (record { status = (prepare_fault t n j).status; dim = (prepare_fault t n j).dim; handle = 0; table = t })
    (record { status = 0; dim = 0; handle = lowest_free t; table = with_slot t (lowest_free t) (new_slot j) })

-- ---- start and release

-- the answer for the table with the slot s at h
unfoldable pub changed : Fault → Table → ℕ → Slot → Changed
changed f t h s =
    if_fault f (record { status = f.status; table = t }) (record { status = 0; table = with_slot t h s })

-- the slot, running
abbrev pub running : Slot → Slot
running s = record { state = 2; job = s.job; moved = s.moved }

unfoldable pub start_of : Table → ℕ → ℕ → Changed
start_of t n h = changed (call_fault t n h 1) t h (running (slot_at t h))

unfoldable pub release_of : Table → ℕ → ℕ → Changed
release_of t n h = changed (call_fault t n h 3) t h free_slot

-- ---- step

-- how many elements a step of the slot moves: the budget, or what is left
abbrev pub step_count : Slot → ℕ → ℕ
step_count s budget = further s.job s.moved budget

-- the slot after that many more: done where none is left
unfoldable pub later : Slot → ℕ → Slot
later s count = record {
  state = cond (eqb (s.moved + count) (total_of s.job)) 3 2;
  job = s.job;
  moved = s.moved + count;
}

unfoldable pub step_of : Table → ℕ → ℕ → ℕ → Stepped
step_of t n h budget =
    if_fault (call_fault t n h 2)
    (record { status = (call_fault t n h 2).status; count = 0; table = t })
    (record {
      status = 0;
      count = step_count (slot_at t h) budget;
      table = with_slot t h (later (slot_at t h) (step_count (slot_at t h) budget));
    })

-- the memory after a step: just as many elements newly moved, or as it was where the step is refused
unfoldable pub step_memory : Table → ℕ → ℕ → List ℕ → List ℕ
step_memory t h budget m =
    if_fault (call_fault t (length m) h 2) m
    (advanced_by (slot_at t h).job (slot_at t h).moved (step_count (slot_at t h) budget) m)

-- ---- poll

abbrev pub left : Slot → ℕ
left s = total_of s.job - s.moved

unfoldable pub poll_slot : Slot → Poll
poll_slot s =
    cond (eqb s.state 0) poll.Free
    (cond (eqb s.state 1) (poll.Prepared (left s))
    (cond (eqb s.state 2) (poll.Running (left s)) poll.Done))

-- 18, 23
abbrev pub poll_rules : Table → ℕ → Rules
poll_rules t h = overall 18 (not (table_sound t)) then overall 23 (ltb 3 h)

unfoldable pub poll_fault : Table → ℕ → Fault
poll_fault t h = first_fault (poll_rules t h)

unfoldable pub poll_of : Table → ℕ → Poll
poll_of t h = if_fault (poll_fault t h) (poll.Refused (poll_fault t h).status) (poll_slot (slot_at t h))

-- the paper's number of a poll's answer, the state that it tells and what is left; zeros besides a refusal
abbrev pub poll_status : Poll → ℕ
poll_status poll.Free = 0
poll_status (poll.Prepared k) = 0
poll_status (poll.Running k) = 0
poll_status poll.Done = 0
poll_status (poll.Refused n) = n

abbrev pub poll_state : Poll → ℕ
poll_state poll.Free = 0
poll_state (poll.Prepared k) = 1
poll_state (poll.Running k) = 2
poll_state poll.Done = 3
poll_state (poll.Refused n) = 0

abbrev pub poll_left : Poll → ℕ
poll_left poll.Free = 0
poll_left (poll.Prepared k) = k
poll_left (poll.Running k) = k
poll_left poll.Done = 0
poll_left (poll.Refused n) = 0

-- the three, in that order
abbrev pub poll_numbers : Poll → List ℕ
poll_numbers p = poll_status p ∷ poll_state p ∷ poll_left p ∷ []
