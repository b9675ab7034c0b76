-- The paper's marked examples A to L, as one table: an entry has the paper's letter, and says what is given and what comes out.
-- `AllRight` says when a table is right. Where a comment says against `name`, that is a wrong reading by which an entry below it
-- would come out otherwise: one of the faults that the comparison with the second program has to find.
use Rattle.std.specs.Prelude.{ℕ, zero, suc, ◌*◌, ◌≡◌, true, false, List, [], ◌∷◌, ◌++◌, map, ℤ, pos, neg_ℤ, length, take, drop, set, replicate}
use Rattle.plane.specs.declared.Tensor.{Tensor}
use Rattle.plane.specs.declared.Config.{Config}
use Rattle.plane.specs.declared.Answer.{Answer}
use Rattle.plane.specs.declared.RoomAnswer.{RoomAnswer}
use Rattle.plane.specs.declared.Count.{Count}
use Rattle.plane.specs.declared.SubConfig.{SubConfig}
use Rattle.plane.specs.declared.SubTensor.{SubTensor}
use Rattle.plane.specs.Signs.{zeros_z}
use Rattle.faults.specs.declared.Fault.{Fault}
use Rattle.faults.specs.Faults.{none, fault}
use Rattle.plane.specs.Moves.{refused, judge_of, room_of}
use Rattle.ready_made.specs.ReadyMade.{defaults}
use Rattle.plane.specs.Settings.{zero_config, with_offset, with_size, with_step, with_dst_offset, with_dst_stride, with_perm, with_pre, with_post, with_fill}
use Rattle.plane.specs.Helpers.{no_count, count_of, no_sub, sub_tensor_of}
use Rattle.mover.specs.declared.Job.{Job}
use Rattle.mover.specs.declared.Advanced.{Advanced}
use Rattle.mover.specs.declared.PixelAnswer.{PixelAnswer}
use Rattle.mover.specs.Moved.{move_memory}
use Rattle.mover.specs.Within.{advance_of, advance_memory}
use Rattle.mover.specs.SubPart.{sub_part}
use Rattle.mover.specs.Pixel.{pixel_of}
use Rattle.record.specs.declared.Reading.{Reading}
use Rattle.record.specs.Records.{write_fault, no_reading, reading, read_of, written_room}
use Rattle.list.specs.declared.Numbered.{Numbered}
use Rattle.list.specs.declared.Appended.{Appended}
use Rattle.list.specs.Lists.{list_fault, record_count, no_record, record_at, place_after}
use Rattle.list.specs.Writers.{start_fault, started_buffer, no_append, append_of, appended_buffer}
use Rattle.transfers.specs.declared.Table.{Table}
use Rattle.transfers.specs.Slots.{zero_part, zero_job, fresh_table, with_slot}
use Rattle.transfers.specs.Calls.{prepare_of, start_of, step_of, release_of, poll_of, poll_numbers}
use Rattle.transfers.specs.Demand3.{Call, prepare, start, step, release, poll, World, fresh_world, after}
use Rattle.keeper.specs.declared.Granted.{Granted}
use Rattle.keeper.specs.declared.GivenBack.{GivenBack}
use Rattle.keeper.specs.declared.Placed.{Placed}
use Rattle.keeper.specs.Blocks.{free_blocks, free_before_first_taken}
use Rattle.keeper.specs.Calls.{request_of, part_of, give_back_of}

-- ---- what an example is

infix 70 ◌answers◌
-- a call on a table, and the numbers that it answers (`reply` says which)
pub data Asked : Type 0 where
  ◌answers◌ : Call → List ℕ → Asked

pub data Example : Type 0 where
  -- tensor, configuration, source, destination before; the answer, the destination after
  move : Tensor → Config → List ℕ → List ℕ → Answer → List ℕ → Example
  -- job, the element to start from, budget, memory before; the answer, memory after
  stretch : Job → ℕ → ℕ → List ℕ → Advanced → List ℕ → Example
  -- tensor, configuration, source, a destination coordinate; the element there
  pixel : Tensor → Config → List ℕ → List ℕ → PixelAnswer → Example
  -- tensor, which part of it, source; the answer, the part of the source handed back
  sub : Tensor → SubConfig → List ℕ → SubTensor → List ℕ → Example
  -- memory before, calls on a fresh table for it; memory after
  transfers : List ℕ → List Asked → List ℕ → Example
  -- any table, memory before, calls on that table; memory after
  handed_in : Table → List ℕ → List Asked → List ℕ → Example
  -- tensor, configuration; what a room question answers
  room : Tensor → Config → RoomAnswer → Example
  -- tensor, start dimension; the element count
  count : Tensor → ℕ → Count → Example
  -- a record's bytes; what is read
  read : List ℕ → Reading → Example
  -- tensor, configuration, a room; the answer, the room after the record is written into it
  write : Tensor → Config → List ℕ → Fault → List ℕ → Example
  -- a list's bytes; status and how many records, and then what calls of a reader answer, one after another
  list : List ℕ → ℕ → ℕ → List Numbered → Example
  -- a buffer; status, the buffer after a list is started in it
  begins : List ℕ → ℕ → List ℕ → Example
  -- a buffer, how many first bytes are the list, a tensor, a configuration; the answer, the buffer after
  append : List ℕ → ℕ → Tensor → Config → Appended → List ℕ → Example
  -- a word, how many blocks; what a request for them answers
  room_for : ℕ → ℕ → Granted → Example
  -- a table, a word, a run's first block and how many; what giving it back answers
  gives_back : Table → ℕ → ℕ → ℕ → GivenBack → Example
  -- a word; how many blocks are free, and how many before the first taken one
  blocks : ℕ → ℕ → ℕ → Example
  -- a memory's length, a run's first block and how many; the part that it is
  placed_run : ℕ → ℕ → ℕ → Placed → Example

-- the letters that the paper marks its examples with, and what is not of A to L
pub data Letter : Type 0 where
  A B C D E F G H I J K L : Letter
  besides : Letter

infix 70 ◌shows◌
pub data Lettered : Type 0 where
  ◌shows◌ : Letter → Example → Lettered

-- ---- when a table is right: the definitions that decide the public calls give what it says

-- what comes out of an example
pub data Outcome : Type 0 where
  of_move : Answer → List ℕ → Outcome
  of_stretch : Advanced → List ℕ → Outcome
  of_pixel : PixelAnswer → Outcome
  of_sub : SubTensor → List ℕ → Outcome
  -- what each call answers, and at last the memory
  of_calls : List (List ℕ) → Outcome
  of_room : RoomAnswer → Outcome
  of_count : Count → Outcome
  of_read : Reading → Outcome
  of_write : Fault → List ℕ → Outcome
  of_list : ℕ → ℕ → List Numbered → Outcome
  of_start : ℕ → List ℕ → Outcome
  of_append : Appended → List ℕ → Outcome
  of_request : Granted → Outcome
  of_back : GivenBack → Outcome
  of_blocks : ℕ → ℕ → Outcome
  of_part : Placed → Outcome

-- the status first; then prepare: the dimension and the handle; step: how many it moved; poll: the state and what is left
abbrev pub reply : Call → World → List ℕ
reply (prepare j) w = let a = prepare_of w.table (length w.memory) j in a.status ∷ a.dim ∷ a.handle ∷ []
reply (start h) w = (start_of w.table (length w.memory) h).status ∷ []
reply (step h b) w = let a = step_of w.table (length w.memory) h b in a.status ∷ a.count ∷ []
reply (release h) w = (release_of w.table (length w.memory) h).status ∷ []
reply (poll h) w = poll_numbers (poll_of w.table h)

-- what calls on a table answer, one after another, and at last the memory; and what they are said to answer
abbrev pub replies : List Asked → World → List (List ℕ)
replies [] w = w.memory ∷ []
replies (c answers a ∷ cs) w = reply c w ∷ replies cs (after c w)

abbrev pub expected : List Asked → List ℕ → List (List ℕ)
expected [] out = out ∷ []
expected (c answers a ∷ cs) out = a ∷ expected cs out

-- what so many calls of a reader at record k answer, one after another
abbrev pub handed : List ℕ → ℕ → ℕ → List Numbered
handed bs k zero = []
handed bs k (suc n) = record_at bs k ∷ handed bs (place_after bs k) n

-- what the definitions give, and what the example says
abbrev pub given : Example → Outcome
given (move t c source over a out) = of_move (judge_of t c (length source) (length over)) (move_memory t c source over)
given (stretch j from budget m a out) = of_stretch (advance_of j from budget m) (advance_memory j from budget m)
given (pixel t c source x a) = of_pixel (pixel_of t c source x)
given (sub t s source a part) = of_sub (sub_tensor_of t s (length source)) (sub_part t s source)
given (transfers m cs out) = of_calls (replies cs (fresh_world (length m) m))
given (handed_in t m cs out) = of_calls (replies cs (record { table = t; memory = m; log = [] }))
given (room t c a) = of_room (room_of t c)
given (count t from a) = of_count (count_of t from)
given (read bs a) = of_read (read_of bs)
given (write t c before a out) = of_write (write_fault t c (length before)) (written_room t c before)
given (list bs status n rs) = of_list (list_fault bs).status (record_count bs) (handed bs 0 (length rs))
given (begins buffer status out) = of_start (start_fault buffer).status (started_buffer buffer)
given (append buffer n t c a out) = of_append (append_of buffer n t c) (appended_buffer buffer n t c)
given (room_for w n a) = of_request (request_of w n)
given (gives_back t w first n a) = of_back (give_back_of t w first n)
given (blocks w free before) = of_blocks (free_blocks w) (free_before_first_taken w)
given (placed_run l first n a) = of_part (part_of l first n)

abbrev pub said : Example → Outcome
said (move t c source over a out) = of_move a out
said (stretch j from budget m a out) = of_stretch a out
said (pixel t c source x a) = of_pixel a
said (sub t s source a part) = of_sub a part
said (transfers m cs out) = of_calls (expected cs out)
said (handed_in t m cs out) = of_calls (expected cs out)
said (room t c a) = of_room a
said (count t from a) = of_count a
said (read bs a) = of_read a
said (write t c before a out) = of_write a out
said (list bs status n rs) = of_list status n rs
said (begins buffer status out) = of_start status out
said (append buffer n t c a out) = of_append a out
said (room_for w n a) = of_request a
said (gives_back t w first n a) = of_back a
said (blocks w free before) = of_blocks free before
said (placed_run l first n a) = of_part a

-- entry by entry, each under its letter
abbrev pub outcomes : (Example → Outcome) → List Lettered → List (Letter × Outcome)
outcomes f [] = []
outcomes f (l shows e ∷ es) = (l, f e) ∷ outcomes f es

abbrev pub AllRight : List Lettered → Type 0
AllRight es = outcomes given es ≡ outcomes said es

-- ---- how the entries are written

-- entries at and past the rank, which nobody looks at, are 9
abbrev pub one : ℕ → List ℕ
one a = a ∷ 9 ∷ 9 ∷ 9 ∷ []

abbrev pub two : ℕ → ℕ → List ℕ
two a b = a ∷ b ∷ 9 ∷ 9 ∷ []

abbrev pub three : ℕ → ℕ → ℕ → List ℕ
three a b c = a ∷ b ∷ c ∷ 9 ∷ []

-- four entries, all the same
abbrev pub alike : ℕ → List ℕ
alike a = a ∷ a ∷ a ∷ a ∷ []

-- a plane with all strides 0: rank, element size, shape
abbrev pub compact : ℕ → ℕ → List ℕ → Tensor
compact n size shape = record { rank = n; element_size = size; shape = shape; stride = zeros_z }

-- a plane with its strides; -n is `minus n`
abbrev pub strided : ℕ → ℕ → List ℕ → List ℤ → Tensor
strided n size shape stride = record { rank = n; element_size = size; shape = shape; stride = stride }

abbrev pub minus : ℕ → ℤ
minus n = neg_ℤ (pos n)

-- the strides of rank 1, and of rank 2; past the rank they are -9
abbrev pub stride1 : ℤ → List ℤ
stride1 a = a ∷ minus 9 ∷ minus 9 ∷ minus 9 ∷ []

abbrev pub stride2 : ℤ → ℤ → List ℤ
stride2 a b = a ∷ b ∷ minus 9 ∷ minus 9 ∷ []

-- a sub-tensor's offsets, sizes and rank
abbrev pub cut : List ℕ → List ℕ → ℕ → SubConfig
cut offset size n = record { offset = offset; size = size; rank = n }

-- a transfer of shape (n) in elements of so many bytes, from byte a on into byte b on; and in single bytes
abbrev pub transfer_of : ℕ → ℕ → ℕ → ℕ → Job
transfer_of size n a b = record {
  source = record { start = a; length = n * size };
  destination = record { start = b; length = n * size };
  tensor = compact 1 size (one n);
  config = defaults;
}

abbrev pub transfer : ℕ → ℕ → ℕ → Job
transfer n a b = transfer_of 1 n a b

-- (2) in elements of two bytes, from byte a on into byte b on, with parts of k and of l bytes
abbrev pub transfer_in : ℕ → ℕ → ℕ → ℕ → Job
transfer_in a k b l = record {
  source = record { start = a; length = k };
  destination = record { start = b; length = l };
  tensor = compact 1 2 (one 2);
  config = defaults;
}

-- every second element of a row, with a zero before and after
abbrev pub thin_config : Config
thin_config = with_post (with_pre (with_step defaults (two 1 2)) (two 0 1)) (two 0 1)

-- (2,5) moved so, in bytes: from byte 0 on, to byte 10 on
abbrev pub thin_transfer : Job
thin_transfer = record {
  source = record { start = 0; length = 10 };
  destination = record { start = 10; length = 10 };
  tensor = compact 2 1 (two 2 5);
  config = thin_config;
}

-- (2,3) with its rows read right to left, in bytes: from byte 0 on, to byte 6 on
abbrev pub mirrored_transfer : Job
mirrored_transfer = record {
  source = record { start = 0; length = 6 };
  destination = record { start = 6; length = 6 };
  tensor = strided 2 1 (two 2 3) (stride2 (pos 0) (minus 1));
  config = defaults;
}

-- D between two parts of one memory: from byte 0 on, to byte 2 on
abbrev pub padded_transfer : Job
padded_transfer = record {
  source = record { start = 0; length = 2 };
  destination = record { start = 2; length = 6 };
  tensor = compact 2 1 (two 1 2);
  config = with_post (with_pre defaults (two 1 0)) (two 0 1);
}

-- one byte, from byte 0 on, with a fill of 7 before and after it, to byte 1 on
abbrev pub filled_transfer : Job
filled_transfer = record {
  source = record { start = 0; length = 1 };
  destination = record { start = 1; length = 3 };
  tensor = compact 1 1 (one 1);
  config = with_fill (with_post (with_pre defaults (one 1)) (one 1)) 7;
}

-- two bytes from byte 0 on into nine from byte 1 on, which no memory below ten bytes has; and the rank is 0
abbrev pub leaving_transfer : Job
leaving_transfer = record {
  source = record { start = 0; length = 2 };
  destination = record { start = 1; length = 9 };
  tensor = compact 0 1 (one 2);
  config = defaults;
}

-- the bytes 1..n
abbrev pub up_to : ℕ → List ℕ
up_to zero = []
up_to (suc n) = up_to n ++ (suc n ∷ [])

-- a destination of n bytes of which the paper says nothing more: a byte not written would show
abbrev pub over : ℕ → List ℕ
over n = replicate n 99

-- the plane of example A, in elements of so many bytes and of one, and its move, as a record has them: with zeros past the rank
abbrev pub turn_in : ℕ → Tensor
turn_in size = compact 2 size (2 ∷ 3 ∷ 0 ∷ 0 ∷ [])

abbrev pub turn_tensor : Tensor
turn_tensor = turn_in 1

abbrev pub turn_config : Config
turn_config = with_perm (with_step zero_config (1 ∷ 1 ∷ 0 ∷ 0 ∷ [])) (1 ∷ 0 ∷ 0 ∷ 0 ∷ [])

-- the record's bytes
abbrev pub turn_record : List ℕ
turn_record =
    (82 ∷ 77 ∷ 86 ∷ 1 ∷ 0 ∷ 2 ∷ 1 ∷ 2 ∷ 0 ∷ 0 ∷ 0 ∷ 3 ∷ []) ++ replicate 59 0 ++
    (1 ∷ 0 ∷ 0 ∷ 0 ∷ 1 ∷ []) ++ replicate 43 0 ++ (1 ∷ []) ++ replicate 11 0

-- A's plane with strides (-3,-1), and its record: their words stand from byte 23 on
abbrev pub mirrored_tensor : Tensor
mirrored_tensor = strided 2 1 (2 ∷ 3 ∷ 0 ∷ 0 ∷ []) (minus 3 ∷ minus 1 ∷ pos 0 ∷ pos 0 ∷ [])

abbrev pub mirrored_record : List ℕ
mirrored_record = take 23 turn_record ++ (253 ∷ 255 ∷ 255 ∷ 255 ∷ 255 ∷ 255 ∷ 255 ∷ 255 ∷ []) ++ drop 31 turn_record

-- A's record with 2 for its version
abbrev pub version_two : List ℕ
version_two = set turn_record 3 2

-- A's record with a fill of 128: version 2, and the four bytes of the fill behind
abbrev pub filled_record : List ℕ
filled_record = version_two ++ (128 ∷ 0 ∷ 0 ∷ 0 ∷ [])

-- and in elements of three bytes with a fill of 0x332211, which is 3,351,057: 0x11 0x22 0x33, which are 17 34 51, and 0
abbrev pub pixel_record : List ℕ
pixel_record = set version_two 6 3 ++ (17 ∷ 34 ∷ 51 ∷ 0 ∷ [])

-- A's record as it is handed out under number k
abbrev pub turn_numbered : ℕ → Numbered
turn_numbered k = record { number = k; reading = reading turn_tensor turn_config }

-- the head of a list that says n records
abbrev pub head_of : ℕ → List ℕ
head_of n = 82 ∷ 77 ∷ 76 ∷ 1 ∷ 0 ∷ n ∷ 0 ∷ []

-- an accepted move: rank, element size, extents, destination strides, need
abbrev pub accepted_move : ℕ → ℕ → List ℕ → List ℕ → ℕ → Answer
accepted_move n size extent stride need =
    record { status = 0; dim = 0; rank = n; element_size = size; extent = extent; stride = stride; need = need }

-- a pixel: one that is kept, one of padding, and a refused one
abbrev pub kept_pixel : List ℕ → PixelAnswer
kept_pixel bytes = record { status = 0; dim = 0; bytes = bytes; padding = false }

abbrev pub padded_pixel : List ℕ → PixelAnswer
padded_pixel bytes = record { status = 0; dim = 0; bytes = bytes; padding = true }

abbrev pub no_pixel : ℕ → ℕ → PixelAnswer
no_pixel number d = record { status = number; dim = d; bytes = 0 ∷ 0 ∷ 0 ∷ 0 ∷ []; padding = false }

-- an accepted sub-tensor: rank, element size, shape, strides, byte; and one whose strides are all positive
abbrev pub signed_sub : ℕ → ℕ → List ℕ → List ℤ → ℕ → SubTensor
signed_sub n size shape stride byte = record { status = 0; dim = 0; tensor = strided n size shape stride; byte = byte }

abbrev pub accepted_sub : ℕ → ℕ → List ℕ → List ℕ → ℕ → SubTensor
accepted_sub n size shape stride byte = signed_sub n size shape (map pos stride) byte

-- a request granted: the first block, the word after; and refused: the word as it was
abbrev pub grant : ℕ → ℕ → Granted
grant first w = record { status = 0; first = first; word = w }

abbrev pub no_grant : ℕ → ℕ → Granted
no_grant number w = record { status = number; first = 0; word = w }

-- giving back: the number, the word after
abbrev pub back : ℕ → ℕ → GivenBack
back number w = record { status = number; word = w }

-- the part of a run, and that of a refused one
abbrev pub bytes : ℕ → ℕ → Placed
bytes b n = record { status = 0; part = record { start = b; length = n } }

abbrev pub no_bytes : ℕ → Placed
no_bytes number = record { status = number; part = zero_part }

-- all 64 blocks taken; every second one, from block 1 on; all but the first and the last
abbrev pub all_blocks : ℕ
all_blocks = 18446744073709551615

abbrev pub odd_blocks : ℕ
odd_blocks = 12297829382473034410

abbrev pub inner_blocks : ℕ
inner_blocks = 9223372036854775806

-- a table for n bytes that has a job in slot 0, in that state, with so many elements moved
abbrev pub holding : Job → ℕ → ℕ → ℕ → Table
holding j n state moved = with_slot (fresh_table n) 0 (record { state = state; job = j; moved = moved })

-- one that is not sound: there is no state 4
abbrev pub unsound : ℕ → Table
unsound n = holding zero_job n 4 0

-- one that has a transfer of two bytes, from byte 2 into byte 8
abbrev pub busy : ℕ → ℕ → ℕ → Table
busy n state moved = holding (transfer 2 2 8) n state moved

-- ---- the table

abbrev pub examples : List Lettered
examples =
    -- (2,3) 1..6, perm (1,0): 1 4 2 5 3 6
    A shows move (compact 2 1 (two 2 3)) (with_perm defaults (two 1 0)) (up_to 6) (over 6)
    (accepted_move 2 1 (3 ∷ 2 ∷ 0 ∷ 0 ∷ []) (2 ∷ 1 ∷ 0 ∷ 0 ∷ []) 6) (1 ∷ 4 ∷ 2 ∷ 5 ∷ 3 ∷ 6 ∷ []) ∷
    -- (3,4) 1..12, offset (1,1), size (2,2): 6 7 10 11
    B shows move (compact 2 1 (two 3 4)) (with_size (with_offset defaults (two 1 1)) (two 2 2)) (up_to 12) (over 4)
    (accepted_move 2 1 (2 ∷ 2 ∷ 0 ∷ 0 ∷ []) (2 ∷ 1 ∷ 0 ∷ 0 ∷ []) 4) (6 ∷ 7 ∷ 10 ∷ 11 ∷ []) ∷
    -- (7) 1..7, step 3: 1 4 7. Size 6: 1 4. Step 9: 1. Against `count_rounded_down`
    C shows move (compact 1 1 (one 7)) (with_step defaults (one 3)) (up_to 7) (over 3)
    (accepted_move 1 1 (3 ∷ 0 ∷ 0 ∷ 0 ∷ []) (1 ∷ 0 ∷ 0 ∷ 0 ∷ []) 3) (1 ∷ 4 ∷ 7 ∷ []) ∷
    C shows move (compact 1 1 (one 7)) (with_size (with_step defaults (one 3)) (one 6)) (up_to 7) (over 2)
    (accepted_move 1 1 (2 ∷ 0 ∷ 0 ∷ 0 ∷ []) (1 ∷ 0 ∷ 0 ∷ 0 ∷ []) 2) (1 ∷ 4 ∷ []) ∷
    C shows move (compact 1 1 (one 7)) (with_step defaults (one 9)) (up_to 7) (over 1)
    (accepted_move 1 1 (1 ∷ 0 ∷ 0 ∷ 0 ∷ []) (1 ∷ 0 ∷ 0 ∷ 0 ∷ []) 1) (1 ∷ []) ∷
    -- (1,2) 5 6, pre (1,0), post (0,1): 0 0 0 5 6 0. Against `plain_forgets_outer_padding`
    D shows move (compact 2 1 (two 1 2)) (with_post (with_pre defaults (two 1 0)) (two 0 1)) (5 ∷ 6 ∷ []) (over 6)
    (accepted_move 2 1 (2 ∷ 3 ∷ 0 ∷ 0 ∷ []) (3 ∷ 1 ∷ 0 ∷ 0 ∷ []) 6) (0 ∷ 0 ∷ 0 ∷ 5 ∷ 6 ∷ 0 ∷ []) ∷
    -- (1,2) 8 9, destination offset (1,0), strides (2,1), over 1 1 1 1: 1 1 8 9
    E shows move (compact 2 1 (two 1 2)) (with_dst_stride (with_dst_offset defaults (two 1 0)) (two 2 1)) (8 ∷ 9 ∷ []) (1 ∷ 1 ∷ 1 ∷ 1 ∷ [])
    (accepted_move 2 1 (1 ∷ 2 ∷ 0 ∷ 0 ∷ []) (2 ∷ 1 ∷ 0 ∷ 0 ∷ []) 4) (1 ∷ 1 ∷ 8 ∷ 9 ∷ []) ∷
    -- (2,2) 1..4, destination strides (3,1), over five 7s: 1 2 7 3 4. Over four: 13, and nothing changes. Against
    -- `gaps_zeroed`
    F shows move (compact 2 1 (two 2 2)) (with_dst_stride defaults (two 3 1)) (up_to 4) (7 ∷ 7 ∷ 7 ∷ 7 ∷ 7 ∷ [])
    (accepted_move 2 1 (2 ∷ 2 ∷ 0 ∷ 0 ∷ []) (3 ∷ 1 ∷ 0 ∷ 0 ∷ []) 5) (1 ∷ 2 ∷ 7 ∷ 3 ∷ 4 ∷ []) ∷
    F shows move (compact 2 1 (two 2 2)) (with_dst_stride defaults (two 3 1)) (up_to 4) (7 ∷ 7 ∷ 7 ∷ 7 ∷ [])
    (refused (fault 13 0)) (7 ∷ 7 ∷ 7 ∷ 7 ∷ []) ∷
    -- (1,2) 5 6, pre (1,0), perm (1,0): 0 5 0 6. Against `padding_by_destination`
    G shows move (compact 2 1 (two 1 2)) (with_perm (with_pre defaults (two 1 0)) (two 1 0)) (5 ∷ 6 ∷ []) (over 4)
    (accepted_move 2 1 (2 ∷ 2 ∷ 0 ∷ 0 ∷ []) (2 ∷ 1 ∷ 0 ∷ 0 ∷ []) 4) (0 ∷ 5 ∷ 0 ∷ 6 ∷ []) ∷
    -- (3,4) 1..12, offset (0,1), steps (2,2), perm (1,0): 2 10 4 12
    H shows move (compact 2 1 (two 3 4)) (with_perm (with_step (with_offset defaults (two 0 1)) (two 2 2)) (two 1 0)) (up_to 12) (over 4)
    (accepted_move 2 1 (2 ∷ 2 ∷ 0 ∷ 0 ∷ []) (2 ∷ 1 ∷ 0 ∷ 0 ∷ []) 4) (2 ∷ 10 ∷ 4 ∷ 12 ∷ []) ∷
    -- element size 2, (3), bytes 1..6, offset 1: 3 4 5 6
    I shows move (compact 1 2 (one 3)) (with_offset defaults (one 1)) (up_to 6) (over 4)
    (accepted_move 1 2 (2 ∷ 0 ∷ 0 ∷ 0 ∷ []) (1 ∷ 0 ∷ 0 ∷ 0 ∷ []) 4) (3 ∷ 4 ∷ 5 ∷ 6 ∷ []) ∷
    -- element size 3 with shape (0,70000): 3 at dimension 0. A with perm (0,0): 6 at dimension 1
    J shows move (compact 2 3 (two 0 70000)) defaults (up_to 6) (over 3)
    (refused (fault 3 0)) (99 ∷ 99 ∷ 99 ∷ []) ∷
    J shows move (compact 2 1 (two 2 3)) (with_perm defaults (two 0 0)) (up_to 6) (over 6)
    (refused (fault 6 1)) (99 ∷ 99 ∷ 99 ∷ 99 ∷ 99 ∷ 99 ∷ []) ∷
    -- sub-tensor of (3,4) at (1,2), sizes (1,2), rank 1: shape (2), stride 1, byte 6. The source is 1..12
    K shows sub (compact 2 1 (two 3 4)) (cut (two 1 2) (two 1 2) 1) (up_to 12)
    (accepted_sub 1 1 (2 ∷ 0 ∷ 0 ∷ 0 ∷ []) (1 ∷ 0 ∷ 0 ∷ 0 ∷ []) 6) (7 ∷ 8 ∷ 9 ∷ 10 ∷ 11 ∷ 12 ∷ []) ∷
    -- memory 1 2 3 4 0 0 0 0; two transfers of (2), bytes 0..1 to 4..5 and 2..3 to 6..7; steps of 1 alternating, second first:
    -- 1 2 3 4 1 2 3 4. A third of (1) from byte 2 into byte 0, before either is released: 22. Both are done by then and not running.
    -- Against `rule_for_running_slots_only`. The bytes go from source to destination. Against `prepare_exchanges_the_parts`
    L shows transfers (1 ∷ 2 ∷ 3 ∷ 4 ∷ 0 ∷ 0 ∷ 0 ∷ 0 ∷ [])
    (prepare (transfer 2 0 4) answers (0 ∷ 0 ∷ 0 ∷ []) ∷
    prepare (transfer 2 2 6) answers (0 ∷ 0 ∷ 1 ∷ []) ∷
    start 0 answers (0 ∷ []) ∷
    start 1 answers (0 ∷ []) ∷
    step 1 1 answers (0 ∷ 1 ∷ []) ∷
    step 0 1 answers (0 ∷ 1 ∷ []) ∷
    step 1 1 answers (0 ∷ 1 ∷ []) ∷
    step 0 1 answers (0 ∷ 1 ∷ []) ∷
    poll 0 answers (0 ∷ 3 ∷ 0 ∷ []) ∷
    poll 1 answers (0 ∷ 3 ∷ 0 ∷ []) ∷
    prepare (transfer 1 2 0) answers (22 ∷ 0 ∷ 0 ∷ []) ∷
    [])
    (1 ∷ 2 ∷ 3 ∷ 4 ∷ 1 ∷ 2 ∷ 3 ∷ 4 ∷ []) ∷
    -- ---- not of A to L: what the paper only runs, and its easy errors
    -- (2,4,8) with perm (2,0,1) becomes (8,2,4), and (2,2,3) becomes (3,2,2): read the other way round, (4,8,2) and (2,3,2). Against
    -- `perm_the_other_way`
    besides shows room (compact 3 1 (three 2 4 8)) (with_perm defaults (three 2 0 1))
    (record { answer = accepted_move 3 1 (8 ∷ 2 ∷ 4 ∷ 0 ∷ []) (8 ∷ 4 ∷ 1 ∷ 0 ∷ []) 64; span = 64 }) ∷
    besides shows move (compact 3 1 (three 2 2 3)) (with_perm defaults (three 2 0 1)) (up_to 12) (over 12)
    (accepted_move 3 1 (3 ∷ 2 ∷ 2 ∷ 0 ∷ []) (4 ∷ 2 ∷ 1 ∷ 0 ∷ []) 12) (1 ∷ 4 ∷ 7 ∷ 10 ∷ 2 ∷ 5 ∷ 8 ∷ 11 ∷ 3 ∷ 6 ∷ 9 ∷ 12 ∷ []) ∷
    -- the count of (2,4,8) from 1 is 32; from 3: 16. Against `count_from_the_rank`
    besides shows count (compact 3 1 (three 2 4 8)) 1 (record { status = 0; dim = 0; count = 32 }) ∷
    besides shows count (compact 3 1 (three 2 4 8)) 3 (no_count (fault 16 0)) ∷
    -- the most that a count can be is that of four shapes of 65,535, from 0; from 1 it is 65,535 to the third. Four shapes of 65,536
    -- would make 2^64, which 64 bits do not hold, but they are 3 at dimension 0; and 3 comes before 16. Against `count_in_32_bits`
    besides shows count (compact 4 1 (alike 65535)) 0 (record { status = 0; dim = 0; count = 18445618199572250625 }) ∷
    besides shows count (compact 4 1 (alike 65535)) 1 (record { status = 0; dim = 0; count = 281462092005375 }) ∷
    besides shows count (compact 4 1 (alike 65536)) 0 (no_count (fault 3 0)) ∷
    besides shows count (compact 2 1 (two 2 0)) 2 (no_count (fault 3 1)) ∷
    -- size 65,280 with pre 255 is accepted, 65,281 gives 10
    besides shows room (compact 1 1 (one 65535)) (with_pre (with_size defaults (one 65280)) (one 255))
    (record { answer = accepted_move 1 1 (65535 ∷ 0 ∷ 0 ∷ 0 ∷ []) (1 ∷ 0 ∷ 0 ∷ 0 ∷ []) 65535; span = 65535 }) ∷
    besides shows room (compact 1 1 (one 65535)) (with_pre (with_size defaults (one 65281)) (one 255))
    (record { answer = refused (fault 10 0); span = 0 }) ∷
    -- size 4,294,967,295 at offset 1: 32 bits would make the sum 0. It is 8 at dimension 0, of a move and of a sub-tensor. Against
    -- `size_and_offset_in_32_bits`, `sub_tensor_size_and_offset_in_32_bits`
    besides shows room (compact 1 1 (one 4)) (with_size (with_offset defaults (one 1)) (one 4294967295))
    (record { answer = refused (fault 8 0); span = 0 }) ∷
    besides shows sub (compact 1 1 (one 4)) (cut (one 1) (one 4294967295) 1) (up_to 4) (no_sub (fault 8 0)) [] ∷
    -- a sub-tensor of rank 0, with no unit dimension to remove: 14 comes before 15. Against `units_before_the_rank`
    besides shows sub (compact 2 1 (two 3 4)) (cut (two 1 1) (two 2 2) 0) (up_to 12) (no_sub (fault 14 0)) [] ∷
    -- (1,2) with strides (0, 2147483647): what 0 stands for is itself too large, 4 at dimension 0
    besides shows room (strided 2 1 (two 1 2) (stride2 (pos 0) (pos 2147483647))) defaults
    (record { answer = refused (fault 4 0); span = 0 }) ∷
    -- a sub-tensor of (3,4) keeps the resolved stride 4 of the whole plane: 0 would be resolved again, from its own shape, to 2. Against
    -- `zero_stride_in_sub_tensor`
    besides shows sub (compact 2 1 (two 3 4)) (cut (two 1 1) (two 2 2) 2) (up_to 12)
    (accepted_sub 2 1 (2 ∷ 2 ∷ 0 ∷ 0 ∷ []) (4 ∷ 1 ∷ 0 ∷ 0 ∷ []) 5) (6 ∷ 7 ∷ 8 ∷ 9 ∷ 10 ∷ 11 ∷ 12 ∷ []) ∷
    -- ---- strides below 0: a dimension that counts down
    -- (3) 1 2 3 by strides 1, 0 and -1: 1 2 3, 1 2 3 and 3 2 1. Against `sign_of_a_stride_dropped`, `words_from_2_to_the_31_refused`,
    -- `plain_sign_dropped`
    besides shows move (strided 1 1 (one 3) (stride1 (pos 1))) defaults (up_to 3) (over 3)
    (accepted_move 1 1 (3 ∷ 0 ∷ 0 ∷ 0 ∷ []) (1 ∷ 0 ∷ 0 ∷ 0 ∷ []) 3) (1 ∷ 2 ∷ 3 ∷ []) ∷
    besides shows move (strided 1 1 (one 3) (stride1 (pos 0))) defaults (up_to 3) (over 3)
    (accepted_move 1 1 (3 ∷ 0 ∷ 0 ∷ 0 ∷ []) (1 ∷ 0 ∷ 0 ∷ 0 ∷ []) 3) (1 ∷ 2 ∷ 3 ∷ []) ∷
    besides shows move (strided 1 1 (one 3) (stride1 (minus 1))) defaults (up_to 3) (over 3)
    (accepted_move 1 1 (3 ∷ 0 ∷ 0 ∷ 0 ∷ []) (1 ∷ 0 ∷ 0 ∷ 0 ∷ []) 3) (3 ∷ 2 ∷ 1 ∷ []) ∷
    -- (2,3) 1..6 with its rows read right to left, strides (0,-1): the 0 is 3 and counts up, so 3 2 1 6 5 4. Against
    -- `zero_stride_takes_the_sign_farther_in`
    besides shows move (strided 2 1 (two 2 3) (stride2 (pos 0) (minus 1))) defaults (up_to 6) (over 6)
    (accepted_move 2 1 (2 ∷ 3 ∷ 0 ∷ 0 ∷ []) (3 ∷ 1 ∷ 0 ∷ 0 ∷ []) 6) (3 ∷ 2 ∷ 1 ∷ 6 ∷ 5 ∷ 4 ∷ []) ∷
    -- upside down, strides (-3,0): the 0 is 1 and counts up, so 4 5 6 1 2 3. Against `zero_stride_takes_the_sign_farther_out`
    besides shows move (strided 2 1 (two 2 3) (stride2 (minus 3) (pos 0))) defaults (up_to 6) (over 6)
    (accepted_move 2 1 (2 ∷ 3 ∷ 0 ∷ 0 ∷ []) (3 ∷ 1 ∷ 0 ∷ 0 ∷ []) 6) (4 ∷ 5 ∷ 6 ∷ 1 ∷ 2 ∷ 3 ∷ []) ∷
    -- both: 6 5 4 3 2 1. Upside down with rows and columns exchanged, a quarter turn clockwise: 4 1, 5 2, 6 3
    besides shows move (strided 2 1 (two 2 3) (stride2 (minus 3) (minus 1))) defaults (up_to 6) (over 6)
    (accepted_move 2 1 (2 ∷ 3 ∷ 0 ∷ 0 ∷ []) (3 ∷ 1 ∷ 0 ∷ 0 ∷ []) 6) (6 ∷ 5 ∷ 4 ∷ 3 ∷ 2 ∷ 1 ∷ []) ∷
    besides shows move (strided 2 1 (two 2 3) (stride2 (minus 3) (pos 0))) (with_perm defaults (two 1 0)) (up_to 6) (over 6)
    (accepted_move 2 1 (3 ∷ 2 ∷ 0 ∷ 0 ∷ []) (2 ∷ 1 ∷ 0 ∷ 0 ∷ []) 6) (4 ∷ 1 ∷ 5 ∷ 2 ∷ 6 ∷ 3 ∷ []) ∷
    -- (5) 1..5 by stride -1 reads 5 4 3 2 1. Of it offset 1 and size 2 keep 4 3, whose end is not the plane's; offset 1 with step 2 keeps
    -- 4 2, and all of it with step 3 keeps 5 2. Against `mirrored_from_the_kept_end`, `steps_from_the_lowest_element`
    besides shows move (strided 1 1 (one 5) (stride1 (minus 1))) (with_size (with_offset defaults (one 1)) (one 2)) (up_to 5) (over 2)
    (accepted_move 1 1 (2 ∷ 0 ∷ 0 ∷ 0 ∷ []) (1 ∷ 0 ∷ 0 ∷ 0 ∷ []) 2) (4 ∷ 3 ∷ []) ∷
    besides shows move (strided 1 1 (one 5) (stride1 (minus 1))) (with_step (with_offset defaults (one 1)) (one 2)) (up_to 5) (over 2)
    (accepted_move 1 1 (2 ∷ 0 ∷ 0 ∷ 0 ∷ []) (1 ∷ 0 ∷ 0 ∷ 0 ∷ []) 2) (4 ∷ 2 ∷ []) ∷
    besides shows move (strided 1 1 (one 5) (stride1 (minus 1))) (with_step defaults (one 3)) (up_to 5) (over 2)
    (accepted_move 1 1 (2 ∷ 0 ∷ 0 ∷ 0 ∷ []) (1 ∷ 0 ∷ 0 ∷ 0 ∷ []) 2) (5 ∷ 2 ∷ []) ∷
    -- (2) 5 6 by stride -1 with a padded element before it: 0 6 5. Elements of two bytes keep theirs in order: 3 4 1 2
    besides shows move (strided 1 1 (one 2) (stride1 (minus 1))) (with_pre defaults (one 1)) (5 ∷ 6 ∷ []) (over 3)
    (accepted_move 1 1 (3 ∷ 0 ∷ 0 ∷ 0 ∷ []) (1 ∷ 0 ∷ 0 ∷ 0 ∷ []) 3) (0 ∷ 6 ∷ 5 ∷ []) ∷
    besides shows move (strided 1 2 (one 2) (stride1 (minus 1))) defaults (up_to 4) (over 4)
    (accepted_move 1 2 (2 ∷ 0 ∷ 0 ∷ 0 ∷ []) (1 ∷ 0 ∷ 0 ∷ 0 ∷ []) 4) (3 ∷ 4 ∷ 1 ∷ 2 ∷ []) ∷
    -- (3) by stride -2 spans five bytes, as by stride 2: 5 3 1, and four bytes are too few. Against `span_of_what_counts_up`
    besides shows move (strided 1 1 (one 3) (stride1 (minus 2))) defaults (up_to 5) (over 3)
    (accepted_move 1 1 (3 ∷ 0 ∷ 0 ∷ 0 ∷ []) (1 ∷ 0 ∷ 0 ∷ 0 ∷ []) 3) (5 ∷ 3 ∷ 1 ∷ []) ∷
    besides shows move (strided 1 1 (one 3) (stride1 (minus 2))) defaults (up_to 4) (over 3) (refused (fault 5 0)) (over 3) ∷
    -- K of (3,4) by strides (-4,-1): at (1,2) stand 6 5, whose lowest is 5, in byte 4. Copied from there by its stride -1 it is 6 5. Against
    -- `sub_tensor_starts_at_its_first_coordinate`, `sub_tensor_drops_the_signs`
    besides shows sub (strided 2 1 (two 3 4) (stride2 (minus 4) (minus 1))) (cut (two 1 2) (two 1 2) 1) (up_to 12)
    (signed_sub 1 1 (2 ∷ 0 ∷ 0 ∷ 0 ∷ []) (minus 1 ∷ pos 0 ∷ pos 0 ∷ pos 0 ∷ []) 4) (5 ∷ 6 ∷ 7 ∷ 8 ∷ 9 ∷ 10 ∷ 11 ∷ 12 ∷ []) ∷
    besides shows move (strided 1 1 (2 ∷ 0 ∷ 0 ∷ 0 ∷ []) (minus 1 ∷ pos 0 ∷ pos 0 ∷ pos 0 ∷ [])) defaults (5 ∷ 6 ∷ 7 ∷ 8 ∷ []) (over 2)
    (accepted_move 1 1 (2 ∷ 0 ∷ 0 ∷ 0 ∷ []) (1 ∷ 0 ∷ 0 ∷ 0 ∷ []) 2) (6 ∷ 5 ∷ []) ∷
    -- a unit dimension that stays keeps its sign, and a 0 beside it is resolved to a positive stride: (1,3) by (-7,0), all of it. Against
    -- `sub_tensor_drops_the_sign_of_a_unit`
    besides shows sub (strided 2 1 (two 1 3) (stride2 (minus 7) (pos 0))) (cut (two 0 0) (two 1 3) 2) (up_to 3)
    (signed_sub 2 1 (1 ∷ 3 ∷ 0 ∷ 0 ∷ []) (minus 7 ∷ pos 1 ∷ pos 0 ∷ pos 0 ∷ []) 0) (1 ∷ 2 ∷ 3 ∷ []) ∷
    -- the ends of the range, in the first dimension: the largest stride is taken for any shape, counting up or down, and spans
    -- 1 + 65,534 x 2,147,483,647 bytes; the least is 4, also for one element. Against `least_stride_accepted`
    besides shows room (strided 1 1 (one 65535) (stride1 (pos 2147483647))) defaults
    (record { answer = accepted_move 1 1 (65535 ∷ 0 ∷ 0 ∷ 0 ∷ []) (1 ∷ 0 ∷ 0 ∷ 0 ∷ []) 65535; span = 140733193322499 }) ∷
    besides shows room (strided 1 1 (one 65535) (stride1 (minus 2147483647))) defaults
    (record { answer = accepted_move 1 1 (65535 ∷ 0 ∷ 0 ∷ 0 ∷ []) (1 ∷ 0 ∷ 0 ∷ 0 ∷ []) 65535; span = 140733193322499 }) ∷
    besides shows move (strided 1 1 (one 65535) (stride1 (minus 2147483647))) defaults (up_to 3) (over 3) (refused (fault 5 0)) (over 3) ∷
    besides shows room (strided 1 1 (one 65535) (stride1 (minus 2147483648))) defaults (record { answer = refused (fault 4 0); span = 0 }) ∷
    besides shows room (strided 1 1 (one 1) (stride1 (minus 2147483648))) defaults (record { answer = refused (fault 4 0); span = 0 }) ∷
    -- further in: of shape 1 it leaves the 0 before it the same size; of shape 2 what is before it is 4
    besides shows room (strided 2 1 (two 2 1) (stride2 (pos 0) (minus 2147483647))) defaults
    (record { answer = accepted_move 2 1 (2 ∷ 1 ∷ 0 ∷ 0 ∷ []) (1 ∷ 1 ∷ 0 ∷ 0 ∷ []) 2; span = 2147483648 }) ∷
    besides shows room (strided 2 1 (two 2 2) (stride2 (minus 2147483647) (minus 2147483647))) defaults
    (record { answer = refused (fault 4 0); span = 0 }) ∷
    -- a size below its inner product is 4 whatever the sign: (2,3) by (-2,-1)
    besides shows room (strided 2 1 (two 2 3) (stride2 (minus 2) (minus 1))) defaults (record { answer = refused (fault 4 0); span = 0 }) ∷
    -- (2,3) 1..6 right to left as a transfer, in two steps of four and two: midway 3 2 1 6 are in place, and the rest is untouched
    besides shows stretch mirrored_transfer 0 4 (up_to 6 ++ over 6)
    (record { status = 0; dim = 0; count = 4 }) (up_to 6 ++ (3 ∷ 2 ∷ 1 ∷ 6 ∷ 99 ∷ 99 ∷ [])) ∷
    besides shows stretch mirrored_transfer 4 4 (up_to 6 ++ (3 ∷ 2 ∷ 1 ∷ 6 ∷ 99 ∷ 99 ∷ []))
    (record { status = 0; dim = 0; count = 2 }) (up_to 6 ++ (3 ∷ 2 ∷ 1 ∷ 6 ∷ 5 ∷ 4 ∷ [])) ∷
    -- ---- planes joined, and what 12 refuses
    -- (2,2) 1..4, then 5..8, into (2,4) by strides (4,1), offsets (0,0) and (0,2), over eight 9s: 1 2 5 6 3 4 7 8
    besides shows move (compact 2 1 (two 2 2)) (with_dst_stride (with_dst_offset defaults (two 0 0)) (two 4 1)) (up_to 4)
    (9 ∷ 9 ∷ 9 ∷ 9 ∷ 9 ∷ 9 ∷ 9 ∷ 9 ∷ [])
    (accepted_move 2 1 (2 ∷ 2 ∷ 0 ∷ 0 ∷ []) (4 ∷ 1 ∷ 0 ∷ 0 ∷ []) 6) (1 ∷ 2 ∷ 9 ∷ 9 ∷ 3 ∷ 4 ∷ 9 ∷ 9 ∷ []) ∷
    besides shows move (compact 2 1 (two 2 2)) (with_dst_stride (with_dst_offset defaults (two 0 2)) (two 4 1)) (5 ∷ 6 ∷ 7 ∷ 8 ∷ [])
    (1 ∷ 2 ∷ 9 ∷ 9 ∷ 3 ∷ 4 ∷ 9 ∷ 9 ∷ [])
    (accepted_move 2 1 (2 ∷ 2 ∷ 0 ∷ 0 ∷ []) (4 ∷ 1 ∷ 0 ∷ 0 ∷ []) 8) (1 ∷ 2 ∷ 5 ∷ 6 ∷ 3 ∷ 4 ∷ 7 ∷ 8 ∷ []) ∷
    -- with offset (0,3) its rows would run past their ends: 12 at dimension 1
    besides shows move (compact 2 1 (two 2 2)) (with_dst_stride (with_dst_offset defaults (two 0 3)) (two 4 1)) (5 ∷ 6 ∷ 7 ∷ 8 ∷ []) (over 9)
    (refused (fault 12 1)) (over 9) ∷
    -- (1,2,3) and (1,2,1) into (1,2,4), along channels: 11 12 13, 21 22 23 and 14, 24 give 11 12 13 14 21 22 23 24
    besides shows move (compact 3 1 (three 1 2 3)) (with_dst_stride (with_dst_offset defaults (three 0 0 0)) (three 8 4 1))
    (11 ∷ 12 ∷ 13 ∷ 21 ∷ 22 ∷ 23 ∷ []) (over 8)
    (accepted_move 3 1 (1 ∷ 2 ∷ 3 ∷ 0 ∷ []) (8 ∷ 4 ∷ 1 ∷ 0 ∷ []) 7) (11 ∷ 12 ∷ 13 ∷ 99 ∷ 21 ∷ 22 ∷ 23 ∷ 99 ∷ []) ∷
    besides shows move (compact 3 1 (three 1 2 1)) (with_dst_stride (with_dst_offset defaults (three 0 0 3)) (three 8 4 1)) (14 ∷ 24 ∷ [])
    (11 ∷ 12 ∷ 13 ∷ 99 ∷ 21 ∷ 22 ∷ 23 ∷ 99 ∷ [])
    (accepted_move 3 1 (1 ∷ 2 ∷ 1 ∷ 0 ∷ []) (8 ∷ 4 ∷ 1 ∷ 0 ∷ []) 8) (11 ∷ 12 ∷ 13 ∷ 14 ∷ 21 ∷ 22 ∷ 23 ∷ 24 ∷ []) ∷
    -- the first dimension has no row around it, only the limit: one byte at 65,535 needs 65,536 bytes, at 65,536 it is 12 at dimension 0
    besides shows room (compact 1 1 (one 1)) (with_dst_offset defaults (one 65535))
    (record { answer = accepted_move 1 1 (1 ∷ 0 ∷ 0 ∷ 0 ∷ []) (1 ∷ 0 ∷ 0 ∷ 0 ∷ []) 65536; span = 1 }) ∷
    besides shows room (compact 1 1 (one 1)) (with_dst_offset defaults (one 65536))
    (record { answer = refused (fault 12 0); span = 0 }) ∷
    -- so (1,2) 8 9 goes to row 3 of rows of two. Against `first_offset_below_its_stride`
    besides shows move (compact 2 1 (two 1 2)) (with_dst_stride (with_dst_offset defaults (two 3 0)) (two 2 1)) (8 ∷ 9 ∷ []) (over 8)
    (accepted_move 2 1 (1 ∷ 2 ∷ 0 ∷ 0 ∷ []) (2 ∷ 1 ∷ 0 ∷ 0 ∷ []) 8) (99 ∷ 99 ∷ 99 ∷ 99 ∷ 99 ∷ 99 ∷ 8 ∷ 9 ∷ []) ∷
    -- (2,2) at offset (0,1) by strides (4,2): 1 is below the stride 2, but (1 + 2) x 2 is above 4, and the first row would end in the second
    besides shows room (compact 2 1 (two 2 2)) (with_dst_stride (with_dst_offset defaults (two 0 1)) (two 4 2))
    (record { answer = refused (fault 12 1); span = 0 }) ∷
    -- (2,2) at offset (0,1): what stride 0 stands for is resolved from the extents alone, to 2, and 1 + 2 is above it
    besides shows room (compact 2 1 (two 2 2)) (with_dst_offset defaults (two 0 1))
    (record { answer = refused (fault 12 1); span = 0 }) ∷
    -- (3 + 1) x 1,073,741,824 is 2 to the 32: 32 bits would make it 0
    besides shows room (compact 2 1 (two 1 1)) (with_dst_stride (with_dst_offset defaults (two 0 3)) (two 2147483647 1073741824))
    (record { answer = refused (fault 12 1); span = 0 }) ∷
    -- dimension 1 runs past its row, dimension 2 has too large an offset: the lowest is named, whichever case it is. Against
    -- `destination_offset_names_the_highest`
    besides shows room (compact 3 1 (three 2 2 2)) (with_dst_offset defaults (three 0 1 65536))
    (record { answer = refused (fault 12 1); span = 0 }) ∷
    -- and the other way round
    besides shows room (compact 2 1 (two 2 2)) (with_dst_offset defaults (two 65536 1))
    (record { answer = refused (fault 12 0); span = 0 }) ∷
    -- ---- thinned rows with padding, whole and by steps
    -- (2,5) 1..10, step (1,2), a zero before and after each row: 0 1 3 5 0 0 6 8 10 0
    besides shows move (compact 2 1 (two 2 5)) thin_config (up_to 10) (over 10)
    (accepted_move 2 1 (2 ∷ 5 ∷ 0 ∷ 0 ∷ []) (5 ∷ 1 ∷ 0 ∷ 0 ∷ []) 10) (0 ∷ 1 ∷ 3 ∷ 5 ∷ 0 ∷ 0 ∷ 6 ∷ 8 ∷ 10 ∷ 0 ∷ []) ∷
    -- by steps of 3: the first stops in mid-row, 0 1 3; the second begins there and stops in the padding of the next row, 5 0 0; of
    -- ten elements four are left, and untouched
    besides shows transfers (up_to 10 ++ over 10)
    (prepare thin_transfer answers (0 ∷ 0 ∷ 0 ∷ []) ∷
    start 0 answers (0 ∷ []) ∷
    step 0 3 answers (0 ∷ 3 ∷ []) ∷
    step 0 3 answers (0 ∷ 3 ∷ []) ∷
    poll 0 answers (0 ∷ 2 ∷ 4 ∷ []) ∷
    [])
    (up_to 10 ++ (0 ∷ 1 ∷ 3 ∷ 5 ∷ 0 ∷ 0 ∷ 99 ∷ 99 ∷ 99 ∷ 99 ∷ [])) ∷
    -- ---- stretches of a move, by either engine: elements are numbered in destination order, the last coordinate fastest
    -- four elements of the same from number 3 on, 5 0 0 6: they begin in mid-row and stop in the middle of the next. Against
    -- `first_coordinate_fastest`, `plain_last_dimension_first`, `begins_with_its_row`, `budget_to_the_row_end`
    besides shows stretch thin_transfer 3 4 (up_to 10 ++ over 10)
    (record { status = 0; dim = 0; count = 4 }) (up_to 10 ++ (99 ∷ 99 ∷ 99 ∷ 5 ∷ 0 ∷ 0 ∷ 6 ∷ 99 ∷ 99 ∷ 99 ∷ [])) ∷
    -- a budget above what is left from number 7 on: 8 10 0, and three are reported. Against `stretch_reports_its_budget`
    besides shows stretch thin_transfer 7 100 (up_to 10 ++ over 10)
    (record { status = 0; dim = 0; count = 3 }) (up_to 10 ++ over 7 ++ (8 ∷ 10 ∷ 0 ∷ [])) ∷
    -- three of D, whose first row is padding: the last of that row and the two kept elements of the next, 0 5 6
    besides shows stretch padded_transfer 2 3 (5 ∷ 6 ∷ over 6)
    (record { status = 0; dim = 0; count = 3 }) (5 ∷ 6 ∷ 99 ∷ 99 ∷ 0 ∷ 5 ∷ 6 ∷ 99 ∷ []) ∷
    -- past the last of its six: none; in a memory that its destination leaves: 20, and nothing changes
    besides shows stretch padded_transfer 6 1 (5 ∷ 6 ∷ over 6) (record { status = 0; dim = 0; count = 0 }) (5 ∷ 6 ∷ over 6) ∷
    besides shows stretch padded_transfer 0 1 (5 ∷ 6 ∷ over 5) (record { status = 20; dim = 0; count = 0 }) (5 ∷ 6 ∷ over 5) ∷
    -- a destination that leaves the memory, of a plane of rank 0: 20 comes before 1. Against `leaving_part_after_the_move`
    besides shows stretch leaving_transfer 0 1 (over 9) (record { status = 20; dim = 0; count = 0 }) (over 9) ∷
    -- ---- transfers that are refused
    -- (2) from bytes 1..2 into 2..3, while another has byte 2 for its destination: 21 comes before 22. Against
    -- `other_slots_before_own_parts`. From bytes 0..1 into 2..3: 22, and the table is the one given, with one of (1) prepared in slot 0.
    -- Against `refused_prepare_gives_a_fresh_table`
    besides shows transfers (over 4)
    (prepare (transfer 1 0 2) answers (0 ∷ 0 ∷ 0 ∷ []) ∷
    prepare (transfer 2 1 2) answers (21 ∷ 0 ∷ 0 ∷ []) ∷
    prepare (transfer 2 0 2) answers (22 ∷ 0 ∷ 0 ∷ []) ∷
    poll 0 answers (0 ∷ 1 ∷ 1 ∷ []) ∷
    [])
    (over 4) ∷
    -- a table that is not sound: 18 over a memory of its length, and 17 over another, which comes first. Against
    -- `soundness_before_the_length`
    besides shows handed_in (unsound 4) (over 4) (start 0 answers (18 ∷ []) ∷ []) (over 4) ∷
    besides shows handed_in (unsound 4) (over 5) (start 0 answers (17 ∷ []) ∷ []) (over 5) ∷
    -- ---- parts on element boundaries, in a memory of 16 bytes
    -- (2) in elements of two bytes, from byte 1 into 8, and from 2 into 7: 34. Against `boundary_of_the_source_alone`. From 2 into 8 it is
    -- taken, and after a step of one element its two bytes, 3 4, are in place. Against `two_bytes_on_four`
    besides shows transfers (up_to 16)
    (prepare (transfer_of 2 2 1 8) answers (34 ∷ 0 ∷ 0 ∷ []) ∷
    prepare (transfer_of 2 2 2 7) answers (34 ∷ 0 ∷ 0 ∷ []) ∷
    prepare (transfer_of 2 2 2 8) answers (0 ∷ 0 ∷ 0 ∷ []) ∷
    start 0 answers (0 ∷ []) ∷
    step 0 1 answers (0 ∷ 1 ∷ []) ∷
    [])
    (up_to 8 ++ (3 ∷ 4 ∷ 11 ∷ 12 ∷ 13 ∷ 14 ∷ 15 ∷ 16 ∷ [])) ∷
    -- elements of four bytes, from byte 2 into 8 and from 4 into 10: multiples of two are not enough. Against `four_bytes_on_two`
    besides shows transfers (over 16)
    (prepare (transfer_of 4 1 2 8) answers (34 ∷ 0 ∷ 0 ∷ []) ∷
    prepare (transfer_of 4 1 4 10) answers (34 ∷ 0 ∷ 0 ∷ []) ∷
    prepare (transfer_of 4 1 4 8) answers (0 ∷ 0 ∷ 0 ∷ []) ∷
    [])
    (over 16) ∷
    -- elements of three bytes may start anywhere: from byte 1 into 8, all of (2) in one step. Against `three_bytes_on_a_boundary`
    besides shows transfers (up_to 16)
    (prepare (transfer_of 3 2 1 8) answers (0 ∷ 0 ∷ 0 ∷ []) ∷
    start 0 answers (0 ∷ []) ∷
    step 0 2 answers (0 ∷ 2 ∷ []) ∷
    [])
    (up_to 8 ++ (2 ∷ 3 ∷ 4 ∷ 5 ∷ 6 ∷ 7 ∷ 15 ∷ 16 ∷ [])) ∷
    -- lengths may be anything: five bytes for two elements of two. Against `boundary_of_the_length`
    besides shows transfers (over 16)
    (prepare (transfer_in 0 5 8 5) answers (0 ∷ 0 ∷ 0 ∷ []) ∷
    [])
    (over 16) ∷
    -- a destination of three bytes, which is too short, and a source from byte 1: 13 comes before 34. Against `boundary_before_the_move`.
    -- From byte 1 into 2, where the parts meet: 34 comes before 21. Against `boundary_after_own_parts`. From 0 into 2: 21. From 3 into a
    -- part that another has: 34, which comes before 22. Against `other_slots_before_the_boundary`. From 4: 22
    besides shows transfers (over 16)
    (prepare (transfer_in 1 4 8 3) answers (13 ∷ 0 ∷ 0 ∷ []) ∷
    prepare (transfer_of 2 2 1 2) answers (34 ∷ 0 ∷ 0 ∷ []) ∷
    prepare (transfer_of 2 2 0 2) answers (21 ∷ 0 ∷ 0 ∷ []) ∷
    prepare (transfer_of 2 2 0 8) answers (0 ∷ 0 ∷ 0 ∷ []) ∷
    prepare (transfer_of 2 2 3 8) answers (34 ∷ 0 ∷ 0 ∷ []) ∷
    prepare (transfer_of 2 2 4 8) answers (22 ∷ 0 ∷ 0 ∷ []) ∷
    [])
    (over 16) ∷
    -- by itself, a stretch: 34, and nothing changes. Against `advance_off_a_boundary`
    besides shows stretch (transfer_of 2 2 1 8) 0 2 (over 16) (record { status = 34; dim = 0; count = 0 }) (over 16) ∷
    -- a table with such a slot, prepared, running or done, is not sound: 18. Against `sound_off_a_boundary`. With the source at byte 2 it
    -- is sound, and a poll tells of the transfer
    besides shows handed_in (holding (transfer_of 2 2 1 8) 16 1 0) (over 16) (start 0 answers (18 ∷ []) ∷ []) (over 16) ∷
    besides shows handed_in (holding (transfer_of 2 2 1 8) 16 2 1) (over 16) (step 0 1 answers (18 ∷ 0 ∷ []) ∷ []) (over 16) ∷
    besides shows handed_in (holding (transfer_of 2 2 1 8) 16 3 2) (over 16) (release 0 answers (18 ∷ []) ∷ []) (over 16) ∷
    besides shows handed_in (holding (transfer_of 2 2 2 8) 16 2 1) (over 16) (poll 0 answers (0 ∷ 2 ∷ 1 ∷ []) ∷ []) (over 16) ∷
    -- ---- padding that isn't black. 67,305,985 is 4 x 2^24 + 3 x 2^16 + 2 x 2^8 + 1, so its bytes are 1 2 3 4, the lowest first
    -- D with fill 128: 128 128 128 5 6 128
    besides shows move (compact 2 1 (two 1 2)) (with_fill (with_post (with_pre defaults (two 1 0)) (two 0 1)) 128) (5 ∷ 6 ∷ []) (over 6)
    (accepted_move 2 1 (2 ∷ 3 ∷ 0 ∷ 0 ∷ []) (3 ∷ 1 ∷ 0 ∷ 0 ∷ []) 6) (128 ∷ 128 ∷ 128 ∷ 5 ∷ 6 ∷ 128 ∷ []) ∷
    -- one element, one before it and one after, the room longer than they need: of the fill as many low bytes as the element size are
    -- stored, and no move refuses the others
    besides shows move (compact 1 1 (one 1)) (with_fill (with_post (with_pre defaults (one 1)) (one 1)) 67305985) (9 ∷ []) (over 6)
    (accepted_move 1 1 (3 ∷ 0 ∷ 0 ∷ 0 ∷ []) (1 ∷ 0 ∷ 0 ∷ 0 ∷ []) 3) (1 ∷ 9 ∷ 1 ∷ 99 ∷ 99 ∷ 99 ∷ []) ∷
    besides shows move (compact 1 2 (one 1)) (with_fill (with_post (with_pre defaults (one 1)) (one 1)) 67305985) (9 ∷ 8 ∷ []) (over 8)
    (accepted_move 1 2 (3 ∷ 0 ∷ 0 ∷ 0 ∷ []) (1 ∷ 0 ∷ 0 ∷ 0 ∷ []) 6) (1 ∷ 2 ∷ 9 ∷ 8 ∷ 1 ∷ 2 ∷ 99 ∷ 99 ∷ []) ∷
    besides shows move (compact 1 4 (one 1)) (with_fill (with_post (with_pre defaults (one 1)) (one 1)) 67305985) (9 ∷ 8 ∷ 7 ∷ 6 ∷ []) (over 13)
    (accepted_move 1 4 (3 ∷ 0 ∷ 0 ∷ 0 ∷ []) (1 ∷ 0 ∷ 0 ∷ 0 ∷ []) 12)
    (1 ∷ 2 ∷ 3 ∷ 4 ∷ 9 ∷ 8 ∷ 7 ∷ 6 ∷ 1 ∷ 2 ∷ 3 ∷ 4 ∷ 99 ∷ []) ∷
    -- (2,1) 1 2 with a 7 after each row, by strides (3,1): the gap between the rows stays
    besides shows move (compact 2 1 (two 2 1)) (with_dst_stride (with_fill (with_post defaults (two 0 1)) 7) (two 3 1)) (1 ∷ 2 ∷ []) (over 5)
    (accepted_move 2 1 (2 ∷ 2 ∷ 0 ∷ 0 ∷ []) (3 ∷ 1 ∷ 0 ∷ 0 ∷ []) 5) (1 ∷ 7 ∷ 99 ∷ 2 ∷ 7 ∷ []) ∷
    -- one byte with a 7 before and after, as a transfer, a step an element; released, the slot is all zero again, so that the table is
    -- sound and takes the next
    besides shows transfers (5 ∷ over 3)
    (prepare filled_transfer answers (0 ∷ 0 ∷ 0 ∷ []) ∷
    start 0 answers (0 ∷ []) ∷
    step 0 1 answers (0 ∷ 1 ∷ []) ∷
    step 0 1 answers (0 ∷ 1 ∷ []) ∷
    step 0 9 answers (0 ∷ 1 ∷ []) ∷
    release 0 answers (0 ∷ []) ∷
    prepare filled_transfer answers (0 ∷ 0 ∷ 0 ∷ []) ∷
    [])
    (5 ∷ 7 ∷ 5 ∷ 7 ∷ []) ∷
    -- ---- pixels of three bytes
    -- (2,2), bytes 1..12, perm (1,0): 1 2 3 7 8 9 4 5 6 10 11 12
    besides shows move (compact 2 3 (two 2 2)) (with_perm defaults (two 1 0)) (up_to 12) (over 12)
    (accepted_move 2 3 (2 ∷ 2 ∷ 0 ∷ 0 ∷ []) (2 ∷ 1 ∷ 0 ∷ 0 ∷ []) 12)
    (1 ∷ 2 ∷ 3 ∷ 7 ∷ 8 ∷ 9 ∷ 4 ∷ 5 ∷ 6 ∷ 10 ∷ 11 ∷ 12 ∷ []) ∷
    -- without permutation, pre (0,1) with fill 0x332211, which is 3,351,057: 0x11 0x22 0x33, which are 17 34 51, before each row
    besides shows move (compact 2 3 (two 2 2)) (with_fill (with_pre defaults (two 0 1)) 3351057) (up_to 12) (over 18)
    (accepted_move 2 3 (2 ∷ 3 ∷ 0 ∷ 0 ∷ []) (3 ∷ 1 ∷ 0 ∷ 0 ∷ []) 18)
    (17 ∷ 34 ∷ 51 ∷ 1 ∷ 2 ∷ 3 ∷ 4 ∷ 5 ∷ 6 ∷ 17 ∷ 34 ∷ 51 ∷ 7 ∷ 8 ∷ 9 ∷ 10 ∷ 11 ∷ 12 ∷ []) ∷
    -- one pixel, one before it and one after, into a byte more than they need: the fourth byte of the fill goes nowhere
    besides shows move (compact 1 3 (one 1)) (with_fill (with_post (with_pre defaults (one 1)) (one 1)) 67305985) (9 ∷ 8 ∷ 7 ∷ []) (over 10)
    (accepted_move 1 3 (3 ∷ 0 ∷ 0 ∷ 0 ∷ []) (1 ∷ 0 ∷ 0 ∷ 0 ∷ []) 9) (1 ∷ 2 ∷ 3 ∷ 9 ∷ 8 ∷ 7 ∷ 1 ∷ 2 ∷ 3 ∷ 99 ∷ []) ∷
    -- (2,1), bytes 1..6, by strides (2,1): a gap of a pixel stays, and nine bytes are enough. Into eight: 13. From five: 5. Against
    -- `span_rounds_three_bytes_up`, `need_rounds_three_bytes_up`
    besides shows move (compact 2 3 (two 2 1)) (with_dst_stride defaults (two 2 1)) (up_to 6) (over 9)
    (accepted_move 2 3 (2 ∷ 1 ∷ 0 ∷ 0 ∷ []) (2 ∷ 1 ∷ 0 ∷ 0 ∷ []) 9) (1 ∷ 2 ∷ 3 ∷ 99 ∷ 99 ∷ 99 ∷ 4 ∷ 5 ∷ 6 ∷ []) ∷
    besides shows move (compact 2 3 (two 2 1)) (with_dst_stride defaults (two 2 1)) (up_to 6) (over 8)
    (refused (fault 13 0)) (over 8) ∷
    besides shows move (compact 2 3 (two 2 1)) (with_dst_stride defaults (two 2 1)) (up_to 5) (over 9)
    (refused (fault 5 0)) (over 9) ∷
    -- the second row of (2,2) as a sub-tensor starts at byte 2 x 3
    besides shows sub (compact 2 3 (two 2 2)) (cut (two 1 0) (two 1 2) 1) (up_to 12)
    (accepted_sub 1 3 (2 ∷ 0 ∷ 0 ∷ 0 ∷ []) (1 ∷ 0 ∷ 0 ∷ 0 ∷ []) 6) (7 ∷ 8 ∷ 9 ∷ 10 ∷ 11 ∷ 12 ∷ []) ∷
    -- as a transfer of (2), after a step of one element: three bytes are in place, and the rest is untouched
    besides shows transfers (up_to 6 ++ over 6)
    (prepare (transfer_of 3 2 0 6) answers (0 ∷ 0 ∷ 0 ∷ []) ∷
    start 0 answers (0 ∷ []) ∷
    step 0 1 answers (0 ∷ 1 ∷ []) ∷
    poll 0 answers (0 ∷ 2 ∷ 1 ∷ []) ∷
    [])
    (up_to 6 ++ (1 ∷ 2 ∷ 3 ∷ 99 ∷ 99 ∷ 99 ∷ [])) ∷
    -- the next above 4, and 0: J's shape with either is 2, which comes before 3
    besides shows room (compact 2 5 (two 0 70000)) defaults (record { answer = refused (fault 2 0); span = 0 }) ∷
    besides shows room (compact 2 0 (two 0 70000)) defaults (record { answer = refused (fault 2 0); span = 0 }) ∷
    -- ---- one pixel, before anything is moved; past the rank coordinates are 9. Against `pixel_looks_past_the_rank`
    -- A at (2,1), the last of either dimension: 6. By source dimension it would be outside. Against `pixel_by_source_dimension`,
    -- `pixel_refuses_the_last_coordinate`
    besides shows pixel (compact 2 1 (two 2 3)) (with_perm defaults (two 1 0)) (up_to 6) (two 2 1) (kept_pixel (6 ∷ 0 ∷ 0 ∷ 0 ∷ [])) ∷
    -- D at (0,0): 0, padding; at (1,1): 6; at (1,2): 0, padding behind
    besides shows pixel (compact 2 1 (two 1 2)) (with_post (with_pre defaults (two 1 0)) (two 0 1)) (5 ∷ 6 ∷ []) (two 0 0)
    (padded_pixel (0 ∷ 0 ∷ 0 ∷ 0 ∷ [])) ∷
    besides shows pixel (compact 2 1 (two 1 2)) (with_post (with_pre defaults (two 1 0)) (two 0 1)) (5 ∷ 6 ∷ []) (two 1 1)
    (kept_pixel (6 ∷ 0 ∷ 0 ∷ 0 ∷ [])) ∷
    besides shows pixel (compact 2 1 (two 1 2)) (with_post (with_pre defaults (two 1 0)) (two 0 1)) (5 ∷ 6 ∷ []) (two 1 2)
    (padded_pixel (0 ∷ 0 ∷ 0 ∷ 0 ∷ [])) ∷
    -- G at (1,1): 6; at (1,0): 0, padding
    besides shows pixel (compact 2 1 (two 1 2)) (with_perm (with_pre defaults (two 1 0)) (two 1 0)) (5 ∷ 6 ∷ []) (two 1 1)
    (kept_pixel (6 ∷ 0 ∷ 0 ∷ 0 ∷ [])) ∷
    besides shows pixel (compact 2 1 (two 1 2)) (with_perm (with_pre defaults (two 1 0)) (two 1 0)) (5 ∷ 6 ∷ []) (two 1 0)
    (padded_pixel (0 ∷ 0 ∷ 0 ∷ 0 ∷ [])) ∷
    -- E at (0,1): 9, wherever its destination is to go. I at (1): 5 6. (3) 1 2 3 by stride -1, at (0): 3
    besides shows pixel (compact 2 1 (two 1 2)) (with_dst_stride (with_dst_offset defaults (two 1 0)) (two 2 1)) (8 ∷ 9 ∷ []) (two 0 1)
    (kept_pixel (9 ∷ 0 ∷ 0 ∷ 0 ∷ [])) ∷
    besides shows pixel (compact 1 2 (one 3)) (with_offset defaults (one 1)) (up_to 6) (one 1) (kept_pixel (5 ∷ 6 ∷ 0 ∷ 0 ∷ [])) ∷
    besides shows pixel (strided 1 1 (one 3) (stride1 (minus 1))) defaults (up_to 3) (one 0) (kept_pixel (3 ∷ 0 ∷ 0 ∷ 0 ∷ [])) ∷
    -- D with fill 128, at (0,0): 128. Of a fill of bytes 1 2 3 4, three for an element of three bytes, and then 0. Against
    -- `pixel_keeps_unused_bytes`
    besides shows pixel (compact 2 1 (two 1 2)) (with_fill (with_post (with_pre defaults (two 1 0)) (two 0 1)) 128) (5 ∷ 6 ∷ []) (two 0 0)
    (padded_pixel (128 ∷ 0 ∷ 0 ∷ 0 ∷ [])) ∷
    besides shows pixel (compact 1 3 (one 1)) (with_fill (with_pre defaults (one 1)) 67305985) (9 ∷ 8 ∷ 7 ∷ []) (one 0)
    (padded_pixel (1 ∷ 2 ∷ 3 ∷ 0 ∷ [])) ∷
    -- (2) 0 7 with pre 1 and fill 7: 7, padding; 0, which is kept; and 7, which is kept. Against `pixel_padding_told_by_its_bytes`
    besides shows pixel (compact 1 1 (one 2)) (with_fill (with_pre defaults (one 1)) 7) (0 ∷ 7 ∷ []) (one 0) (padded_pixel (7 ∷ 0 ∷ 0 ∷ 0 ∷ [])) ∷
    besides shows pixel (compact 1 1 (one 2)) (with_fill (with_pre defaults (one 1)) 7) (0 ∷ 7 ∷ []) (one 1) (kept_pixel (0 ∷ 0 ∷ 0 ∷ 0 ∷ [])) ∷
    besides shows pixel (compact 1 1 (one 2)) (with_fill (with_pre defaults (one 1)) 7) (0 ∷ 7 ∷ []) (one 2) (kept_pixel (7 ∷ 0 ∷ 0 ∷ 0 ∷ [])) ∷
    -- A, whose extents are (3,2), at (3,0): 35 at dimension 0; at (0,2): at dimension 1; at (3,2): the lowest is named. Against
    -- `pixel_names_the_highest_dimension`
    besides shows pixel (compact 2 1 (two 2 3)) (with_perm defaults (two 1 0)) (up_to 6) (two 3 0) (no_pixel 35 0) ∷
    besides shows pixel (compact 2 1 (two 2 3)) (with_perm defaults (two 1 0)) (up_to 6) (two 0 2) (no_pixel 35 1) ∷
    besides shows pixel (compact 2 1 (two 2 3)) (with_perm defaults (two 1 0)) (up_to 6) (two 3 2) (no_pixel 35 0) ∷
    -- a destination offset that is too large in dimension 1, and a coordinate that is outside in dimension 0: 12 comes first. Against
    -- `pixel_asks_the_coordinate_before_the_destination`. So does 5, of a source that is a byte too short. Against
    -- `pixel_asks_the_coordinate_before_the_source`
    besides shows pixel (compact 2 1 (two 2 3)) (with_dst_offset defaults (two 0 65536)) (up_to 6) (two 2 0) (no_pixel 12 1) ∷
    besides shows pixel (compact 2 1 (two 2 3)) defaults (up_to 5) (two 2 0) (no_pixel 5 0) ∷
    -- one element that would go 140,735,340,806,145 bytes into its destination: no room is asked for. Against `pixel_needs_a_destination`
    besides shows pixel (compact 2 1 (two 1 1)) (with_dst_stride (with_dst_offset defaults (two 65535 0)) (two 2147483647 1)) (9 ∷ []) (two 0 0)
    (kept_pixel (9 ∷ 0 ∷ 0 ∷ 0 ∷ [])) ∷
    -- ---- records
    -- A's 131 bytes, both ways. Against `version_big_endian`
    besides shows write turn_tensor turn_config (over 131) none turn_record ∷
    besides shows read turn_record (reading turn_tensor turn_config) ∷
    -- a byte too few: 25; another mark: 26; version 257, whose low byte is 1: 27
    besides shows read (take 130 turn_record) (no_reading (fault 25 0)) ∷
    besides shows read (set turn_record 2 87) (no_reading (fault 26 0)) ∷
    besides shows read (set turn_record 4 1) (no_reading (fault 27 0)) ∷
    -- permutation entry 3 and post entry 2 are not 0: 28 names the lower dimension, and nothing changes. Against
    -- `tail_names_the_highest`
    besides shows write turn_tensor (with_post (with_perm turn_config (1 ∷ 0 ∷ 0 ∷ 7 ∷ [])) (0 ∷ 0 ∷ 5 ∷ 0 ∷ [])) (over 131)
    (fault 28 2) (over 131) ∷
    -- A's record with strides (-3,-1), both ways: -3 is fd ff ff ff, which are 253 255 255 255, and -1 is ff ff ff ff. Against
    -- `record_words_as_sign_and_size`
    besides shows write mirrored_tensor turn_config (over 131) none mirrored_record ∷
    besides shows read mirrored_record (reading mirrored_tensor turn_config) ∷
    -- and with a stride of -1 past its rank: 28 at dimension 2. Against `negative_entry_past_the_rank`
    besides shows write (strided 2 1 (2 ∷ 3 ∷ 0 ∷ 0 ∷ []) (minus 3 ∷ minus 1 ∷ minus 1 ∷ pos 0 ∷ [])) turn_config (over 131)
    (fault 28 2) (over 131) ∷
    -- ---- records of version 2: 135 bytes, of which the last four are the fill
    -- A with a fill of 128, both ways
    besides shows write turn_tensor (with_fill turn_config 128) (over 135) none filled_record ∷
    besides shows read filled_record (reading turn_tensor (with_fill turn_config 128)) ∷
    -- a room of the other version's length: 25, and nothing changes; bytes between the two lengths: 25
    besides shows write turn_tensor turn_config (over 135) (fault 25 0) (over 135) ∷
    besides shows write turn_tensor (with_fill turn_config 128) (over 131) (fault 25 0) (over 131) ∷
    besides shows read (take 134 filled_record) (no_reading (fault 25 0)) ∷
    -- version 2 in 131 bytes, and version 1 in 135: 27. Against `version_1_in_135_bytes`
    besides shows read version_two (no_reading (fault 27 0)) ∷
    besides shows read (set filled_record 3 1) (no_reading (fault 27 0)) ∷
    -- a fill of 0, and one with a byte past the one of an element: 28 at dimension 0. Against `version_2_with_fill_0`
    besides shows read (set filled_record 131 0) (no_reading (fault 28 0)) ∷
    besides shows read (set filled_record 132 1) (no_reading (fault 28 0)) ∷
    -- elements of three bytes, both ways: all three bytes of the fill are used, and a fourth is 28. Against
    -- `fourth_byte_of_a_fill_for_three`
    besides shows write (turn_in 3) (with_fill turn_config 3351057) (over 135) none pixel_record ∷
    besides shows read pixel_record (reading (turn_in 3) (with_fill turn_config 3351057)) ∷
    besides shows read (set pixel_record 134 1) (no_reading (fault 28 0)) ∷
    -- element size 5: version 1 does not look at it, of version 2 it is 2
    besides shows read (set turn_record 6 5) (reading (turn_in 5) turn_config) ∷
    besides shows read (set filled_record 6 5) (no_reading (fault 2 0)) ∷
    -- and with an entry past the rank besides: 2 comes before 28. Against `version_2_asks_the_size_last`
    besides shows read (set (set filled_record 6 5) 130 7) (no_reading (fault 2 0)) ∷
    -- the last post entry and a fill of 0: 28 names dimension 3, and the fill's, at dimension 0, comes behind it. Against
    -- `version_2_asks_the_fill_before_entries`
    besides shows read (set (set filled_record 131 0) 130 7) (no_reading (fault 28 3)) ∷
    -- ---- lists
    -- a list of no records; past the last it is 39, and 39 again
    besides shows list (head_of 0) 0 0 (no_record ∷ no_record ∷ []) ∷
    -- three records, the second all zeros, so without its mark: it has its number and 26, and the third is still read. Against
    -- `bad_record_ends_the_list`, `record_numbers_from_one`, `reader_stays_at_its_record`, `number_past_the_last`
    besides shows list (head_of 3 ++ turn_record ++ replicate 131 0 ++ turn_record) 0 3
    (turn_numbered 0 ∷ record { number = 1; reading = no_reading (fault 26 0) } ∷ turn_numbered 2 ∷ no_record ∷ no_record ∷ []) ∷
    -- a record whose version says 2: it has 131 bytes, which are not that version's length, so it is 27
    besides shows list (head_of 1 ++ version_two) 0 1 (record { number = 0; reading = no_reading (fault 27 0) } ∷ []) ∷
    -- a count that the bytes do not have, one more and one less: 30, and no records. Against `bytes_behind_a_list`
    besides shows list (head_of 2 ++ turn_record) 30 0 (no_record ∷ []) ∷
    besides shows list (head_of 0 ++ turn_record) 30 0 (no_record ∷ []) ∷
    -- six bytes: 25; a record in a list's place: 26; version 257, whose low byte is 1: 27
    besides shows list (82 ∷ 77 ∷ 76 ∷ 1 ∷ 0 ∷ 0 ∷ []) 25 0 (no_record ∷ []) ∷
    besides shows list turn_record 26 0 (no_record ∷ []) ∷
    besides shows list (82 ∷ 77 ∷ 76 ∷ 1 ∷ 1 ∷ 0 ∷ 0 ∷ []) 27 0 (no_record ∷ []) ∷
    -- started in nine bytes the last two stay; in six: 38, and nothing changes. Against `start_clears_what_is_behind`
    besides shows begins (over 9) 0 (head_of 0 ++ (99 ∷ 99 ∷ [])) ∷
    besides shows begins (over 6) 38 (over 6) ∷
    -- A's move behind no record, in a buffer with one byte more than it takes: 138 bytes, and that byte stays
    besides shows append (head_of 0 ++ over 132) 7 turn_tensor turn_config
    (record { status = 0; dim = 0; length = 138 }) (head_of 1 ++ turn_record ++ (99 ∷ [])) ∷
    -- a byte too few: 38; a list said to be longer than the buffer: 25. Against `list_past_its_buffer_has_no_room`
    besides shows append (head_of 0 ++ over 130) 7 turn_tensor turn_config (no_append (fault 38 0)) (head_of 0 ++ over 130) ∷
    besides shows append (head_of 0 ++ over 131) 139 turn_tensor turn_config (no_append (fault 25 0)) (head_of 0 ++ over 131) ∷
    -- an entry past the rank: 28 names dimension 3, and nothing changes; a bad record before it does not matter
    besides shows append (head_of 1 ++ over 262) 138 turn_tensor (with_pre turn_config (0 ∷ 0 ∷ 0 ∷ 5 ∷ []))
    (no_append (fault 28 3)) (head_of 1 ++ over 262) ∷
    besides shows append (head_of 1 ++ over 262) 138 turn_tensor turn_config
    (record { status = 0; dim = 0; length = 269 }) (head_of 2 ++ over 131 ++ turn_record) ∷
    -- a fill, which a list does not hold: 27, after 28, and nothing changes
    besides shows append (head_of 0 ++ over 131) 7 turn_tensor (with_fill turn_config 128) (no_append (fault 27 0)) (head_of 0 ++ over 131) ∷
    besides shows append (head_of 0 ++ over 131) 7 turn_tensor (with_fill (with_pre turn_config (0 ∷ 0 ∷ 5 ∷ 0 ∷ [])) 128)
    (no_append (fault 28 2)) (head_of 0 ++ over 131) ∷
    -- ---- room in the working memory
    -- one block of none taken, and all 64; one of all taken: 32
    besides shows room_for 0 1 (grant 0 1) ∷
    besides shows room_for 0 64 (grant 0 all_blocks) ∷
    besides shows room_for all_blocks 1 (no_grant 32 all_blocks) ∷
    -- blocks 1 and 6 taken, which is 66: block 0 is free by itself, and two neighbours are free from block 2 on; four are just 2 to 5, and
    -- five from 7 on. Against `request_takes_the_highest_run`
    besides shows room_for 66 1 (grant 0 67) ∷
    besides shows room_for 66 2 (grant 2 78) ∷
    besides shows room_for 66 4 (grant 2 126) ∷
    besides shows room_for 66 5 (grant 7 4034) ∷
    -- the first and the last block free are no neighbours: 32. Against `request_wraps_round_the_end`
    besides shows room_for inner_blocks 2 (no_grant 32 inner_blocks) ∷
    -- 32 blocks free, and no two neighbours
    besides shows room_for odd_blocks 2 (no_grant 32 odd_blocks) ∷
    besides shows room_for odd_blocks 1 (grant 0 12297829382473034411) ∷
    -- no block, and 65: 31, also where none is free
    besides shows room_for 66 0 (no_grant 31 66) ∷
    besides shows room_for all_blocks 65 (no_grant 31 all_blocks) ∷
    -- how many are free, and before the first taken one. Against `free_before_counts_all_free`
    besides shows blocks 0 64 64 ∷
    besides shows blocks 66 62 1 ∷
    besides shows blocks odd_blocks 32 1 ∷
    besides shows blocks all_blocks 0 0 ∷
    besides shows blocks 9223372036854775808 63 63 ∷
    -- a 64th of 1,000 bytes is 15, rounded down: three blocks from the third on, and all. Against `blocks_rounded_up`
    besides shows placed_run 1000 2 3 (bytes 30 45) ∷
    besides shows placed_run 1000 0 64 (bytes 0 960) ∷
    -- of 256 bytes a block has 4, so every run starts at a multiple of 4; of 320 it has 5, and the second starts at byte 5
    besides shows placed_run 256 1 2 (bytes 4 8) ∷
    besides shows placed_run 320 1 2 (bytes 5 10) ∷
    -- the longest memory, whose blocks are of 33,554,431 bytes; one byte more, and 63 bytes: 17, also for a run that there is not
    besides shows placed_run 2147483647 63 1 (bytes 2113929153 33554431) ∷
    besides shows placed_run 2147483648 0 1 (no_bytes 17) ∷
    besides shows placed_run 63 0 65 (no_bytes 17) ∷
    -- a run that ends past the last block, also where 32 bits would wrap: 31
    besides shows placed_run 64 60 5 (no_bytes 31) ∷
    besides shows placed_run 64 4294967295 1 (no_bytes 31) ∷
    -- blocks 1, 2 and 3 taken, which is 14: all three given back, or two of them
    besides shows gives_back (fresh_table 64) 14 1 3 (back 0 0) ∷
    besides shows gives_back (fresh_table 64) 14 1 2 (back 0 8) ∷
    -- a block of the run not taken: 33; past the end: 31. Against `give_back_past_the_end_is_33`
    besides shows gives_back (fresh_table 64) 14 3 2 (back 33 14) ∷
    besides shows gives_back (fresh_table 64) all_blocks 63 2 (back 31 all_blocks) ∷
    besides shows gives_back (fresh_table 64) 14 1 0 (back 31 14) ∷
    -- a table for 63 bytes: 17, also if it is not sound; one that is not sound: 18, whatever the run. Against
    -- `give_back_asks_the_run_before_the_table`
    besides shows gives_back (fresh_table 63) 14 1 3 (back 17 14) ∷
    besides shows gives_back (unsound 63) 14 1 3 (back 17 14) ∷
    besides shows gives_back (unsound 64) 14 63 2 (back 18 14) ∷
    -- a table above the limit is not sound: 18
    besides shows gives_back (fresh_table 2147483648) 14 1 3 (back 18 14) ∷
    -- a prepared transfer from bytes 2 and 3, which are blocks 2 and 3, into 8 and 9: neither can be given back, and what lies between
    -- can. Against `give_back_looks_at_running_slots`, `give_back_looks_at_destinations`
    besides shows gives_back (busy 64 1 0) all_blocks 3 1 (back 33 all_blocks) ∷
    besides shows gives_back (busy 64 1 0) all_blocks 8 2 (back 33 all_blocks) ∷
    besides shows gives_back (busy 64 1 0) all_blocks 4 4 (back 0 18446744073709551375) ∷
    -- and so it is while it runs, and when it is done
    besides shows gives_back (busy 64 2 1) all_blocks 2 1 (back 33 all_blocks) ∷
    besides shows gives_back (busy 64 3 2) all_blocks 9 1 (back 33 all_blocks) ∷
    -- in 127 bytes a block has one byte, so block 4 is byte 4: rounded up it would be bytes 8 and 9
    besides shows gives_back (busy 127 1 0) all_blocks 4 1 (back 0 18446744073709551599) ∷
    []
