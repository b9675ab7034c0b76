-- The move: kept counts, extents, destination strides and need; the numbers of refusal 5 to 13; the answers.
use Rattle.std.specs.Prelude.{ℕ, ◌+◌, ◌-◌, ◌*◌, ◌/◌, Bool, ◌||◌, ◌&&◌, List, ltb, leb, eqb}
use Rattle.plane.specs.declared.Tensor.{Tensor}
use Rattle.plane.specs.declared.Config.{Config}
use Rattle.faults.specs.declared.Fault.{Fault}
use Rattle.plane.specs.declared.Answer.{Answer}
use Rattle.plane.specs.declared.RoomAnswer.{RoomAnswer}
use Rattle.plane.specs.Arrays.{at, firsts, zeros, sum, some, or0}
use Rattle.faults.specs.Faults.{if_fault, Rules, overall, from_first, from_last, ◌then◌, first_fault}
use Rattle.plane.specs.Planes.{shape_at, bad_stride_at, strides, span, source_rules}

-- ---- By source dimension d

-- size 0 means shape - offset
abbrev pub taken : Tensor → Config → ℕ → ℕ
taken t c d = or0 (at c.size d) (shape_at t d - at c.offset d)

-- a / b, rounded up
abbrev pub upward : ℕ → ℕ → ℕ
upward a b = (a + (b - 1)) / b

-- how many are kept: size / step, rounded up
unfoldable pub count : Tensor → Config → ℕ → ℕ
count t c d = upward (taken t c d) (at c.step d)

unfoldable pub extent : Tensor → Config → ℕ → ℕ
extent t c d = at c.pre d + count t c d + at c.post d

-- ---- By destination dimension i, which is source dimension perm i

unfoldable pub dst_extents : Tensor → Config → List ℕ
dst_extents t c = firsts t.rank (λ i. extent t c (at c.perm i))

abbrev pub dst_strides : Tensor → Config → List ℕ
dst_strides t c = strides t.rank (at (dst_extents t c)) (at c.dst_stride)

-- the bytes from the destination's first to the end of its last element
unfoldable pub need : Tensor → Config → ℕ
need t c = (1 + sum t.rank (λ i. (at c.dst_offset i + at (dst_extents t c) i - 1) * at (dst_strides t c) i)) * t.element_size

-- ---- The numbers of refusal

-- 6: at or above the rank, or equal to an earlier entry
abbrev pub bad_perm_at : ℕ → (ℕ → ℕ) → ℕ → Bool
bad_perm_at n perm i = leb n (perm i) || some i (λ j. eqb (perm j) (perm i))

-- 7: not below the shape
abbrev pub bad_offset : ℕ → ℕ → Bool
bad_offset shape offset = leb shape offset

-- 8: size + offset above the shape
abbrev pub bad_size : ℕ → ℕ → ℕ → Bool
bad_size shape offset size = ltb shape (size + offset)

-- 9: 0, or above 65,535
abbrev pub bad_step : ℕ → Bool
bad_step step = eqb step 0 || ltb 65535 step

-- 10: above 65,535
abbrev pub bad_extent : ℕ → Bool
bad_extent e = ltb 65535 e

-- 12: above 65,535; or, in a dimension after the first, (offset + extent) x stride above the stride before it. The strides are the
-- resolved ones
unfoldable pub bad_dst_offset_at : (ℕ → ℕ) → (ℕ → ℕ) → (ℕ → ℕ) → ℕ → Bool
bad_dst_offset_at extent stride offset i =
    ltb 65535 (offset i) || (ltb 0 i && ltb (stride (i - 1)) ((offset i + extent i) * stride i))

-- of a move
abbrev pub bad_dst_offset_of : Tensor → Config → ℕ → Bool
bad_dst_offset_of t c = bad_dst_offset_at (at (dst_extents t c)) (at (dst_strides t c)) (at c.dst_offset)

-- 6 to 10
abbrev pub config_rules : Tensor → Config → Rules
config_rules t c =
    from_first 6 t.rank (bad_perm_at t.rank (at c.perm)) then
    from_first 7 t.rank (λ d. bad_offset (shape_at t d) (at c.offset d)) then
    from_first 8 t.rank (λ d. bad_size (shape_at t d) (at c.offset d) (at c.size d)) then
    from_first 9 t.rank (λ d. bad_step (at c.step d)) then
    from_first 10 t.rank (λ d. bad_extent (extent t c d))

unfoldable pub config_fault : Tensor → Config → Fault
config_fault t c = first_fault (config_rules t c)

-- 11 and 12
abbrev pub dst_rules : Tensor → Config → Rules
dst_rules t c =
    from_last 11 t.rank (bad_stride_at t.rank (at (dst_extents t c)) (at c.dst_stride)) then
    from_first 12 t.rank (bad_dst_offset_of t c)

unfoldable pub dst_fault : Tensor → Config → Fault
dst_fault t c = first_fault (dst_rules t c)

-- a move is refused with 5 for a source shorter than the span, and with 13 for a destination shorter than need
abbrev pub move_rules : Tensor → Config → ℕ → ℕ → Rules
move_rules t c srcLen dstLen =
    source_rules t then
    overall 5 (ltb srcLen (span t)) then
    config_rules t c then
    dst_rules t c then
    overall 13 (ltb dstLen (need t c))

unfoldable pub move_fault : Tensor → Config → ℕ → ℕ → Fault
move_fault t c srcLen dstLen = first_fault (move_rules t c srcLen dstLen)

-- a room question knows no lengths: no 5 and no 13
abbrev pub room_rules : Tensor → Config → Rules
room_rules t c = source_rules t then config_rules t c then dst_rules t c

unfoldable pub room_fault : Tensor → Config → Fault
room_fault t c = first_fault (room_rules t c)

-- ---- The answers

abbrev pub refused : Fault → Answer
refused f =
    record { status = f.status; dim = f.dim; rank = 0; element_size = 0; extent = zeros; stride = zeros; need = 0 }

abbrev pub accepted : Tensor → Config → Answer
accepted t c = record {
  status = 0;
  dim = 0;
  rank = t.rank;
  element_size = t.element_size;
  extent = dst_extents t c;
  stride = dst_strides t c;
  need = need t c;
}

unfoldable pub answer_of : Fault → Tensor → Config → Answer
answer_of f t c = if_fault f (refused f) (accepted t c)

unfoldable pub judge_of : Tensor → Config → ℕ → ℕ → Answer
judge_of t c srcLen dstLen = answer_of (move_fault t c srcLen dstLen) t c

unfoldable pub room_of : Tensor → Config → RoomAnswer
room_of t c = record {
  answer = answer_of (room_fault t c) t c;
  span = if_fault (room_fault t c) 0 (span t);
}
