-- When two parts of a memory meet: exactly if they share a byte; and when a part leaves a memory: exactly if it ends past the end.
-- Assumes nothing.
use Rattle.std.proofs.Common.{◌≡◌, ℕ, ◌+◌, ◌-◌, ◌<◌, ◌≤◌, min, max, false, ◌&&◌, ltb, sym, ap, ◌∙◌, true≢false, arith, ltb-true, le-ltb, lt-ltb}
use native.Mathlib.Nat.{max_comm, min_comm}
use native.Mathlib.Decide.{dec_lt}
use Rattle.parts.specs.declared.Part.{Part}
use Rattle.mover.specs.Within.{meets}
use Rattle.mover.specs.Claims.{MeetsShared, SharedMeets, MeetsApart, LeavesEnd, LeavesByte, ByteLeaves, EmptyLeaves}

-- ---- two parts meet exactly if they share a byte

pub meets_shared : MeetsShared
meets_shared p q e =
    let l = ltb-true (max p.start q.start) (min (p.start + p.length) (q.start + q.length)) e in
    (max p.start q.start, (omega arith, omega arith), (omega arith, omega arith))

pub shared_meets : SharedMeets
shared_meets p q i a b = lt-ltb (max p.start q.start) (min (p.start + p.length) (q.start + q.length)) (omega arith)

-- and else share none
pub meets_apart : MeetsApart
meets_apart p q e i a b = true≢false (sym (shared_meets p q i a b) ∙ e)

-- ---- a part leaves a memory of n bytes exactly if it ends past byte n; so an empty one leaves it exactly if it starts past byte n

pub leaves_end : LeavesEnd
leaves_end n p = elim (dec_lt n p.start) [
  | yes l ↦ rw (lt-ltb n p.start l, lt-ltb n (p.start + p.length) (omega arith))
  | no l ↦ elim (dec_lt (n - p.start) p.length) [
    | yes m ↦ rw (le-ltb n p.start (omega arith), lt-ltb (n - p.start) p.length m, lt-ltb n (p.start + p.length) (omega arith))
    | no m ↦ rw (le-ltb n p.start (omega arith), le-ltb (n - p.start) p.length (omega arith), le-ltb n (p.start + p.length) (omega arith))
  ]
]

-- one that has bytes leaves it exactly if one of them does
pub leaves_byte : LeavesByte
leaves_byte n p e h =
    let l = ltb-true n (p.start + p.length) (sym (leaves_end n p) ∙ e) in
    (p.start + p.length - 1, (omega arith, omega arith), omega arith)

pub byte_leaves : ByteLeaves
byte_leaves n p i a h = leaves_end n p ∙ lt-ltb n (p.start + p.length) (omega arith)

pub empty_leaves : EmptyLeaves
empty_leaves n p e = let s : p.start + p.length ≡ p.start = omega arith in leaves_end n p ∙ ap (ltb n) s

-- ---- how the code tells

-- the later start lies within the other part, and its own part is not empty
later_within : (a m b n : ℕ) → a ≤ b → (ltb (b - a) m && ltb 0 n) ≡ ltb (max a b) (min (a + m) (b + n))
later_within a m b n h = elim (dec_lt (b - a) m) [
  | yes p ↦ elim (dec_lt 0 n) [
    | yes q ↦ rw (lt-ltb (b - a) m p, lt-ltb 0 n q, lt-ltb (max a b) (min (a + m) (b + n)) (omega arith))
    | no q ↦ rw (lt-ltb (b - a) m p, le-ltb 0 n (omega arith), le-ltb (max a b) (min (a + m) (b + n)) (omega arith))
  ]
  | no p ↦ rw (le-ltb (b - a) m (omega arith), le-ltb (max a b) (min (a + m) (b + n)) (omega arith))
]

pub first_meets : (p q : Part) → p.start ≤ q.start → (ltb (q.start - p.start) p.length && ltb 0 q.length) ≡ meets p q
first_meets p q h = later_within p.start p.length q.start q.length h

pub meets_either : (p q : Part) → meets p q ≡ meets q p
meets_either p q =
    rw (max_comm p.start q.start, min_comm (p.start + p.length) (q.start + q.length))

pub second_meets : (p q : Part) → q.start < p.start → (ltb (p.start - q.start) q.length && ltb 0 p.length) ≡ meets p q
second_meets p q h = first_meets q p (omega arith) ∙ meets_either q p

-- an empty part meets none
pub empty_meets : (p q : Part) → p.length ≡ 0 → meets p q ≡ false
empty_meets p q e = le-ltb (max p.start q.start) (min (p.start + p.length) (q.start + q.length)) (omega arith)
