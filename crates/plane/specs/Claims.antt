-- What the theorems claim of planes and moves: refusals, the room question, what acceptance tells, that all fits 64 bits, sub-tensors.
-- Unseen has what they claim of entries past the rank and of the fill.
use Rattle.std.specs.Prelude.{ℕ, ◌+◌, ◌*◌, ◌^◌, ◌≤◌, ◌<◌, ◌≡◌, length}
use Rattle.plane.specs.declared.Tensor.{Tensor}
use Rattle.plane.specs.declared.Config.{Config}
use Rattle.plane.specs.declared.SubConfig.{SubConfig}
use Rattle.plane.specs.Arrays.{at, zeros, product}
use Rattle.faults.specs.Faults.{fault}
use Rattle.faults.specs.Exactness.{Exact}
use Rattle.plane.specs.Signs.{at_z}
use Rattle.plane.specs.Planes.{shape_at, inner, resolved, span, source_rules, source_fault, source_of}
use Rattle.plane.specs.Moves.{dst_extents, need, move_rules, move_fault, room_rules, refused, judge_of, room_of}
use Rattle.plane.specs.Helpers.{elements, count_rules, no_count, count_of, staying, excess, sub_dim, sub_rules, sub_fault, resolved_at, sub_of, no_sub, sub_tensor_of}
use Rattle.plane.specs.Good.{FromTo, GoodStrides, GoodSource, GoodConfig, GoodDst, GoodMove, GoodSub}

-- ---- Refusals

-- every answer is exact for the rules of its call
abbrev pub SourceExact : Type 0
SourceExact = (t : Tensor) → let f = (source_of t).fault in Exact (source_rules t) f.status f.dim

abbrev pub JudgeExact : Type 0
JudgeExact =
    (t : Tensor) (c : Config) (srcLen dstLen : ℕ) →
    let a = judge_of t c srcLen dstLen in Exact (move_rules t c srcLen dstLen) a.status a.dim

abbrev pub RoomExact : Type 0
RoomExact = (t : Tensor) (c : Config) → let a = (room_of t c).answer in Exact (room_rules t c) a.status a.dim

abbrev pub CountExact : Type 0
CountExact = (t : Tensor) (start : ℕ) → let a = count_of t start in Exact (count_rules t start) a.status a.dim

abbrev pub SubExact : Type 0
SubExact =
    (t : Tensor) (s : SubConfig) (srcLen : ℕ) →
    let a = sub_tensor_of t s srcLen in Exact (sub_rules t s srcLen) a.status a.dim

-- besides its number and dimension a refused one is zeros
abbrev pub SourceZeros : Type 0
SourceZeros =
    (t : Tensor) → ((source_of t).fault.status ≡ 0 → ⊥) → source_of t ≡ record { fault = (source_of t).fault; stride = zeros; span = 0 }

abbrev pub JudgeZeros : Type 0
JudgeZeros =
    (t : Tensor) (c : Config) (srcLen dstLen : ℕ) →
    let a = judge_of t c srcLen dstLen in (a.status ≡ 0 → ⊥) → a ≡ refused (fault a.status a.dim)

abbrev pub RoomZeros : Type 0
RoomZeros =
    (t : Tensor) (c : Config) →
    let a = (room_of t c).answer in (a.status ≡ 0 → ⊥) → room_of t c ≡ record { answer = refused (fault a.status a.dim); span = 0 }

abbrev pub CountZeros : Type 0
CountZeros = (t : Tensor) (start : ℕ) → let a = count_of t start in (a.status ≡ 0 → ⊥) → a ≡ no_count (fault a.status a.dim)

abbrev pub SubZeros : Type 0
SubZeros =
    (t : Tensor) (s : SubConfig) (srcLen : ℕ) →
    let a = sub_tensor_of t s srcLen in (a.status ≡ 0 → ⊥) → a ≡ no_sub (fault a.status a.dim)

-- ---- The room question

-- it never gives 5 or 13
abbrev pub RoomNever : Type 0
RoomNever = (t : Tensor) (c : Config) → let n = (room_of t c).answer.status in (n ≡ 5 → ⊥) × (n ≡ 13 → ⊥)

-- it gives what a move gives that is lent enough
abbrev pub RoomIsJudge : Type 0
RoomIsJudge =
    (t : Tensor) (c : Config) (srcLen dstLen : ℕ) → span t ≤ srcLen → need t c ≤ dstLen →
    judge_of t c srcLen dstLen ≡ (room_of t c).answer

-- ---- What acceptance tells, and that it tells no less

abbrev pub MoveGood : Type 0
MoveGood = (t : Tensor) (c : Config) (srcLen dstLen : ℕ) → (move_fault t c srcLen dstLen).status ≡ 0 → GoodMove t c srcLen dstLen

abbrev pub MoveClear : Type 0
MoveClear = (t : Tensor) (c : Config) (srcLen dstLen : ℕ) → GoodMove t c srcLen dstLen → (move_fault t c srcLen dstLen).status ≡ 0

abbrev pub SubGood : Type 0
SubGood = (t : Tensor) (s : SubConfig) (srcLen : ℕ) → (sub_fault t s srcLen).status ≡ 0 → GoodSub t s srcLen

abbrev pub SubClear : Type 0
SubClear = (t : Tensor) (s : SubConfig) (srcLen : ℕ) → GoodSub t s srcLen → (sub_fault t s srcLen).status ≡ 0

-- resolved strides fall inward: each is at least any inner one times its shape
abbrev pub StridesFall : Type 0
StridesFall =
    (n : ℕ) (shape stride : ℕ → ℕ) → ((d : ℕ) → d < n → 1 ≤ shape d) → GoodStrides n shape stride →
    (d e : ℕ) → d < e → e < n → resolved n shape stride e * shape e ≤ resolved n shape stride d

-- ---- All fits 64 bits

-- inner products
abbrev pub InnerFits : Type 0
InnerFits =
    (n : ℕ) (shape stride : ℕ → ℕ) → GoodStrides n shape stride → ((d : ℕ) → d < n → shape d ≤ 65535) →
    (k : ℕ) → k ≤ n → inner n shape stride k < 2 ^ 64

abbrev pub SpanFits : Type 0
SpanFits = (t : Tensor) → GoodSource t → span t < 2 ^ 64

abbrev pub NeedFits : Type 0
NeedFits = (t : Tensor) (c : Config) → GoodSource t → GoodConfig t c → GoodDst t c → need t c < 2 ^ 64

-- the number of a destination's elements
abbrev pub ExtentsFit : Type 0
ExtentsFit = (t : Tensor) (c : Config) → GoodSource t → GoodConfig t c → product t.rank (at (dst_extents t c)) < 2 ^ 64

-- 65,535 to the fourth
abbrev pub most_count : ℕ
most_count = 18445618199572250625

-- a count: where rank and shapes are in range, the product of the shapes from any dimension on is at most that, which is below 2^64;
-- four shapes of 65,535 meet it
pub record CountFits : Type 0 where
  pub most : (t : Tensor) (start : ℕ) → FromTo 1 4 t.rank → ((d : ℕ) → d < t.rank → FromTo 1 65535 (shape_at t d)) →
      elements t start ≤ most_count
  pub fits : most_count < 2 ^ 64
  pub met : (t : Tensor) → t.rank ≡ 4 → ((d : ℕ) → d < 4 → shape_at t d ≡ 65535) → elements t 0 ≡ most_count

-- so no answer is above it, whatever was asked
abbrev pub CountBounded : Type 0
CountBounded = (t : Tensor) (start : ℕ) → (count_of t start).count ≤ most_count

-- ---- Sub-tensors

-- its dimensions: as many stay as its rank asks for, and they are dimensions of the plane, in order; each has the size for its shape, and
-- the plane's resolved stride with its sign, which is resolved as it is written
pub record SubNumbers (t : Tensor) (s : SubConfig) : Type 0 where
  pub count : length (staying (at s.size) (excess t s) t.rank) ≡ s.rank
  pub below : (i : ℕ) → i < s.rank → sub_dim t s i < t.rank
  pub rises : (i j : ℕ) → i < j → j < s.rank → sub_dim t s i < sub_dim t s j
  pub shape : (i : ℕ) → i < s.rank → shape_at (sub_of t s) i ≡ at s.size (sub_dim t s i)
  pub stride : (i : ℕ) → i < s.rank → at_z (sub_of t s).stride i ≡ resolved_at t (sub_dim t s i)
  pub resolved : (i : ℕ) → i < s.rank → resolved_at (sub_of t s) i ≡ at_z (sub_of t s).stride i

-- of an accepted one
abbrev pub SubTold : Type 0
SubTold = (t : Tensor) (s : SubConfig) (srcLen : ℕ) → (sub_tensor_of t s srcLen).status ≡ 0 → SubNumbers t s

-- an accepted one, used as a tensor record, is itself accepted
abbrev pub SubAccepted : Type 0
SubAccepted =
    (t : Tensor) (s : SubConfig) (srcLen : ℕ) → (sub_tensor_of t s srcLen).status ≡ 0 →
    (source_fault (sub_tensor_of t s srcLen).tensor).status ≡ 0

-- and from its byte on its span fits the source
abbrev pub SubFits : Type 0
SubFits =
    (t : Tensor) (s : SubConfig) (srcLen : ℕ) → (sub_tensor_of t s srcLen).status ≡ 0 →
    (sub_tensor_of t s srcLen).byte + span (sub_tensor_of t s srcLen).tensor ≤ srcLen
