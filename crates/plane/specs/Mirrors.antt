-- What the theorems claim of signed strides: what each of them means, around 0 and at both ends of the range, and a plane mirrored.
use Rattle.std.specs.Prelude.{ℕ, suc, ◌-◌, ◌*◌, ◌≤◌, ◌<◌, ◌≡◌, ◌⊎◌, ℤ, pos, negsuc, neg_ℤ, length, set}
use Rattle.plane.specs.declared.Tensor.{Tensor}
use Rattle.plane.specs.declared.Config.{Config}
use Rattle.plane.specs.Arrays.{at}
use Rattle.plane.specs.Signs.{at_z}
use Rattle.faults.specs.Faults.{fault}
use Rattle.plane.specs.Planes.{element_size, shape_at, stride_at, inner, src_strides, source_at, span, source_fault, source_of}
use Rattle.plane.specs.Moves.{refused, judge_of, room_of}
use Rattle.plane.specs.Good.{FromTo}

-- ---- what a sign bears on

-- two tensor records that agree, but for the signs of their strides
pub record SameSizes (t t' : Tensor) : Type 0 where
  pub rank : t.rank ≡ t'.rank
  pub element : t.element_size ≡ t'.element_size
  pub shape : (d : ℕ) → d < t.rank → shape_at t d ≡ shape_at t' d
  pub stride : (d : ℕ) → d < t.rank → stride_at t d ≡ stride_at t' d

-- are refused alike, and have the same resolved sizes, span, extents and need: of a move, a sign bears on source places alone
pub record SignsUnjudged : Type 0 where
  pub source : (t t' : Tensor) → SameSizes t t' → source_of t ≡ source_of t'
  pub room : (t t' : Tensor) → SameSizes t t' → (c : Config) → room_of t c ≡ room_of t' c
  pub judge : (t t' : Tensor) → SameSizes t t' → (c : Config) (srcLen dstLen : ℕ) → judge_of t c srcLen dstLen ≡ judge_of t' c srcLen dstLen

-- ---- what each stride means

-- coordinate x of dimension d: stride 0 counts up by the inner product, n counts up by n, and -n counts down by n, from the whole shape's
-- end
pub record StrideMeans (t : Tensor) (d : ℕ) : Type 0 where
  pub zero : at_z t.stride d ≡ pos 0 → (x : ℕ) → source_at t d x ≡ x * inner t.rank (shape_at t) (stride_at t) (t.rank - suc d)
  pub above : (n : ℕ) → at_z t.stride d ≡ pos (suc n) → (x : ℕ) → source_at t d x ≡ x * suc n
  pub below : (n : ℕ) → at_z t.stride d ≡ negsuc n → (x : ℕ) → source_at t d x ≡ (shape_at t d - 1 - x) * suc n

abbrev pub StridesMean : Type 0
StridesMean = (t : Tensor) (d : ℕ) → t.rank ≤ 4 → d < t.rank → StrideMeans t d

-- the same record with stride z in dimension d
abbrev pub with_stride : Tensor → ℕ → ℤ → Tensor
with_stride t d z =
    record { rank = t.rank; element_size = t.element_size; shape = t.shape; stride = set t.stride d z }

-- a stride of 0 may be written out: with what it resolves to, the record is judged alike, and all its elements lie where they did
pub record WrittenOut (t : Tensor) (d : ℕ) : Type 0 where
  pub source : source_of (with_stride t d (pos (at (src_strides t) d))) ≡ source_of t
  pub judge : (c : Config) (srcLen dstLen : ℕ) →
      judge_of (with_stride t d (pos (at (src_strides t) d))) c srcLen dstLen ≡ judge_of t c srcLen dstLen
  pub places : (e x : ℕ) → source_at (with_stride t d (pos (at (src_strides t) d))) e x ≡ source_at t e x

abbrev pub ZeroWritten : Type 0
ZeroWritten =
    (t : Tensor) (d : ℕ) → length t.stride ≡ 4 → t.rank ≤ 4 → d < t.rank → at_z t.stride d ≡ pos 0 → WrittenOut t d

-- 1, 0 and -1 beside each other, in the last dimension: as tensor records by themselves they are answered alike; 1 and 0 are the same, and
-- -1 counts the same elements from the other end
pub record AroundZero (t : Tensor) (d : ℕ) : Type 0 where
  pub alike : (source_of (with_stride t d (pos 1)) ≡ source_of (with_stride t d (pos 0)))
      × (source_of (with_stride t d (negsuc 0)) ≡ source_of (with_stride t d (pos 0)))
  pub one : (x : ℕ) → source_at (with_stride t d (pos 1)) d x ≡ x
  pub zero : (x : ℕ) → source_at (with_stride t d (pos 0)) d x ≡ x
  pub minus_one : (x : ℕ) → source_at (with_stride t d (negsuc 0)) d x ≡ shape_at t d - 1 - x

abbrev pub LastAroundZero : Type 0
LastAroundZero = (t : Tensor) (d : ℕ) → length t.stride ≡ 4 → t.rank ≤ 4 → t.rank ≡ suc d → AroundZero t d

-- ---- both ends of the range

-- the stride of dimension d is the largest, counting up or down; or the least number
abbrev pub Largest : Tensor → ℕ → Type 0
Largest t d = stride_at t d ≡ 2147483647

abbrev pub Least : Tensor → ℕ → Type 0
Least t d = at_z t.stride d ≡ negsuc 2147483647

-- the size of the resolved stride of dimension d is not refused
abbrev pub TakenAt : Tensor → ℕ → Type 0
TakenAt t d = FromTo (inner t.rank (shape_at t) (stride_at t) (t.rank - suc d)) 2147483647 (at (src_strides t) d)

-- rank, element size and shapes are accepted, and so are the strides of the dimensions after d: 4 at d is the next to be asked
pub record UpTo (t : Tensor) (d : ℕ) : Type 0 where
  pub rank : FromTo 1 4 t.rank
  pub element : element_size t.element_size ≡ 0 → ⊥
  pub shape : (e : ℕ) → e < t.rank → FromTo 1 65535 (shape_at t e)
  pub inward : (e : ℕ) → d < e → e < t.rank → TakenAt t e

-- the largest stride is not refused in any dimension whose inner product is within the limit; in such a first dimension the record is
-- accepted with it, whatever its shape, if rank, element size, shapes and the strides after it are
abbrev pub LargestTaken : Type 0
LargestTaken =
    (t : Tensor) (d : ℕ) → t.rank ≤ 4 → d < t.rank →
    inner t.rank (shape_at t) (stride_at t) (t.rank - suc d) ≤ 2147483647 → Largest t d → TakenAt t d

abbrev pub LargestFirst : Type 0
LargestFirst =
    (t : Tensor) → UpTo t 0 → inner t.rank (shape_at t) (stride_at t) (t.rank - 1) ≤ 2147483647 → Largest t 0 →
    (source_fault t).status ≡ 0

-- further in, where its own shape is 1, the next one outward has to be 0 or the largest too; where it is not 1, the next one outward is
-- refused, whatever it is
pub record LargestWithin (t : Tensor) (d : ℕ) : Type 0 where
  pub alone : shape_at t (suc d) ≡ 1 → (stride_at t d ≡ 0) ⊎ Largest t d → TakenAt t d
  pub unlike : shape_at t (suc d) ≡ 1 → (stride_at t d ≡ 0 → ⊥) → (Largest t d → ⊥) → UpTo t d → source_fault t ≡ fault 4 d
  pub else_refused : (shape_at t (suc d) ≡ 1 → ⊥) → UpTo t d → source_fault t ≡ fault 4 d

abbrev pub LargestInward : Type 0
LargestInward = (t : Tensor) (d : ℕ) → t.rank ≤ 4 → suc d < t.rank → Largest t (suc d) → LargestWithin t d

-- the least is refused wherever it is met
abbrev pub LeastRefused : Type 0
LeastRefused = (t : Tensor) (d : ℕ) → d < t.rank → Least t d → UpTo t d → source_fault t ≡ fault 4 d

-- however far strides reach, 5 alone asks for the span: an accepted record with a shorter source is 5, whatever else is asked, and of a
-- source that is long enough no answer hangs on its length
pub record SpanAsked : Type 0 where
  pub short : (t : Tensor) (c : Config) (srcLen dstLen : ℕ) → (source_fault t).status ≡ 0 → srcLen < span t →
      judge_of t c srcLen dstLen ≡ refused (fault 5 0)
  pub long : (t : Tensor) (c : Config) (m n dstLen : ℕ) → span t ≤ m → span t ≤ n → judge_of t c m dstLen ≡ judge_of t c n dstLen

-- ---- a plane mirrored

-- the plane with the sign of one written stride changed
abbrev pub mirrored : Tensor → ℕ → Tensor
mirrored t d = with_stride t d (neg_ℤ (at_z t.stride d))

-- its coordinate x in that dimension is the plane's, counted from the other end, and every other is the plane's
pub record Mirrors (t : Tensor) (d : ℕ) : Type 0 where
  pub sizes : SameSizes t (mirrored t d)
  pub here : (x : ℕ) → x < shape_at t d → source_at (mirrored t d) d x ≡ source_at t d (shape_at t d - 1 - x)
  pub others : (e x : ℕ) → (e ≡ d → ⊥) → source_at (mirrored t d) e x ≡ source_at t e x

-- if it was written: a stride of 0 has no other sign
abbrev pub MirroredPlane : Type 0
MirroredPlane =
    (t : Tensor) (d : ℕ) → length t.stride ≡ 4 → d < 4 → (stride_at t d ≡ 0 → ⊥) → Mirrors t d
