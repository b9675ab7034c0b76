-- Planes and strides: a tensor record, the numbers of refusal 1 to 4, strides and the span.
use Rattle.std.specs.Prelude.{ℕ, zero, suc, ◌+◌, ◌-◌, ◌*◌, ◌≡◌, Bool, cond, ◌||◌, List, ltb, eqb}
use Rattle.plane.specs.declared.Tensor.{Tensor}
use Rattle.faults.specs.declared.Fault.{Fault}
use Rattle.plane.specs.declared.Source.{Source}
use Rattle.plane.specs.Arrays.{at, firsts, zeros, sum, or0}
use Rattle.plane.specs.Signs.{sizes, is_down, at_z, zeros_z}
use Rattle.faults.specs.Faults.{if_fault, Rules, overall, from_first, from_last, ◌then◌, first_fault}

abbrev pub zero_tensor : Tensor
zero_tensor = record { rank = 0; element_size = 0; shape = zeros; stride = zeros_z }

-- 1: the rank is 1 to 4
abbrev pub bad_rank : ℕ → Bool
bad_rank n = ltb n 1 || ltb 4 n

-- an element size that is taken, 1 to 4, and 0 for any other
abbrev pub element_size : ℕ → ℕ
element_size z = cond (ltb z 1 || ltb 4 z) 0 z

-- one that is taken
abbrev pub Sized : ℕ → Type 0
Sized z = element_size z ≡ 0 → ⊥

-- 2: not one that is taken
abbrev pub bad_element : ℕ → Bool
bad_element z = eqb (element_size z) 0

-- 3: a shape is 1 to 65,535
abbrev pub bad_shape : ℕ → Bool
bad_shape s = ltb s 1 || ltb 65535 s

-- 4 and 11: a resolved stride, or the size of one, below its inner product or above 2,147,483,647
abbrev pub bad_stride : ℕ → ℕ → Bool
bad_stride stride inner = ltb stride inner || ltb 2147483647 stride

abbrev pub shape_at : Tensor → ℕ → ℕ
shape_at t d = at t.shape d

-- the size of the stride as the record has it, and whether its dimension counts down
abbrev pub stride_at : Tensor → ℕ → ℕ
stride_at t d = at (sizes t.stride) d

abbrev pub down_at : Tensor → ℕ → Bool
down_at t d = is_down (at_z t.stride d)

-- the inner product of the dimension that has k dimensions inside it: 1 for the last, else stride times shape of the next
unfoldable pub inner : ℕ → (ℕ → ℕ) → (ℕ → ℕ) → ℕ → ℕ
inner n shape stride zero = 1
inner n shape stride (suc k) = or0 (stride (n - suc k)) (inner n shape stride k) * shape (n - suc k)

-- stride 0 means the inner product
unfoldable pub resolved : ℕ → (ℕ → ℕ) → (ℕ → ℕ) → ℕ → ℕ
resolved n shape stride d = or0 (stride d) (inner n shape stride (n - suc d))

unfoldable pub bad_stride_at : ℕ → (ℕ → ℕ) → (ℕ → ℕ) → ℕ → Bool
bad_stride_at n shape stride d = bad_stride (resolved n shape stride d) (inner n shape stride (n - suc d))

abbrev pub strides : ℕ → (ℕ → ℕ) → (ℕ → ℕ) → List ℕ
strides n shape stride = firsts n (resolved n shape stride)

-- the sizes of the resolved strides
abbrev pub src_strides : Tensor → List ℕ
src_strides t = strides t.rank (shape_at t) (stride_at t)

-- how many strides up from the lowest element of its dimension coordinate x lies: one that counts down counts from its last
abbrev pub up : Bool → ℕ → ℕ → ℕ
up down shape x = cond down (shape - 1 - x) x

-- where coordinate x of dimension d lies, in elements up from the plane's lowest: the source place of one coordinate in one dimension,
-- which moves, a sub-tensor's byte and the first element of the engine's plan read here
abbrev pub source_at : Tensor → ℕ → ℕ → ℕ
source_at t d x = up (down_at t d) (shape_at t d) x * at (src_strides t) d

-- the bytes from the plane's lowest to the end of its highest element
unfoldable pub span : Tensor → ℕ
span t = (1 + sum t.rank (λ d. (shape_at t d - 1) * at (src_strides t) d)) * t.element_size

-- 1 to 4
abbrev pub source_rules : Tensor → Rules
source_rules t =
    overall 1 (bad_rank t.rank) then
    overall 2 (bad_element t.element_size) then
    from_first 3 t.rank (λ d. bad_shape (shape_at t d)) then
    from_last 4 t.rank (bad_stride_at t.rank (shape_at t) (stride_at t))

unfoldable pub source_fault : Tensor → Fault
source_fault t = first_fault (source_rules t)

-- a tensor record by itself: the sizes of its resolved strides and its span; zeros besides a fault
unfoldable pub source_of : Tensor → Source
source_of t = record {
  fault = source_fault t;
  stride = if_fault (source_fault t) zeros (src_strides t);
  span = if_fault (source_fault t) 0 (span t);
}
