-- The helpers: element count and sub-tensor. The element size is in Planes.
use Rattle.std.specs.Prelude.{ℕ, zero, suc, ◌+◌, ◌-◌, ◌*◌, Bool, cond, ◌||◌, ◌&&◌, List, [], ◌∷◌, ◌++◌, ltb, leb, eqb, ℤ, pos}
use Rattle.plane.specs.declared.Tensor.{Tensor}
use Rattle.faults.specs.declared.Fault.{Fault}
use Rattle.plane.specs.declared.Count.{Count}
use Rattle.plane.specs.declared.SubConfig.{SubConfig}
use Rattle.plane.specs.declared.SubTensor.{SubTensor}
use Rattle.plane.specs.Arrays.{at, firsts, firsts_or, sum, product, how_many}
use Rattle.plane.specs.Signs.{signed}
use Rattle.faults.specs.Faults.{if_fault, Rules, overall, from_first, ◌then◌, first_fault}
use Rattle.plane.specs.Planes.{bad_rank, bad_shape, shape_at, down_at, src_strides, source_at, span, source_rules, zero_tensor}
use Rattle.plane.specs.Moves.{bad_offset, bad_size}

-- ---- Element count

-- the product of the shapes from dimension start on
unfoldable pub elements : Tensor → ℕ → ℕ
elements t start = product (t.rank - start) (λ k. shape_at t (start + k))

-- 16: a start dimension not below the rank
abbrev pub count_rules : Tensor → ℕ → Rules
count_rules t start =
    overall 1 (bad_rank t.rank) then
    from_first 3 t.rank (λ d. bad_shape (shape_at t d)) then
    overall 16 (leb t.rank start)

unfoldable pub count_fault : Tensor → ℕ → Fault
count_fault t start = first_fault (count_rules t start)

abbrev pub no_count : Fault → Count
no_count f = record { status = f.status; dim = f.dim; count = 0 }

unfoldable pub count_answer : Fault → ℕ → Count
count_answer f count = if_fault f (no_count f) (record { status = 0; dim = 0; count = count })

unfoldable pub count_of : Tensor → ℕ → Count
count_of t start = count_answer (count_fault t start) (elements t start)

-- ---- Sub-tensor

abbrev pub is_unit : (ℕ → ℕ) → ℕ → Bool
is_unit size d = eqb (size d) 1

-- unit dimensions are removed from the first on, excess of them
abbrev pub removed : (ℕ → ℕ) → ℕ → ℕ → Bool
removed size excess d = is_unit size d && ltb (how_many d (is_unit size)) excess

-- those of the dimensions 0, 1, .., n - 1 that stay, in order
unfoldable pub staying : (ℕ → ℕ) → ℕ → ℕ → List ℕ
staying size excess zero = []
staying size excess (suc d) = staying size excess d ++ cond (removed size excess d) [] (d ∷ [])

-- by how much the rank falls
abbrev pub excess : Tensor → SubConfig → ℕ
excess t s = t.rank - s.rank

-- the source dimension that is dimension i of the sub-tensor
abbrev pub sub_dim : Tensor → SubConfig → ℕ → ℕ
sub_dim t s i = at (staying (at s.size) (excess t s) t.rank) i

-- 8: a size of 0, or past the shape
abbrev pub bad_sub_size : ℕ → ℕ → ℕ → Bool
bad_sub_size shape offset size = eqb size 0 || bad_size shape offset size

-- 14: rank 0 or above the rank; 15: too few unit dimensions
abbrev pub rank_rules : Tensor → SubConfig → Rules
rank_rules t s =
    overall 14 (eqb s.rank 0 || ltb t.rank s.rank) then
    overall 15 (ltb (how_many t.rank (is_unit (at s.size))) (excess t s))

unfoldable pub rank_fault : Tensor → SubConfig → Fault
rank_fault t s = first_fault (rank_rules t s)

-- 1 to 5, 7, 8, 14, 15
abbrev pub sub_rules : Tensor → SubConfig → ℕ → Rules
sub_rules t s srcLen =
    source_rules t then
    overall 5 (ltb srcLen (span t)) then
    from_first 7 t.rank (λ d. bad_offset (shape_at t d) (at s.offset d)) then
    from_first 8 t.rank (λ d. bad_sub_size (shape_at t d) (at s.offset d) (at s.size d)) then
    rank_rules t s

unfoldable pub sub_fault : Tensor → SubConfig → ℕ → Fault
sub_fault t s srcLen = first_fault (sub_rules t s srcLen)

-- the resolved stride of dimension d, with its sign
abbrev pub resolved_at : Tensor → ℕ → ℤ
resolved_at t d = signed (down_at t d) (at (src_strides t) d)

-- the sizes for shapes, and the resolved strides of the whole plane, with their signs
unfoldable pub sub_of : Tensor → SubConfig → Tensor
sub_of t s = record {
  rank = s.rank;
  element_size = t.element_size;
  shape = firsts s.rank (λ i. at s.size (sub_dim t s i));
  stride = firsts_or (pos 0) s.rank (λ i. resolved_at t (sub_dim t s i));
}

-- the coordinate of the lowest of size elements from offset on: the first, or the last where the dimension counts down
abbrev pub lowest_in : Bool → ℕ → ℕ → ℕ
lowest_in down offset size = cond down (offset + size - 1) offset

-- the byte at which the sub-tensor starts in the source: that of its lowest element
unfoldable pub sub_byte : Tensor → SubConfig → ℕ
sub_byte t s =
    sum t.rank (λ d. source_at t d (lowest_in (down_at t d) (at s.offset d) (at s.size d))) * t.element_size

abbrev pub no_sub : Fault → SubTensor
no_sub f = record { status = f.status; dim = f.dim; tensor = zero_tensor; byte = 0 }

unfoldable pub sub_answer : Fault → Tensor → ℕ → SubTensor
sub_answer f t byte = if_fault f (no_sub f) (record { status = 0; dim = 0; tensor = t; byte = byte })

unfoldable pub sub_tensor_of : Tensor → SubConfig → ℕ → SubTensor
sub_tensor_of t s srcLen = sub_answer (sub_fault t s srcLen) (sub_of t s) (sub_byte t s)
