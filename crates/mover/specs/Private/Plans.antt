-- The plan of an accepted move: four destination dimensions, with what is multiplied once a call.
use Rattle.std.specs.Prelude.{ℕ, ◌+◌, ◌-◌, ◌*◌, ◌%◌, ◌^◌, ◌<◌, ◌≤◌, Bool, cond, List, nat_le, nat_lt}
use Rattle.plane.specs.declared.Tensor.{Tensor}
use Rattle.plane.specs.declared.Config.{Config}
use Rattle.plane.specs.declared.Answer.{Answer}
use Rattle.plane.specs.Arrays.{at, sum}
use Rattle.plane.specs.Numbers.{little}
use Rattle.plane.specs.Planes.{shape_at, down_at, up, src_strides, source_at}
use Rattle.plane.specs.Moves.{count, dst_extents, dst_strides}
use Rattle.mover.specs.declared.plan.Axis.{Axis}
use Rattle.mover.specs.declared.plan.Plan.{Plan}
use Rattle.mover.specs.Element.{dim_of}

-- ---- jumps: the number of bytes to add, as 64 bits count. A jump down is 2 ^ 64 less its length, so that one add serves both directions

-- a jump over n bytes
abbrev pub jump_by : Bool → ℕ → ℕ
jump_by down n = cond down ((2 ^ 64 - n) % 2 ^ 64) n

-- whether it goes down, and over how many bytes
abbrev pub goes_down : ℕ → Bool
goes_down jump = nat_le (2 ^ 63) jump

abbrev pub jump_length : ℕ → ℕ
jump_length jump = cond (goes_down jump) (2 ^ 64 - jump) jump

-- ---- the plan

-- destination dimension i; jump and stride are in bytes
abbrev pub axis_of : Tensor → Config → ℕ → Axis
axis_of t c i = record {
  extent = at (dst_extents t c) i;
  pre = at c.pre (dim_of c i);
  count = count t c (dim_of c i);
  jump = jump_by (down_at t (dim_of c i)) (at c.step (dim_of c i) * at (src_strides t) (dim_of c i) * t.element_size);
  stride = at (dst_strides t c) i * t.element_size;
}

-- a dimension that the rank lacks: one element
abbrev pub lone : Axis
lone = record { extent = 1; pre = 0; count = 1; jump = 0; stride = 0 }

-- axis j of four: those that the rank lacks stand first
abbrev pub axis_at : Tensor → Config → ℕ → Axis
axis_at t c j = cond (nat_lt j (4 - t.rank)) lone (axis_of t c (j - (4 - t.rank)))

unfoldable pub plan_of : Tensor → Config → Plan
plan_of t c = record {
  size = t.element_size;
  pad = little 4 c.fill;
  home = sum t.rank (λ i. source_at t (dim_of c i) (at c.offset (dim_of c i))) * t.element_size;
  base = sum t.rank (λ i. at c.dst_offset i * at (dst_strides t c) i) * t.element_size;
  d0 = axis_at t c 0;
  d1 = axis_at t c 1;
  d2 = axis_at t c 2;
  d3 = axis_at t c 3;
}

-- destination dimension i as the code makes it, from the move's answer and the sizes of the source's resolved strides: what the padding
-- leaves of its extent is kept
abbrev pub axis_made : Tensor → Config → Answer → List ℕ → ℕ → Axis
axis_made t c a sizes i = record {
  extent = at a.extent i;
  pre = at c.pre (dim_of c i);
  count = at a.extent i - at c.pre (dim_of c i) - at c.post (dim_of c i);
  jump = jump_by (down_at t (dim_of c i)) (at c.step (dim_of c i) * at sizes (dim_of c i) * a.element_size);
  stride = at a.stride i * a.element_size;
}

-- as the code works them out: how far above the lowest element of its dimension the first kept coordinate of destination dimension i lies,
-- in elements, and the byte of the first kept element
abbrev pub above_made : Tensor → Config → List ℕ → ℕ → ℕ
above_made t c sizes i = let d = dim_of c i in up (down_at t d) (shape_at t d) (at c.offset d) * at sizes d

abbrev pub home_made : Tensor → Config → Answer → List ℕ → ℕ
home_made t c a sizes = sum a.rank (above_made t c sizes) * a.element_size

-- what acceptance tells of the tensor record t, the configuration c and the answer a
pub record Fit (t : Tensor) (c : Config) (a : Answer) : Type 0 where
  pub rank : a.rank ≤ 4
  pub element : a.element_size ≤ 4
  pub dim : (i : ℕ) → i < a.rank → dim_of c i < 4
  pub shape : (i : ℕ) → i < a.rank → shape_at t (dim_of c i) ≤ 65535
  pub offset : (i : ℕ) → i < a.rank → at c.offset (dim_of c i) < shape_at t (dim_of c i)
  pub step : (i : ℕ) → i < a.rank → at c.step (dim_of c i) ≤ 65535
  pub dst_offset_lem : (i : ℕ) → i < a.rank → at c.dst_offset i ≤ 65535
  pub extent : (i : ℕ) → i < a.rank → at a.extent i ≤ 65535
  pub padding : (i : ℕ) → i < a.rank → at c.pre (dim_of c i) + at c.post (dim_of c i) ≤ at a.extent i
