-- What acceptance tells: the paper's conditions as plain inequalities, a record for each stretch of the numbers of refusal.
use Rattle.std.specs.Prelude.{ℕ, suc, ◌+◌, ◌-◌, ◌*◌, ◌≤◌, ◌<◌, ◌≡◌}
use Rattle.plane.specs.declared.Tensor.{Tensor}
use Rattle.plane.specs.declared.Config.{Config}
use Rattle.plane.specs.declared.SubConfig.{SubConfig}
use Rattle.plane.specs.Arrays.{at, how_many}
use Rattle.plane.specs.Planes.{element_size, shape_at, stride_at, inner, resolved, span}
use Rattle.plane.specs.Moves.{extent, dst_extents, dst_strides, need}
use Rattle.plane.specs.Helpers.{is_unit, excess}

-- x is from a to b
abbrev pub FromTo : ℕ → ℕ → ℕ → Type 0
FromTo a b x = (a ≤ x) × (x ≤ b)

-- every stride is at least its inner product and within the limit
pub record GoodStrides (n : ℕ) (shape stride : ℕ → ℕ) : Type 0 where
  pub least : (d : ℕ) → d < n → inner n shape stride (n - suc d) ≤ resolved n shape stride d
  pub most : (d : ℕ) → d < n → resolved n shape stride d ≤ 2147483647

-- 1 to 4
pub record GoodSource (t : Tensor) : Type 0 where
  pub rank : FromTo 1 4 t.rank
  pub element : element_size t.element_size ≡ 0 → ⊥
  pub shape : (d : ℕ) → d < t.rank → FromTo 1 65535 (shape_at t d)
  pub strides : GoodStrides t.rank (shape_at t) (stride_at t)

-- 6 to 10
pub record GoodConfig (t : Tensor) (c : Config) : Type 0 where
  pub perm : (i : ℕ) → i < t.rank → at c.perm i < t.rank
  pub apart : (i j : ℕ) → i < t.rank → j < i → at c.perm j ≡ at c.perm i → ⊥
  pub offset : (d : ℕ) → d < t.rank → at c.offset d < shape_at t d
  pub size : (d : ℕ) → d < t.rank → at c.size d + at c.offset d ≤ shape_at t d
  pub step : (d : ℕ) → d < t.rank → FromTo 1 65535 (at c.step d)
  pub extent : (d : ℕ) → d < t.rank → extent t c d ≤ 65535

-- 11 and 12
pub record GoodDst (t : Tensor) (c : Config) : Type 0 where
  pub strides : GoodStrides t.rank (at (dst_extents t c)) (at c.dst_stride)
  pub offset : (i : ℕ) → i < t.rank → at c.dst_offset i ≤ 65535
  pub row : (i : ℕ) → 0 < i → i < t.rank →
      (at c.dst_offset i + at (dst_extents t c) i) * at (dst_strides t c) i ≤ at (dst_strides t c) (i - 1)

-- 1 to 13
pub record GoodMove (t : Tensor) (c : Config) (srcLen dstLen : ℕ) : Type 0 where
  pub source : GoodSource t
  pub long : span t ≤ srcLen
  pub config : GoodConfig t c
  pub destination : GoodDst t c
  pub room : need t c ≤ dstLen

-- a sub-tensor: 1 to 5, 7, 8, 14 and 15
pub record GoodSub (t : Tensor) (s : SubConfig) (srcLen : ℕ) : Type 0 where
  pub source : GoodSource t
  pub long : span t ≤ srcLen
  pub offset : (d : ℕ) → d < t.rank → at s.offset d < shape_at t d
  pub size : (d : ℕ) → d < t.rank → (1 ≤ at s.size d) × (at s.size d + at s.offset d ≤ shape_at t d)
  pub rank : FromTo 1 t.rank s.rank
  pub units : excess t s ≤ how_many t.rank (is_unit (at s.size))
