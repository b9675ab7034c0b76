-- Moves that take a box of the plane and neither pad, step nor permute; the copy among them. Assumes nothing.
use Prim.Native.Nat.{ℕ, suc, ◌+◌, ◌-◌, ◌*◌, ◌≤◌, ◌<◌}
use native.Mathlib.Nat.{add-zero, zero-add, mul-one, mul_comm, div-one}
use native.Mathlib.Omega.{arith}
use mathlib.Core.Path.{◌≡◌, sym, ap, ap₂, ◌∙◌}
use mathlib.Core.List.{List}
use borrow.Author.Tests.{eq-eqb, ne_eqb, le-ltb}
use Rattle.plane.specs.declared.Tensor.{Tensor}
use Rattle.plane.specs.declared.Config.{Config}
use Rattle.plane.specs.Arrays.{at, array, firsts, zeros, sum, product}
use Rattle.plane.specs.Planes.{shape_at, stride_at, resolved, source_at}
use Rattle.plane.specs.Moves.{taken, count, extent, dst_extents, dst_strides}
use Rattle.plane.specs.Settings.{with_dst_offset, with_dst_stride}
use Rattle.ready_made.specs.ReadyMade.{defaults, cut_to, made_for}
use Rattle.plane.proofs.Arrays.{array_at, zeros_at, firsts_at, firsts_same, sum_same, product_same}
use Rattle.plane.specs.Good.{GoodSource, GoodConfig, GoodDst}
use Rattle.plane.proofs.Falling.{strides_hold}
use Rattle.mover.specs.Element.{source_place}
use Rattle.slices.proofs.Compact.{compact_at, compact_good}
use Rattle.mover.specs.Demand2.{IsCoordinate, KeptAt}

-- sizes z are taken
pub record Boxed (u : Tensor) (c : Config) (z : List ℕ) : Type 0 where
  pub perm : (i : ℕ) → i < u.rank → at c.perm i ≡ i
  pub pre : (i : ℕ) → i < u.rank → at c.pre i ≡ 0
  pub post : (i : ℕ) → i < u.rank → at c.post i ≡ 0
  pub step : (i : ℕ) → i < u.rank → at c.step i ≡ 1
  pub size : (i : ℕ) → i < u.rank → taken u c i ≡ at z i

module _ {u : Tensor} {c : Config} {z : List ℕ} (b : Boxed u c z) where
  boxed_count : (i : ℕ) → i < u.rank → count u c i ≡ at z i
  unfolding count
  boxed_count i h = rw (b.step i h, b.size i h, div-one, add-zero)

  boxed_extent : (i : ℕ) → i < u.rank → extent u c i ≡ at z i
  unfolding extent
  boxed_extent i h = rw (b.pre i h, b.post i h, boxed_count i h) (omega arith)

  boxed_extents : dst_extents u c ≡ firsts u.rank (at z)
  unfolding dst_extents
  boxed_extents = firsts_same 0 u.rank _ _ (λ i h. ap (extent u c) (b.perm i h) ∙ boxed_extent i h)

  pub boxed_source : (x : ℕ → ℕ) → source_place u c x ≡ sum u.rank (λ i. source_at u i (at c.offset i + x i))
  unfolding source_place
  boxed_source x = sum_same u.rank _ _ (λ i h. let m : x i - 0 ≡ x i = omega arith in rw (b.perm i h, b.pre i h, b.step i h, mul-one, m))

  -- it is accepted as far as its sizes and offsets are within the shape
  pub boxed_config : (one : (i : ℕ) → i < u.rank → at z i ≤ 65535) → ((i : ℕ) → i < u.rank → at c.offset i < shape_at u i) → ((i : ℕ) → i < u.rank → at c.size i + at c.offset i ≤ shape_at u i) → GoodConfig u c
  boxed_config m o l = record {
    perm = λ i h. omega (arith, b.perm i h);
    apart = λ i j h k q. omega (arith, b.perm i h, b.perm j (omega arith));
    offset = o;
    size = l;
    step = λ i h. (omega (arith, b.step i h), omega (arith, b.step i h));
    extent = λ i h. omega (arith, boxed_extent i h, m i h);
  }

  pub boxed_extent_at : u.rank ≤ 4 → (i : ℕ) → i < u.rank → at (dst_extents u c) i ≡ at z i
  boxed_extent_at few i h = ap (λ (l : List ℕ). at l i) boxed_extents ∙ firsts_at 0 u.rank (at z) i few h

  -- nothing is padded, so every element of the destination is the source's
  pub boxed_kept : u.rank ≤ 4 → (x : ℕ → ℕ) → IsCoordinate u c x → (i : ℕ) → i < u.rank → KeptAt u c x i
  boxed_kept few x w i h =
      rw (b.perm i h, b.pre i h, boxed_count i h) (omega arith, omega (arith, w i h, boxed_extent_at few i h))

  -- strides that are asked for by 0
  pub boxed_stride : u.rank ≤ 4 → ((i : ℕ) → i < u.rank → at c.dst_stride i ≡ 0) → (i : ℕ) → i < u.rank → product (suc i) (at z) * at (dst_strides u c) i ≡ product u.rank (at z)
  boxed_stride few p i h =
      ap₂ (λ (x y : ℕ). x * y)
      (sym (product_same (suc i) _ _ (λ j l. boxed_extent_at few j (omega arith))))
      (firsts_at 0 u.rank (resolved u.rank (at (dst_extents u c)) (at c.dst_stride)) i few h) ∙
      compact_at u.rank (at (dst_extents u c)) (at c.dst_stride) p i h ∙
      product_same u.rank _ _ (boxed_extent_at few)

  -- and so is its destination, where strides are asked for by 0 and there are no offsets
  pub boxed_place : GoodSource u → ((i : ℕ) → i < u.rank → (1 ≤ at z i) × (at z i ≤ shape_at u i)) → ((i : ℕ) → i < u.rank → at c.dst_stride i ≡ 0) → ((i : ℕ) → i < u.rank → at c.dst_offset i ≡ 0) → GoodDst u c
  boxed_place g w p o =
      let few = g.rank.1 in
      let s = compact_good u.rank (at (dst_extents u c)) (at c.dst_stride) p (shape_at u) (stride_at u) (λ i h. rw (boxed_extent_at few i h) (w i h).1) g.strides in
      record {
        strides = s;
        offset = λ i h. omega (arith, o i h);
        row = λ i l h.
            let e = at (dst_extents u c) in
            rw (o i h, zero-add, mul_comm (e i))
            (strides_hold u.rank e (at c.dst_stride) few (λ j q. rw (boxed_extent_at few j q) (w j q).0) s (i - 1) i (omega arith) h);
      }

-- size 0 from offset 0 on is the shape, and any other size is itself
taken_all : (u : Tensor) (c : Config) (i : ℕ) → at c.size i ≡ 0 → at c.offset i ≡ 0 → taken u c i ≡ shape_at u i
taken_all u c i e o = rw (eq-eqb (at c.size i) 0 e) (omega arith)

pub taken_some : (u : Tensor) (c : Config) (i : ℕ) → 1 ≤ at c.size i → taken u c i ≡ at c.size i
taken_some u c i h = rw (ne_eqb (at c.size i) 0 (λ e. omega arith))

-- entries of a configuration cut to the rank n
module _ (n : ℕ) (few : n ≤ 4) where
  pub cut_at : (l : List ℕ) (i : ℕ) → i < n → at (firsts n (at l)) i ≡ at l i
  cut_at l i h = firsts_at 0 n (at l) i few h

  pub cut_zero : (i : ℕ) → i < n → at (firsts n (at zeros)) i ≡ 0
  cut_zero i h = cut_at zeros i h ∙ zeros_at i

  pub cut_array : (f : ℕ → ℕ) (i : ℕ) → i < n → at (firsts n (at (array f))) i ≡ f i
  cut_array f i h = cut_at (array f) i h ∙ array_at f 0 i (omega arith)

-- ---- ready-made configurations of a rank that is taken

pub made : (n : ℕ) (c : Config) → 1 ≤ n → n ≤ 4 → (made_for n c).config ≡ cut_to n c
unfolding made_for
made n c l m = rw (le-ltb n 1 l, le-ltb 4 n m)

-- all but offsets o and strides s of the destination is default
abbrev pub placing : ℕ → List ℕ → List ℕ → Config
placing n o s = cut_to n (with_dst_stride (with_dst_offset defaults o) s)

-- it takes the whole shape
module _ (u : Tensor) (few : u.rank ≤ 4) (o s : List ℕ) where
  pub placing_whole : Boxed u (placing u.rank o s) u.shape
  unfolding cut_to
  placing_whole = record {
    perm = cut_array u.rank few (λ d. d);
    pre = cut_zero u.rank few;
    post = cut_zero u.rank few;
    step = cut_array u.rank few (λ d. 1);
    size = λ i h. taken_all u (placing u.rank o s) i (cut_zero u.rank few i h) (cut_zero u.rank few i h);
  }

  -- and reads at each coordinate the element of that coordinate
  pub placing_place : (x : ℕ → ℕ) → source_place u (placing u.rank o s) x ≡ sum u.rank (λ i. source_at u i (x i))
  unfolding cut_to
  placing_place x =
      boxed_source placing_whole x ∙
      sum_same u.rank _ _ (λ i h. ap (λ (o : ℕ). source_at u i o) (ap (λ (o : ℕ). o + x i) (cut_zero u.rank few i h) ∙ zero-add (x i)))

  -- so it is accepted as far as the source's dimensions go
  pub placing_config : GoodSource u → GoodConfig u (placing u.rank o s)
  unfolding cut_to
  placing_config g =
      boxed_config placing_whole
      (λ i h. (g.shape i h).1)
      (λ i h. omega (arith, cut_zero u.rank few i h, (g.shape i h).0))
      (λ i h. omega (arith, cut_zero u.rank few i h))

-- the copy is one of these
abbrev pub copied : ℕ → Config
copied n = cut_to n defaults

module _ (u : Tensor) (few : u.rank ≤ 4) where
  pub copy_whole : Boxed u (copied u.rank) u.shape
  copy_whole = placing_whole u few zeros zeros

  pub copy_place : (x : ℕ → ℕ) → source_place u (copied u.rank) x ≡ sum u.rank (λ i. source_at u i (x i))
  copy_place = placing_place u few zeros zeros

  pub copy_config_lem : GoodSource u → GoodConfig u (copied u.rank)
  copy_config_lem = placing_config u few zeros zeros
