-- A plane set into a larger one: the move is accepted, the plane's elements lie where the larger plane's lie, and nothing else is changed.
-- Assumes nothing.
use Prim.Native.Nat.{ℕ, suc, ◌+◌, ◌-◌, ◌*◌, ◌≤◌, ◌<◌}
use native.Mathlib.Nat.{mul_comm, le_trans, mul-le-mul, mul-le-mul_right}
use native.Mathlib.Omega.{arith}
use mathlib.Core.Path.{◌≡◌, sym, ap, ap₂, ◌∙◌}
use mathlib.Core.Logic.{◌⊎◌, ⊎_elim, inl, inr}
use mathlib.Core.Bool.{Bool}
use mathlib.Core.List.{List}
use lib.ListN.{length, get_or}
use Rattle.plane.specs.declared.Tensor.{Tensor}
use Rattle.plane.specs.declared.Config.{Config}
use Rattle.plane.specs.Arrays.{at, sum}
use Rattle.plane.specs.Planes.{shape_at, stride_at, up, resolved, src_strides, source_at, span}
use Rattle.plane.specs.Moves.{dst_extents, dst_strides, need}
use Rattle.plane.specs.Settings.{with_dst_offset, with_dst_stride}
use Rattle.ready_made.specs.ReadyMade.{defaults, cut_to, made_for}
use Rattle.plane.proofs.Arrays.{firsts_at, sum_same}
use Rattle.plane.proofs.Falling.{strides_within, strides_hold, written_stays, written_good}
use Rattle.plane.specs.Good.{GoodStrides, GoodSource, GoodDst}
use Rattle.plane.proofs.Good.{source_good, move_clear}
use Rattle.mover.specs.Element.{place}
use Rattle.mover.specs.Moved.{move_memory}
use Rattle.mover.proofs.Laws.{judged}
use Rattle.mover.proofs.Sums.{sum_least}
use Rattle.mover.specs.Demand2.{IsCoordinate, byte_at, source_byte, Meant, Accepted}
use Rattle.mover.proofs.Demand2.{demand_2}
use Rattle.slices.specs.Claims.{element_byte}
use Rattle.slices.proofs.Boxes.{Boxed, boxed_extent_at, boxed_kept, cut_at, made, placing, placing_whole, placing_place, placing_config}
use Rattle.joins.specs.Claims.{IsIn, Misses, set_config, Settable, IsSet, SetInto}
use Rattle.joins.proofs.Elements.{elements_apart}

module _ {w t : Tensor} {o src dst : List ℕ} (p : Settable w t o src dst) where
  abbrev c : Config
  c = placing t.rank o (src_strides w)

  good : GoodSource t
  good = source_good t p.source.0

  few : t.rank ≤ 4
  few = good.rank.1

  -- a dimension of t is one of w
  there : (i : ℕ) → i < t.rank → i < w.rank
  there i h = rw (← p.rank) h

  -- the ready-made configuration is this one, since t's rank is w's
  it_is : set_config w o ≡ c
  it_is =
      ap (λ (n : ℕ). (made_for n (with_dst_stride (with_dst_offset defaults o) (src_strides w))).config) (sym p.rank) ∙
      made t.rank (with_dst_stride (with_dst_offset defaults o) (src_strides w)) good.rank.0 few

  -- ---- the whole of t is taken

  boxed : Boxed t c t.shape
  boxed = placing_whole t few o (src_strides w)

  extent_at_lem : (i : ℕ) → i < t.rank → at (dst_extents t c) i ≡ shape_at t i
  extent_at_lem = boxed_extent_at boxed few

  inside : (x : ℕ → ℕ) → IsIn t x → IsCoordinate t c x
  inside x a i h = rw (extent_at_lem i h) (a i h)

  outside : (x : ℕ → ℕ) → IsCoordinate t c x → IsIn t x
  outside x a i h = rw (← extent_at_lem i h) (a i h)

  -- ---- its offsets are o, and its strides w's

  offset_at : (i : ℕ) → i < t.rank → at c.dst_offset i ≡ at o i
  unfolding cut_to
  offset_at i h = cut_at t.rank few o i h

  asked_at : (i : ℕ) → i < t.rank → at c.dst_stride i ≡ at (src_strides w) i
  unfolding cut_to
  asked_at i h = cut_at t.rank few (src_strides w) i h

  wide_few : w.rank ≤ 4
  wide_few = rw (← p.rank) few

  -- t fits in, so no shape of w is 0
  wide_some : (i : ℕ) → i < w.rank → 1 ≤ shape_at w i
  wide_some i h = omega (arith, (good.shape i (rw p.rank h)).0, p.fits i h)

  within : (i : ℕ) → i < t.rank → (1 ≤ at (src_strides w) i) × (at (src_strides w) i ≤ 2147483647)
  within i h = strides_within w.rank (shape_at w) (stride_at w) wide_few wide_some p.strides i (there i h)

  -- what lies in w's dimension e fits the stride of any further out
  falls : (k d e : ℕ) → d < e → e < t.rank → k ≤ shape_at w e → k * at (src_strides w) e ≤ at (src_strides w) d
  falls k d e l h m =
      le_trans (mul-le-mul_right (at (src_strides w) e) m)
      (rw mul_comm (strides_hold w.rank (shape_at w) (stride_at w) wide_few wide_some p.strides d e l (there e h)))

  -- none is 0, so each stays as it is written
  stride_at_lem : (i : ℕ) → i < t.rank → at (dst_strides t c) i ≡ at (src_strides w) i
  stride_at_lem i h =
      firsts_at 0 t.rank (resolved t.rank (at (dst_extents t c)) (at c.dst_stride)) i few h ∙
      written_stays t.rank (at (dst_extents t c)) (at c.dst_stride) i (rw (asked_at i h) (within i h).0) ∙
      asked_at i h

  strides_good : GoodStrides t.rank (at (dst_extents t c)) (at c.dst_stride)
  strides_good =
      written_good t.rank (at (dst_extents t c)) (at c.dst_stride)
      (λ i h. rw (asked_at i h) (within i h))
      (λ i h.
      rw (asked_at (suc i) h, asked_at i (omega arith), extent_at_lem (suc i) h, mul_comm)
      (falls (shape_at t (suc i)) i (suc i) (omega arith) h (omega (arith, p.fits (suc i) (there (suc i) h)))))

  dst_good : GoodDst t c
  dst_good = record {
    strides = strides_good;
    offset = λ i h. rw (offset_at i h) (p.limit i (there i h));
    row = λ i l h.
        rw (offset_at i h, extent_at_lem i h, stride_at_lem i h, stride_at_lem (i - 1) (omega arith))
        (falls (at o i + shape_at t i) (i - 1) i (omega arith) h (p.fits i (there i h)));
  }

  -- ---- so it is accepted

  -- its last element lies no further than w's
  need_most : need t c ≤ span w
  unfolding need span
  need_most =
      let f : ℕ → ℕ = λ i. (at c.dst_offset i + at (dst_extents t c) i - 1) * at (dst_strides t c) i in
      let g : ℕ → ℕ = λ i. (shape_at w i - 1) * at (src_strides w) i in
      let l = sum_least t.rank f g
      (λ i h. rw (stride_at_lem i h) (mul-le-mul_right (at (src_strides w) i) (omega (arith, offset_at i h, extent_at_lem i h, p.fits i (there i h))))) in
      let e = ap (λ (n : ℕ). sum n g) p.rank in
      let u : 1 + sum t.rank f ≤ 1 + sum w.rank g = omega arith in
      let v : t.element_size ≤ w.element_size = omega (arith, p.element) in
      mul-le-mul u v

  accepted : Accepted t c src dst
  accepted =
      judged t c (length src) (length dst) ∙
      move_clear t c (length src) (length dst) (record {
        source = good;
        long = p.source.1;
        config = placing_config t few o (src_strides w) good;
        destination = dst_good;
        room = le_trans need_most p.room;
      })

  -- ---- and leaves t's elements where w's are

  byte_here : (x : ℕ → ℕ) → byte_at t c x ≡ element_byte w (λ i. at o i + x i)
  unfolding place
  byte_here x =
      ap₂ (λ (a b : ℕ). a * b)
      (sum_same t.rank _ _
      (λ i h.
      ap₂ (λ (a b : ℕ). (a + x i) * b) (offset_at i h) (stride_at_lem i h) ∙
      ap (λ (b : Bool). up b (shape_at w i) (at o i + x i) * at (src_strides w) i) (sym (p.up i (there i h)))) ∙
      ap (λ (n : ℕ). sum n (λ i. source_at w i (at o i + x i))) p.rank)
      p.element

  source_here : (x : ℕ → ℕ) → source_byte t c x ≡ element_byte t x
  source_here x = ap (λ (k : ℕ). k * t.element_size) (placing_place t few o (src_strides w) x)

  meant : Meant t c src dst (move_memory t c src dst)
  meant = demand_2 t c src dst accepted

  -- t's coordinates are w's, from o on
  pub set_inside : (x : ℕ → ℕ) → IsIn t x → IsIn w (λ i. at o i + x i)
  set_inside x a i h = omega (arith, p.fits i h, a i (rw p.rank h))

  -- w's element at y, before t or past it in dimension i, has no byte in common with t's
  beside : (y : ℕ → ℕ) → IsIn w y → (i : ℕ) → i < w.rank → ((y i < at o i) ⊎ (at o i + shape_at t i ≤ y i)) → (k : ℕ) → k < w.element_size →
      (x : ℕ → ℕ) → IsIn t x → Misses w (λ j. at o j + x j) (element_byte w y + k)
  beside y v i h q k l x a =
      ⊎_elim
      (λ m. inl (omega arith))
      (λ m. inr (omega arith))
      (elements_apart w wide_few p.strides y (λ j. at o j + x j) v (set_inside x a) i h
      (λ e. ⊎_elim (λ m. omega arith) (λ m. omega (arith, a i (rw p.rank h))) q))

  rest : (k : ℕ) → ((x : ℕ → ℕ) → IsIn t x → Misses w (λ i. at o i + x i) k) → get_or (move_memory t c src dst) k 0 ≡ get_or dst k 0
  rest k a = meant.rest k (λ x v. rw (byte_here x, p.element) (a x (outside x v)))

  set : IsSet w t o src dst (move_memory t c src dst)
  set = record {
    long = meant.long;
    inside = λ x a. rw (← byte_here x, ← p.element) (meant.placed x (inside x a)).inside;
    placed = λ x a k h.
        let v = inside x a in
        rw (← byte_here x, ← source_here x) ((meant.placed x v).source (boxed_kept boxed few x v) k (rw p.element h)).1;
    others = λ y v i h q k l. rest (element_byte w y + k) (beside y v i h q k l);
    rest = rest;
  }

-- ---- the theorem

pub set_into : SetInto
set_into w t o src dst p = rw (it_is p) (accepted p, set p)
