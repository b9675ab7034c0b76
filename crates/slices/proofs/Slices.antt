-- A sub-tensor, copied from the part of the source that starts at its byte, is the slice of the whole: also where unit dimensions are
-- removed. Assumes nothing.
use Prim.Native.Nat.{ℕ, suc, ◌+◌, ◌-◌, ◌*◌, ◌≤◌, ◌<◌}
use native.Mathlib.Nat.{zero-add, add_assoc, zero-mul, eq_of_mul-eq-mul_left}
use native.Mathlib.Decide.{dec_le}
use native.Mathlib.Omega.{arith}
use mathlib.Core.Path.{◌≡◌, sym, ap, ap₂, ◌∙◌}
use mathlib.Core.Logic.{◌↔◌}
use mathlib.Core.List.{List}
use lib.ListN.{length, get_or, drop, length-drop}
use lib.Seq.{get_or-drop}
use Rattle.plane.specs.declared.Tensor.{Tensor}
use Rattle.plane.specs.declared.Config.{Config}
use Rattle.plane.specs.declared.SubConfig.{SubConfig}
use Rattle.plane.specs.Arrays.{at, zeros, sum, product}
use Rattle.plane.specs.Planes.{shape_at, source_at}
use Rattle.plane.specs.Moves.{dst_strides, need}
use Rattle.plane.specs.Settings.{with_offset, with_size, with_dst_stride}
use Rattle.plane.specs.Helpers.{excess, sub_dim, sub_of, sub_byte}
use Rattle.ready_made.specs.ReadyMade.{defaults, cut_to}
use Rattle.plane.proofs.Arrays.{sum_same, product_same, product_positive}
use Rattle.plane.specs.Good.{GoodConfig, GoodDst, GoodMove, GoodSub}
use Rattle.plane.proofs.Good.{move_clear}
use Rattle.plane.proofs.Staying.{staying_sum}
use Rattle.plane.proofs.SubTensors.{sub_told, sub_count, sub_dim_below, sub_shape, sub_source, sub_within}
use Rattle.mover.specs.Element.{source_place, place}
use Rattle.mover.specs.Moved.{extent_at, move_memory}
use Rattle.mover.proofs.Keeping.{place_same}
use Rattle.slices.specs.Claims.{SubIsSlice, SubSliceAccepted}
use Rattle.slices.proofs.Spread.{staying_product, staying_heads, spread, spread_at, spread_below, spread_sum, spread_back}
use Rattle.slices.proofs.Boxes.{Boxed, boxed_extent_at, boxed_kept, boxed_stride, boxed_source, boxed_config, boxed_place, taken_some, cut_at, cut_zero, cut_array, made, copied, copy_whole, copy_place, copy_config_lem}
use Rattle.mover.proofs.SubParts.{part_here}
use Rattle.slices.proofs.SubElements.{place_whole, its_byte, its_tensor}
use Rattle.mover.proofs.Laws.{judged, judged_good, moved_refused}
use Rattle.mover.specs.Demand2.{IsCoordinate, Meant, Accepted}
use Rattle.mover.proofs.Demand2.{demand_2, demand_2_only}

-- the whole plane's configuration for the slice
abbrev sliced : Tensor → SubConfig → Config
sliced t s = cut_to t.rank (with_dst_stride (with_size (with_offset defaults s.offset) s.size) zeros)

module _ {t : Tensor} {s : SubConfig} {srcLen : ℕ} (g : GoodSub t s srcLen) where
  few : t.rank ≤ 4
  few = g.source.rank.1

  few_stay : s.rank ≤ 4
  few_stay = omega (arith, g.rank.1, few)

  -- ---- both take a box

  copy_boxed : Boxed (sub_of t s) (copied s.rank) (sub_of t s).shape
  unfolding sub_of
  copy_boxed = copy_whole (sub_of t s) few_stay

  slice_boxed : Boxed t (sliced t s) s.size
  unfolding cut_to
  slice_boxed = record {
    perm = cut_array t.rank few (λ d. d);
    pre = cut_zero t.rank few;
    post = cut_zero t.rank few;
    step = cut_array t.rank few (λ d. 1);
    size = λ i h.
        let e = cut_at t.rank few s.size i h in
        taken_some t (sliced t s) i (omega (arith, (g.size i h).0)) ∙ e;
  }

  copy_extent : (i : ℕ) → i < s.rank → extent_at (sub_of t s) (copied s.rank) i ≡ at s.size (sub_dim t s i)
  unfolding sub_of
  copy_extent i h = boxed_extent_at copy_boxed few_stay i h ∙ sub_shape g i h

  slice_extent : (d : ℕ) → d < t.rank → extent_at t (sliced t s) d ≡ at s.size d
  slice_extent d h = boxed_extent_at slice_boxed few d h

  -- ---- the destination's strides are the same in the dimensions that stay

  -- the strides of the copy, and of the slice
  abbrev ours : ℕ → ℕ
  ours i = at (dst_strides (sub_of t s) (copied s.rank)) i

  abbrev theirs : ℕ → ℕ
  theirs d = at (dst_strides t (sliced t s)) d

  stride_same : (i : ℕ) → i < s.rank → ours i ≡ theirs (sub_dim t s i)
  unfolding product sub_of cut_to
  stride_same i h =
      let d = sub_dim t s i in
      let sizes : ℕ → ℕ = λ j. at s.size (sub_dim t s j) in
      let heads = product_same (suc i) (shape_at (sub_of t s)) sizes (λ j l. sub_shape g j (omega arith)) ∙ staying_heads (at s.size) (excess t s) t.rank i (rw (sub_count g) h) in
      let all = product_same s.rank (shape_at (sub_of t s)) sizes (sub_shape g) ∙ ap (λ (m : ℕ). product m sizes) (sym (sub_count g)) ∙ staying_product (at s.size) (excess t s) t.rank in
      eq_of_mul-eq-mul_left (product (suc d) (at s.size))
      (product_positive (suc d) (at s.size) (λ j q. (g.size j (omega (arith, sub_dim_below g i h))).0)) (ours i) (theirs d)
      (ap (λ (y : ℕ). y * ours i) (sym heads) ∙
      boxed_stride copy_boxed few_stay (cut_zero s.rank few_stay) i h ∙
      all ∙
      sym (boxed_stride slice_boxed few (cut_zero t.rank few) d (sub_dim_below g i h)))

  -- so are the places and the need
  module _ (x : ℕ → ℕ) where
    abbrev wide : ℕ → ℕ
    wide d = spread (at s.size) (excess t s) x d

    places : place (sub_of t s) (copied s.rank) x ≡ place t (sliced t s) wide
    unfolding place sub_of cut_to
    places =
        sum_same s.rank _ _ (λ i h. ap₂ (λ (a b : ℕ). (a + x i) * b) (cut_zero s.rank few_stay i h) (stride_same i h) ∙ simp zero-add) ∙
        ap (λ (m : ℕ). sum m (λ i. x i * theirs (sub_dim t s i))) (sym (sub_count g)) ∙
        spread_sum (at s.size) (excess t s) x theirs t.rank ∙
        sum_same t.rank _ _ (λ d h. sym (ap (λ (a : ℕ). (a + wide d) * theirs d) (cut_zero t.rank few d h) ∙ simp zero-add))

    -- the byte of the sub-tensor and a place in it are the place in the whole
    sources : ((i : ℕ) → i < s.rank → x i < shape_at (sub_of t s) i) → sub_byte t s + source_place (sub_of t s) (copied s.rank) x * t.element_size ≡ source_place t (sliced t s) wide * t.element_size
    unfolding sub_of cut_to
    sources v =
        rw (copy_place (sub_of t s) few_stay x, boxed_source slice_boxed wide)
        (place_whole g x v ∙
        ap (λ (y : ℕ). y * t.element_size)
        (sum_same t.rank _ _ (λ d h. ap (λ (a : ℕ). source_at t d (a + wide d)) (sym (cut_at t.rank few s.offset d h)))))

  needs : need (sub_of t s) (copied s.rank) ≡ need t (sliced t s)
  unfolding need sub_of cut_to
  needs =
      ap (λ (y : ℕ). (1 + y) * t.element_size)
      (sum_same s.rank _ _
      (λ i h. let z = cut_zero s.rank few_stay i h in ap₂ (λ (a b : ℕ). a * b) (omega (arith, z, copy_extent i h)) (stride_same i h)) ∙
      ap (λ (m : ℕ). sum m (λ i. (at s.size (sub_dim t s i) - 1) * theirs (sub_dim t s i))) (sym (sub_count g)) ∙
      staying_sum (at s.size) (excess t s) (λ d. (at s.size d - 1) * theirs d) (λ d u. rw u (zero-mul (theirs d))) t.rank ∙
      sum_same t.rank _ _
      (λ d h. let z = cut_zero t.rank few d h in ap (λ (a : ℕ). a * theirs d) (omega (arith, z, slice_extent d h))))

  -- ---- both are accepted but for the need

  copy_taken : GoodConfig (sub_of t s) (copied s.rank)
  unfolding sub_of
  copy_taken = copy_config_lem (sub_of t s) few_stay (sub_source g)

  copy_good : GoodDst (sub_of t s) (copied s.rank)
  unfolding cut_to sub_of
  copy_good =
      boxed_place copy_boxed (sub_source g) (λ i h. (((sub_source g).shape i h).0, omega arith))
      (cut_zero s.rank few_stay) (cut_zero s.rank few_stay)

  slice_config_lem : GoodConfig t (sliced t s)
  unfolding cut_to
  slice_config_lem =
      boxed_config slice_boxed
      (λ d h. omega (arith, (g.size d h).1, (g.source.shape d h).1))
      (λ d h. omega (arith, cut_at t.rank few s.offset d h, g.offset d h))
      (λ d h. omega (arith, cut_at t.rank few s.offset d h, cut_at t.rank few s.size d h, (g.size d h).1))

  slice_good : GoodDst t (sliced t s)
  unfolding cut_to
  slice_good =
      boxed_place slice_boxed g.source (λ d h. ((g.size d h).0, omega (arith, (g.size d h).1)))
      (cut_zero t.rank few) (cut_zero t.rank few)

  -- ---- the elements are the same

  wide_inside : (x : ℕ → ℕ) → IsCoordinate (sub_of t s) (copied s.rank) x → IsCoordinate t (sliced t s) (wide x)
  unfolding sub_of
  wide_inside x w d h =
      rw (slice_extent d h)
      (spread_below (at s.size) (excess t s) x t.rank (λ e l. (g.size e l).0)
      (λ i l. let k : i < s.rank = rw (sub_count g) at l in rw (← copy_extent i k) (w i k)) d h)

  -- what the slice leaves is what the copy is to leave
  slice_meant : (src dst e : List ℕ) → Meant t (sliced t s) src dst e → Meant (sub_of t s) (copied s.rank) (drop (sub_byte t s) src) dst e
  unfolding sub_of
  slice_meant src dst e m = record {
    long = m.long;
    placed = λ x w.
        let o = m.placed (wide x) (wide_inside x w) in record {
          inside = rw (places x) o.inside;
          source = λ k b h.
              let u = o.source (boxed_kept slice_boxed few (wide x) (wide_inside x w)) b h in
              let f = sources x (λ i l. omega (arith, w i l, copy_extent i l, sub_shape g i l)) in (
                rw length-drop (omega (arith, u.0)),
                rw (places x) (u.1 ∙ ap (λ (j : ℕ). get_or src j 0) (ap (λ (j : ℕ). j + b) (sym f) ∙ add_assoc _ _ b) ∙ sym (get_or-drop (sub_byte t s) src _ 0)),
              );
          filled = λ i h n b l. absurd (n (boxed_kept copy_boxed few_stay x w i h));
        };
    apart = λ x y v w i h n.
        rw (places x, places y)
        (m.apart (wide x) (wide y) (wide_inside x v) (wide_inside y w) (sub_dim t s i) (sub_dim_below g i h)
        (λ q. n (sym (own x i h) ∙ q ∙ own y i h)));
    rest = λ k h. m.rest k (λ y w.
        let x : ℕ → ℕ = λ i. y (sub_dim t s i) in
        rw (← place_same t (sliced t s) (wide x) y (spread_back (at s.size) (excess t s) y t.rank (λ d l. rw (← slice_extent d l) (w d l))), ← places x)
        (h x (λ i l. rw (copy_extent i l, ← slice_extent (sub_dim t s i) (sub_dim_below g i l)) (w (sub_dim t s i) (sub_dim_below g i l)))));
  }
    where
      own : (x : ℕ → ℕ) (i : ℕ) → i < s.rank → wide x (sub_dim t s i) ≡ x i
      own x i h = spread_at (at s.size) (excess t s) x t.rank i (rw (sub_count g) h)

-- for the lent source and destination
module _ (t : Tensor) (s : SubConfig) (src dst : List ℕ) (g : GoodSub t s (length src)) where
  abbrev part : List ℕ
  part = drop (sub_byte t s) src

  copy_too : need t (sliced t s) ≤ length dst → GoodMove (sub_of t s) (copied s.rank) (length part) (length dst)
  copy_too h = record {
    source = sub_source g;
    long = rw length-drop (omega (arith, sub_within g, g.long));
    config = copy_taken g;
    destination = copy_good g;
    room = rw (needs g) h;
  }

  slice_too : need t (sliced t s) ≤ length dst → GoodMove t (sliced t s) (length src) (length dst)
  slice_too h = record { source = g.source; long = g.long; config = slice_config_lem g; destination = slice_good g; room = h }

  slice_memory : move_memory (sub_of t s) (copied s.rank) part dst ≡ move_memory t (sliced t s) src dst
  slice_memory = elim (dec_le (need t (sliced t s)) (length dst)) [
    | yes h ↦
        let z = judged t (sliced t s) (length src) (length dst) ∙ move_clear t (sliced t s) (length src) (length dst) (slice_too h) in
        let y = judged (sub_of t s) (copied s.rank) (length part) (length dst) ∙ move_clear (sub_of t s) (copied s.rank) (length part) (length dst) (copy_too h) in
        sym (demand_2_only (sub_of t s) (copied s.rank) part dst y (move_memory t (sliced t s) src dst) (slice_meant g src dst _ (demand_2 t (sliced t s) src dst z)))
    | no h ↦
        moved_refused (sub_of t s) (copied s.rank) part dst
        (λ e. h (rw (← needs g) (judged_good (sub_of t s) (copied s.rank) (length part) (length dst) e).room)) ∙
        sym (moved_refused t (sliced t s) src dst (λ e. h (judged_good t (sliced t s) (length src) (length dst) e).room))
  ]

  -- each is accepted if the destination is as long as their need
  both_accepted : Accepted (sub_of t s) (copied s.rank) part dst ↔ Accepted t (sliced t s) src dst
  both_accepted = (
    λ e.
        judged t (sliced t s) (length src) (length dst) ∙
        move_clear t (sliced t s) (length src) (length dst)
        (slice_too (rw (← needs g) (judged_good (sub_of t s) (copied s.rank) (length part) (length dst) e).room)),
    λ e.
        judged (sub_of t s) (copied s.rank) (length part) (length dst) ∙
        move_clear (sub_of t s) (copied s.rank) (length part) (length dst)
        (copy_too (judged_good t (sliced t s) (length src) (length dst) e).room),
  )

-- ---- the theorems, on what the calls answer

-- the copy of an accepted sub-tensor, from the part of the source that the second call hands back, leaves in any destination what the
-- slice of the whole leaves
pub sub_is_slice : SubIsSlice
sub_is_slice t s src dst z =
    let g = sub_told t s (length src) z in
    let n = g.source.rank in
    rw (part_here t s src z, its_byte t s src z, its_tensor t s src z, made s.rank defaults g.rank.0 (few_stay g), made t.rank (with_dst_stride (with_size (with_offset defaults s.offset) s.size) zeros) n.0 n.1)
    (slice_memory t s src dst g)

pub sub_slice_accepted : SubSliceAccepted
sub_slice_accepted t s src dst z =
    let g = sub_told t s (length src) z in
    let n = g.source.rank in
    rw (part_here t s src z, its_byte t s src z, its_tensor t s src z, made s.rank defaults g.rank.0 (few_stay g), made t.rank (with_dst_stride (with_size (with_offset defaults s.offset) s.size) zeros) n.0 n.1)
    (both_accepted t s src dst g)
