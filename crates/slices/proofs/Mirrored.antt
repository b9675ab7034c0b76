-- A plane mirrored in one dimension, moved, is the plane with that coordinate counted from the other end. Assumes nothing.
use Prim.Native.Nat.{ℕ, zero, suc, ◌+◌, ◌*◌, ◌≤◌, ◌<◌}
use native.Mathlib.Decide.{dec_lt, ℕ_discrete}
use native.Mathlib.Omega.{arith}
use mathlib.Core.Path.{◌≡◌, refl, sym, ap, ◌∙◌}
use mathlib.Core.List.{List, [], ◌∷◌}
use borrow.Author.Tests.{eq-eqb, ne_eqb}
use lib.IntN.{ℤ, pos, neg_ℤ, neg_ℤ-neg_ℤ}
use lib.ListN.{length, get_or, set, get_or-eq_default}
use Rattle.plane.specs.declared.Tensor.{Tensor}
use Rattle.plane.specs.declared.Config.{Config}
use Rattle.plane.specs.declared.Answer.{Answer}
use Rattle.plane.specs.Arrays.{at, firsts_or, sum, product, some, every}
use Rattle.plane.specs.Signs.{size_of, at_z, sizes}
use Rattle.faults.specs.Faults.{when, ◌or_else◌, first, lowest, outward}
use Rattle.plane.specs.Planes.{shape_at, inner, resolved, bad_stride_at, source_at, span, source_fault}
use Rattle.plane.specs.Moves.{count, extent, dst_extents, need, bad_dst_offset_at, config_fault, dst_fault, move_fault}
use Rattle.plane.specs.Mirrors.{mirrored, Mirrors}
use Rattle.plane.proofs.Arrays.{sum_same}
use Rattle.plane.proofs.Signed.{sizes_at}
use Rattle.plane.proofs.Mirrors.{mirrored_plane}
use Rattle.plane.proofs.Unseen.{signs_unjudged}
use Rattle.ready_made.specs.ReadyMade.{defaults, cut_to, made_for}
use Rattle.mover.specs.Element.{dim_of, k_of, is_kept, are_kept, source_place, place, element}
use Rattle.mover.specs.Moved.{total, per_step, coord_of, stored, moved, move_memory}
use Rattle.mover.specs.Demand2.{IsCoordinate, byte_at, source_byte, Accepted}
use Rattle.mover.proofs.Demand2.{demand_2}
use Rattle.mover.proofs.Laws.{judged_good}
use Rattle.mover.proofs.Fitting.{kept_within}
use Rattle.slices.specs.Mirrored.{Mirrorable, turned, counted_back, MirroredByte, MirroredTwice, MirroredAccepted, MirroredPlaces, MirroredSource, MirroredCopy, RowsMirrored}
use Rattle.slices.proofs.Boxes.{boxed_extent_at, boxed_kept, made, copied, copy_whole, copy_place}

module _ {t : Tensor} {d : ℕ} (m : Mirrorable t d) where
  -- a stride that is written is one of the four
  one_of_four : d < 4
  one_of_four = elim (dec_lt d 4) [
    | yes l ↦ l
    | no l ↦ absurd (m.written (sizes_at t.stride d ∙ ap size_of (get_or-eq_default t.stride (pos 0) (omega (arith, m.four)))))
  ]

  mirrors : Mirrors t d
  mirrors = mirrored_plane t d m.four one_of_four m.written

  -- dimension by dimension
  turned_at : (e k : ℕ) → (e ≡ d → k < shape_at t e) → source_at (mirrored t d) e k ≡ source_at t e (turned t d e k)
  turned_at e k l = elim (ℕ_discrete e d) [
    | yes q ↦ rw (q, eq-eqb d d refl) (mirrors.here k (rw q at (l q)))
    | no q ↦ rw (ne_eqb e d q) (mirrors.others e k q)
  ]

  -- coordinates counted back are coordinates
  back_in : (x : ℕ → ℕ) → ((i : ℕ) → i < t.rank → x i < shape_at t i) → (i : ℕ) → i < t.rank → counted_back t d x i < shape_at t i
  back_in x w i h = elim (ℕ_discrete i d) [
    | yes q ↦ rw (q, eq-eqb d d refl) (omega (arith, w d m.along))
    | no q ↦ rw (ne_eqb i d q) (w i h)
  ]

-- ---- the theorems on its elements, and on its moves by any configuration

pub mirrored_byte : MirroredByte
mirrored_byte t d m y l =
    ap (λ (k : ℕ). k * t.element_size) (sum_same t.rank _ _ (λ e h. turned_at m e (y e) (λ q. rw q l)))

pub mirrored_twice : MirroredTwice
mirrored_twice t d =
    λ i. record { rank = t.rank; element_size = t.element_size; shape = t.shape; stride = twice t.stride d i }
  where
    twice : (xs : List ℤ) (d : ℕ) → set (set xs d (neg_ℤ (at_z xs d))) d (neg_ℤ (at_z (set xs d (neg_ℤ (at_z xs d))) d)) ≡ xs
    twice [] d = refl
    twice (x ∷ xs) zero = ap (λ (y : ℤ). y ∷ xs) (neg_ℤ-neg_ℤ x)
    twice (x ∷ xs) (suc d) = ap (λ (ys : List ℤ). x ∷ ys) (twice xs d)

pub mirrored_accepted : MirroredAccepted
mirrored_accepted t d m c src dst =
    let e = ap (λ (a : Answer). a.status) (signs_unjudged.judge t (mirrored t d) (mirrors m).sizes c (length src) (length dst)) in
    (λ z. e ∙ z, λ z. sym e ∙ z)

pub mirrored_places : MirroredPlaces
unfolding place dst_extents extent count
mirrored_places t d c = (λ i. refl, λ x. refl)

pub mirrored_source : MirroredSource
unfolding source_place
mirrored_source t d m c src dst z x k =
    let g = judged_good t c (length src) (length dst) z in
    sum_same t.rank _ _
    (λ i h.
    let s = dim_of c i in
    let p = g.config.perm i h in
    let l : at c.offset s + k_of c i (x i) * at c.step s < shape_at t s =
    omega (arith, kept_within g.config s (k_of c i (x i)) p (omega (arith, (k i h).1)), (g.source.shape s p).0) in
    turned_at m s _ (λ q. l))

-- ---- its copy

module _ {t : Tensor} {d : ℕ} (m : Mirrorable t d) (few : t.rank ≤ 4) (src dst : List ℕ) (z : Accepted t (copied t.rank) src dst) where
  abbrev c : Config
  c = copied t.rank

  inside : (x : ℕ → ℕ) → ((i : ℕ) → i < t.rank → x i < shape_at t i) → IsCoordinate t c x
  inside x w i h = rw (boxed_extent_at (copy_whole t few) few i h) (w i h)

  bytes : (x : ℕ → ℕ) → x d < shape_at t d → source_byte (mirrored t d) c x ≡ source_byte t c (counted_back t d x)
  bytes x l =
      ap (λ (k : ℕ). k * t.element_size) (copy_place (mirrored t d) few x) ∙
      mirrored_byte t d m x l ∙
      ap (λ (k : ℕ). k * t.element_size) (sym (copy_place t few (counted_back t d x)))

  copy_back : (x : ℕ → ℕ) → ((i : ℕ) → i < t.rank → x i < shape_at t i) → (b : ℕ) → b < t.element_size →
      get_or (move_memory (mirrored t d) c src dst) (byte_at t c x + b) 0 ≡ get_or (move_memory t c src dst) (byte_at t c (counted_back t d x) + b) 0
  unfolding place dst_extents extent count
  copy_back x w b h =
      let v = inside x w in
      let u = inside (counted_back t d x) (back_in m x w) in
      (((demand_2 (mirrored t d) c src dst ((mirrored_accepted t d m c src dst).1 z)).placed x v).source (boxed_kept (copy_whole (mirrored t d) few) few x v) b h).1 ∙
      ap (λ (k : ℕ). get_or src (k + b) 0) (bytes x (w d m.along)) ∙
      sym (((demand_2 t c src dst z).placed (counted_back t d x) u).source (boxed_kept (copy_whole t few) few (counted_back t d x) u) b h).1

pub mirrored_copy : MirroredCopy
mirrored_copy t d m src dst z =
    let r = (judged_good t _ (length src) (length dst) z).source.rank in
    let e = made t.rank defaults r.0 r.1 in
    rw e (copy_back m r.1 src dst (rw e at z))

-- ---- one written out

pub rows_mirrored : RowsMirrored
unfolding sizes source_fault when ◌or_else◌ lowest first outward bad_stride_at resolved inner firsts_or span sum product some every made_for cut_to move_memory move_fault config_fault dst_fault need extent count dst_extents bad_dst_offset_at moved stored coord_of per_step total element place source_place are_kept is_kept
rows_mirrored = record {
  mirrorable = (
    record { four = refl; along = omega arith; written = λ e. omega arith },
    record { four = refl; along = omega arith; written = λ e. omega arith },
  );
  as_it_is = refl;
  rows = refl;
  columns = refl;
  both = refl;
}
