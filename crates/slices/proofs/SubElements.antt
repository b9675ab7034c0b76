-- The elements of a sub-tensor are the plane's, also where unit dimensions are removed: its element at x is the plane's at offset + x
-- in the dimensions that stay, and at the offset in those that are removed. Assumes nothing.
use Prim.Native.Nat.{ℕ, zero, suc, ◌+◌, ◌-◌, ◌*◌, ◌≤◌, ◌<◌}
use native.Mathlib.Nat.{add-zero, add-mul, add_assoc, zero-mul, one-mul}
use native.Mathlib.Omega.{arith}
use mathlib.Core.Path.{◌≡◌, refl, sym, ap, ◌∙◌}
use mathlib.Core.Bool.{Bool, true, false, cond}
use mathlib.Core.List.{List}
use lib.ListN.{length, get_or}
use lib.Seq.{get_or-drop}
use Rattle.plane.specs.declared.Tensor.{Tensor}
use Rattle.plane.specs.declared.SubConfig.{SubConfig}
use Rattle.plane.specs.declared.SubTensor.{SubTensor}
use Rattle.plane.specs.Arrays.{at, sum}
use Rattle.plane.specs.Planes.{shape_at, down_at, up, src_strides, source_at, span}
use Rattle.plane.specs.Helpers.{removed, staying, excess, sub_dim, lowest_in, sub_of, sub_byte, sub_tensor_of}
use Rattle.ready_made.specs.ReadyMade.{defaults}
use Rattle.plane.proofs.Arrays.{sum_same}
use Rattle.plane.specs.Good.{GoodSub}
use Rattle.plane.proofs.Staying.{gone}
use Rattle.plane.proofs.SubTensors.{sub_count, sub_shape, sub_size, sub_down, sub_told, sub_given, sub_accepted}
use Rattle.plane.proofs.Good.{source_good}
use Rattle.slices.specs.Claims.{Taken, whole_at, sub_at, element_byte, CopyReads, PlaneSpans, WholeStays, WholeRemoved, WholeInside, SubPlace, SubLowest, SubElement}
use Rattle.mover.proofs.Sums.{sum_joined}
use Rattle.slices.proofs.Spread.{spread, stays_at, spread_at, spread_below, spread_sum}
use Rattle.slices.proofs.Boxes.{made, copy_place}
use Rattle.mover.proofs.SubParts.{part_here}

-- ---- coordinates and places

pub copy_reads : CopyReads
copy_reads t l m y = rw (made t.rank defaults l m, copy_place t m y)

-- from the lowest of z elements from coordinate o on, coordinate x of them lies as far up as among themselves
way_up : (down : Bool) (shape o z x : ℕ) → z + o ≤ shape → x < z → up down shape (lowest_in down o z) + up down z x ≡ up down shape (o + x)
way_up true shape o z x h l = omega arith
way_up false shape o z x h l = omega arith

-- and one element alone is the lowest
one_up : (down : Bool) (shape o z : ℕ) → z ≡ 1 → up down shape (lowest_in down o z) + 0 ≡ up down shape (o + 0)
one_up true shape o z u = omega arith
one_up false shape o z u = omega arith

module _ {t : Tensor} {s : SubConfig} {srcLen : ℕ} (g : GoodSub t s srcLen) (x : ℕ → ℕ) (w : (i : ℕ) → i < s.rank → x i < shape_at (sub_of t s) i) where
  -- how many strides up coordinate i lies in the sub-tensor, and the sub-tensor's lowest in dimension d of the plane
  abbrev own : ℕ → ℕ
  own i = up (down_at (sub_of t s) i) (shape_at (sub_of t s) i) (x i)

  abbrev lowest : ℕ → ℕ
  lowest d = up (down_at t d) (shape_at t d) (lowest_in (down_at t d) (at s.offset d) (at s.size d))

  -- both together are how far up the plane's coordinate lies
  part_up : (d : ℕ) → d < t.rank → lowest d + spread (at s.size) (excess t s) own d ≡ up (down_at t d) (shape_at t d) (whole_at t s x d)
  part_up d h = elim (removed (at s.size) (excess t s) d) as (λ b. removed (at s.size) (excess t s) d ≡ b → lowest d + spread (at s.size) (excess t s) own d ≡ up (down_at t d) (shape_at t d) (whole_at t s x d)) [
    | true ↦ λ e.
        let u = (gone (at s.size) (excess t s) d e).unit in
        rw e (one_up (down_at t d) (shape_at t d) (at s.offset d) (at s.size d) u)
    | false ↦ λ e.
        let k = stays_at (at s.size) (excess t s) t.rank d h e in
        let i = length (staying (at s.size) (excess t s) d) in
        let l : i < s.rank = omega (arith, k.0, sub_count g) in
        let z = sub_shape g i l ∙ ap (at s.size) k.1 in
        let y : x i < at s.size d = omega (arith, w i l, z) in
        rw (e, sub_down g i l, z, k.1) (way_up (down_at t d) (shape_at t d) (at s.offset d) (at s.size d) (x i) (g.size d h).1 y)
  ] refl

  -- so the places are the same, in bytes
  pub place_whole : sub_byte t s + sum s.rank (λ i. source_at (sub_of t s) i (x i)) * t.element_size ≡ element_byte t (whole_at t s x)
  unfolding sub_byte
  place_whole =
      let e : sum s.rank (λ i. own i * at (src_strides (sub_of t s)) i) ≡ sum t.rank (λ d. spread (at s.size) (excess t s) own d * at (src_strides t) d) =
      sum_same s.rank _ _ (λ i h. ap (λ (y : ℕ). own i * y) (sub_size g i h)) ∙
      ap (λ (m : ℕ). sum m (λ i. own i * at (src_strides t) (sub_dim t s i))) (sym (sub_count g)) ∙
      spread_sum (at s.size) (excess t s) own (at (src_strides t)) t.rank in
      rw e
      (sum_joined t.rank _ _ _ t.element_size
      (λ d h. sym (add-mul (lowest d) (spread (at s.size) (excess t s) own d) (at (src_strides t) d)) ∙ ap (λ (y : ℕ). y * at (src_strides t) d) (part_up d h)))

-- ---- what the calls answer

module _ (t : Tensor) (s : SubConfig) (src : List ℕ) (z : Taken t s src) where
  told : GoodSub t s (length src)
  told = sub_told t s (length src) z

  pub its_byte : (sub_tensor_of t s (length src)).byte ≡ sub_byte t s
  its_byte = ap (λ (r : SubTensor). r.byte) (sub_given t s (length src) z)

  pub its_tensor : sub_at t s src ≡ sub_of t s
  its_tensor = ap (λ (r : SubTensor). r.tensor) (sub_given t s (length src) z)

-- ---- the theorems

pub whole_stays : WholeStays
whole_stays t s src z x i h =
    ap (λ (y : ℕ). at s.offset (sub_dim t s i) + y)
    (spread_at (at s.size) (excess t s) x t.rank i (rw (sub_count (told t s src z)) h))

pub whole_removed : WholeRemoved
whole_removed t s x d e = rw (e, add-zero)

pub whole_inside : WholeInside
whole_inside t s src z x w d h =
    let g = told t s src z in
    let b = spread_below (at s.size) (excess t s) x t.rank (λ e l. (g.size e l).0)
    (λ i l. let k : i < s.rank = rw (sub_count g) at l in rw (← sub_shape g i k) (rw (its_tensor t s src z) at (w i k))) d h in
    omega (arith, (g.size d h).1)

pub sub_place : SubPlace
unfolding sub_of
sub_place t s src z x w =
    rw (its_byte t s src z, its_tensor t s src z)
    (place_whole (told t s src z) x (λ i h. rw (its_tensor t s src z) at (w i h)))

-- ---- the lowest element, and the highest

low_up_lem : (down : Bool) (shape : ℕ) → up down shape (cond down (shape - 1) 0) ≡ 0
low_up_lem true shape = omega arith
low_up_lem false shape = refl

high_up : (down : Bool) (shape : ℕ) → up down shape (cond down 0 (shape - 1)) ≡ shape - 1
high_up true shape = omega arith
high_up false shape = refl

low_in : (down : Bool) (shape : ℕ) → 1 ≤ shape → cond down (shape - 1) 0 < shape
low_in true shape h = omega arith
low_in false shape h = h

high_in : (down : Bool) (shape : ℕ) → 1 ≤ shape → cond down 0 (shape - 1) < shape
high_in true shape h = h
high_in false shape h = omega arith

none : (n : ℕ) (f : ℕ → ℕ) → ((d : ℕ) → f d ≡ 0) → sum n f ≡ 0
unfolding sum
none zero f h = refl
none (suc n) f h = omega (arith, none n f h, h n)

pub plane_spans : PlaneSpans
unfolding span
plane_spans t z =
    let g = source_good t z in
    let low : ℕ → ℕ = λ d. cond (down_at t d) (shape_at t d - 1) 0 in
    let high : ℕ → ℕ = λ d. cond (down_at t d) 0 (shape_at t d - 1) in
    let e = none t.rank (λ d. source_at t d (low d)) (λ d. ap (λ (k : ℕ). k * at (src_strides t) d) (low_up_lem (down_at t d) (shape_at t d)) ∙ zero-mul (at (src_strides t) d)) in
    let f = sum_same t.rank (λ d. source_at t d (high d)) (λ d. (shape_at t d - 1) * at (src_strides t) d) (λ d h. ap (λ (k : ℕ). k * at (src_strides t) d) (high_up (down_at t d) (shape_at t d))) in
    record {
      lowest = (low, λ d h. low_in (down_at t d) (shape_at t d) (g.shape d h).0, rw e (zero-mul t.element_size));
      highest = (high, λ d h. high_in (down_at t d) (shape_at t d) (g.shape d h).0, rw (f, add-mul, one-mul) (omega arith));
    }

pub sub_lowest : SubLowest
unfolding sub_of
sub_lowest t s src z =
    let r : (sub_at t s src).rank ≡ s.rank = ap (λ (a : SubTensor). a.tensor.rank) (sub_given t s (length src) z) in
    let w = (plane_spans (sub_at t s src) (sub_accepted t s (length src) z)).lowest in
    record {
      there = (w.0, w.1, sym (add-zero _) ∙ ap (λ (k : ℕ). (sub_tensor_of t s (length src)).byte + k) (sym w.2) ∙ sub_place t s src z w.0 (λ i h. w.1 i (omega arith)));
      lowest = λ x h. omega (arith, sub_place t s src z x (λ i l. h i (omega arith)));
    }

pub sub_element : SubElement
sub_element t s src z x w b =
    rw (part_here t s src z, get_or-drop)
    (ap (λ (k : ℕ). get_or src k 0) (sym (add_assoc _ _ b) ∙ ap (λ (k : ℕ). k + b) (sub_place t s src z x w)))
