-- From what the checks of `sub_tensor` answer, in their order, to the definition of its answer. Assumes nothing.
use Prim.Native.Nat.{ℕ, ◌+◌, ◌*◌, ◌≤◌, ◌<◌}
use native.Mathlib.Decide.{ℕ_discrete, dec_lt}
use native.Mathlib.Omega.{arith}
use mathlib.Core.Path.{◌≡◌, sym, ap, ap₂, ◌∙◌}
use mathlib.Core.Bool.{Bool, true, false, ◌||◌}
use mathlib.Core.List.{List}
use borrow.Author.Tests.{ltb-false, eqb-false}
use lib.Dec.{ltb, eqb}
use lib.IntN.{ℤ, pos}
use lib.ListN.{length}
use Rattle.plane.specs.declared.Tensor.{Tensor}
use Rattle.faults.specs.declared.Fault.{Fault}
use Rattle.plane.specs.declared.SubConfig.{SubConfig}
use Rattle.plane.specs.declared.SubTensor.{SubTensor}
use Rattle.plane.specs.declared.sub.Staying.{Staying}
use Rattle.plane.specs.Arrays.{at, array, firsts, firsts_or, sum, how_many}
use Rattle.plane.specs.Signs.{signed, at_z}
use Rattle.faults.specs.Faults.{lowest}
use Rattle.plane.specs.Planes.{shape_at, stride_at, down_at, up, resolved, src_strides}
use Rattle.plane.specs.Helpers.{bad_sub_size, is_unit, staying, excess, sub_dim, resolved_at, lowest_in, sub_of, sub_byte, no_sub, sub_answer}
use Rattle.plane.specs.Private.{IsPart, units_fault, staying_of, sub_accepted}
use Rattle.faults.proofs.Bools.{either_clear}
use Rattle.faults.proofs.Faults.{when_clear, if_fault_lem, if_none, lowest_clear}
use Rattle.plane.specs.Good.{GoodSource}
use Rattle.plane.proofs.Good.{positive}
use Rattle.plane.proofs.Arrays.{array_at, firsts_at, firsts_past, firsts_same, sum_same}
use Rattle.plane.proofs.Staying.{staying_count, staying_below}

-- an answer's number is its fault's
pub sub_status : (f : Fault) (t : Tensor) (x : ℕ) → (sub_answer f t x).status ≡ f.status
unfolding sub_answer
sub_status f t x = elim (ℕ_discrete f.status 0) [
  | yes z ↦ ap (λ (s : SubTensor). s.status) (if_none f (no_sub f) (record { status = 0; dim = 0; tensor = t; byte = x }) z) ∙ sym z
  | no z ↦ ap (λ (s : SubTensor). s.status) (if_fault_lem f (no_sub f) (record { status = 0; dim = 0; tensor = t; byte = x }) z)
]

-- ---- 8: where it passed, the part lies in the shape

pub part_is : {t : Tensor} (s : SubConfig) → GoodSource t → (lowest 8 t.rank (λ d. bad_sub_size (shape_at t d) (at s.offset d) (at s.size d))).status ≡ 0
    → (d : ℕ) → d < t.rank → IsPart (shape_at t d) (at s.offset d) (at s.size d)
part_is {t} s g z d h =
    let w = either_clear (eqb (at s.size d) 0) _
    (lowest_clear 8 t.rank (λ d. bad_sub_size (shape_at t d) (at s.offset d) (at s.size d)) d (omega arith) z h) in
    record {
      some = positive _ (eqb-false _ _ w.0);
      fits = omega (arith, ltb-false (shape_at t d) (at s.size d + at s.offset d) w.1);
      most = (g.shape d h).1;
    }

-- how many strides up its lowest element lies
abbrev low_up : Tensor → SubConfig → ℕ → ℕ
low_up t s d = up (down_at t d) (shape_at t d) (lowest_in (down_at t d) (at s.offset d) (at s.size d))

pub low_small : (t : Tensor) (s : SubConfig) {o : List ℕ} → t.rank ≤ 4 → ((d : ℕ) → d < t.rank → IsPart (shape_at t d) (at s.offset d) (at s.size d))
    → o ≡ firsts t.rank (low_up t s) → (d : ℕ) → d < t.rank → at o d ≤ 131072
low_small t s four b e d h = rw (e, firsts_at 0 t.rank (low_up t s) d four h) (small (down_at t d) (b d h))
  where
    small : (down : Bool) {shape offset size : ℕ} → IsPart shape offset size → up down shape (lowest_in down offset size) ≤ 131072
    small true w = omega (arith, w.most)
    small false w = omega (arith, w.most, w.fits)

-- every resolved stride is within the limit
pub strides_most : {t : Tensor} → GoodSource t → (d : ℕ) → d < 4 → at (src_strides t) d ≤ 2147483647
strides_most {t} g d l = elim (dec_lt d t.rank) [
  | yes h ↦ rw (firsts_at 0 t.rank (resolved t.rank (shape_at t) (stride_at t)) d g.rank.1 h) (g.strides.most d h)
  | no h ↦ omega (arith, firsts_past 0 t.rank (resolved t.rank (shape_at t) (stride_at t)) d l (omega arith))
]

-- ---- where 14 and 15 passed: z are the sizes of the resolved strides, l the strides with their signs, and p is what is left without unit
-- dimensions

module _ (t : Tensor) (s : SubConfig) (r : (eqb s.rank 0 || ltb t.rank s.rank) ≡ false) where
  pub rank_fits : s.rank ≤ t.rank
  rank_fits = ltb-false _ _ (either_clear (eqb s.rank 0) _ r).1

  module _ {z : List ℕ} {l : List ℤ} {p : Staying} (ez : z ≡ src_strides t) (el : l ≡ array (λ d. signed (down_at t d) (at z d))) (ep : p ≡ staying_of t.rank (at s.size) (at_z l) (excess t s)) where
    module _ (four : t.rank ≤ 4) (u : (units_fault t.rank (at s.size) (excess t s)).status ≡ 0) where
      enough : excess t s ≤ how_many t.rank (is_unit (at s.size))
      enough = ltb-false _ _ (when_clear 15 0 _ (omega arith) u)

      -- as many are left as the rank asks for
      left : length (staying (at s.size) (excess t s) t.rank) ≡ s.rank
      left = staying_count (at s.size) s.rank t.rank rank_fits enough

      its_shape : p.shape ≡ firsts s.rank (λ i. at s.size (sub_dim t s i))
      unfolding staying_of
      its_shape = ap (λ (x : Staying). x.shape) ep ∙ ap (λ (m : ℕ). firsts m (λ i. at s.size (sub_dim t s i))) left

      its_stride : p.stride ≡ firsts_or (pos 0) s.rank (λ i. resolved_at t (sub_dim t s i))
      unfolding staying_of
      its_stride =
          ap (λ (x : Staying). x.stride) ep ∙
          ap (λ (m : ℕ). firsts_or (pos 0) m (λ i. at_z l (sub_dim t s i))) left ∙
          firsts_same (pos 0) s.rank _ _
          (λ i k.
          let b = staying_below (at s.size) (excess t s) t.rank i (omega (arith, left)) in
          ap (λ (x : List ℤ). at_z x (sub_dim t s i)) el ∙
          array_at (λ d. signed (down_at t d) (at z d)) (pos 0) (sub_dim t s i) (omega arith) ∙
          ap (λ (x : List ℕ). signed (down_at t (sub_dim t s i)) (at x (sub_dim t s i))) ez)

      its_tensor : record { rank = s.rank; element_size = t.element_size; shape = p.shape; stride = p.stride } ≡ sub_of t s
      unfolding sub_of
      its_tensor = λ i. record { rank = s.rank; element_size = t.element_size; shape = its_shape i; stride = its_stride i }

      -- x is the distance from the source's lowest element to the sub-tensor's
      pub sub_given : {x : ℕ} {o : List ℕ} → o ≡ firsts t.rank (low_up t s) → x ≡ sum t.rank (λ d. at o d * at z d) →
          record { status = 0; dim = 0; tensor = record { rank = s.rank; element_size = t.element_size; shape = p.shape; stride = p.stride }; byte = x * t.element_size } ≡ sub_accepted t s
      unfolding sub_byte
      sub_given eo e =
          let ex = e ∙ sum_same t.rank _ _
          (λ d k. ap₂ (λ (v w : List ℕ). at v d * at w d) eo ez ∙ ap (λ (v : ℕ). v * at (src_strides t) d) (firsts_at 0 t.rank (low_up t s) d four k)) in
          λ i. record { status = 0; dim = 0; tensor = its_tensor i; byte = ex i * t.element_size }
