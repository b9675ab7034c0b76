-- Signed strides: what each means, around 0 and at both ends of the range, and a plane mirrored. That signs are not judged stands in Unseen.
-- Assumes nothing.
use Prim.Native.Nat.{ℕ, zero, suc, ◌-◌, ◌*◌, ◌≤◌, ◌<◌}
use native.Mathlib.Nat.{mul-one, mul-le-mul_left}
use native.Mathlib.Decide.{dec_lt, ℕ_discrete}
use native.Mathlib.Omega.{arith}
use mathlib.Core.Path.{◌≡◌, refl, sym, ap, ap₂, subst, subst⁻¹, ◌∙◌}
use mathlib.Core.Logic.{⊎_elim, inl, inr}
use mathlib.Core.Bool.{Bool, true, false, cond, not}
use mathlib.Core.List.{List}
use borrow.Author.Tests.{eq-eqb, ne_eqb, lt-ltb, le-ltb}
use lib.Dec.{ltb, eqb}
use lib.IntN.{ℤ, pos, negsuc, neg_ℤ}
use lib.ListN.{length}
use lib.Seq.{get_or-set_same, get_or-set_other}
use Rattle.plane.specs.declared.Tensor.{Tensor}
use Rattle.plane.specs.Arrays.{at, or0}
use Rattle.plane.specs.Signs.{size_of, is_down, at_z}
use Rattle.faults.specs.declared.Fault.{Fault}
use Rattle.faults.specs.Faults.{fault, overall, ◌then◌, first_fault}
use Rattle.plane.specs.Planes.{shape_at, stride_at, down_at, up, inner, resolved, bad_stride_at, src_strides, source_at, span, source_rules, source_fault, source_of}
use Rattle.plane.specs.Moves.{need, config_rules, dst_rules, move_rules, move_fault, answer_of, judge_of}
use Rattle.plane.specs.Mirrors.{SameSizes, StrideMeans, StridesMean, with_stride, ZeroWritten, LastAroundZero, UpTo, LargestTaken, LargestFirst, LargestInward, LeastRefused, SpanAsked, mirrored, MirroredPlane}
use Rattle.faults.proofs.Bools.{neither, either_first, either_second}
use Rattle.faults.proofs.Chains.{given_fault}
use Rattle.plane.proofs.Good.{positive, source_good, source_told, source_clear}
use Rattle.plane.proofs.Rules.{answer_refused}
use Rattle.plane.proofs.Signed.{sizes_at}
use Rattle.plane.proofs.Resolving.{inner_out}
use Rattle.plane.proofs.Falling.{inner_last, written_stays, strides_at}
use Rattle.plane.proofs.Unseen.{Alike, sizes_alike, alike_source, alike_strides, alike_judge}

-- the inner product of dimension d
abbrev within : Tensor → ℕ → ℕ
within t d = inner t.rank (shape_at t) (stride_at t) (t.rank - suc d)

-- ---- what each stride means

module _ (t : Tensor) (d : ℕ) (few : t.rank ≤ 4) (h : d < t.rank) where
  resolved_at_lem : at (src_strides t) d ≡ resolved t.rank (shape_at t) (stride_at t) d
  resolved_at_lem = strides_at t.rank (shape_at t) (stride_at t) few d h

  -- the stride is z
  module _ {z : ℤ} (e : at_z t.stride d ≡ z) where
    size_is : stride_at t d ≡ size_of z
    size_is = sizes_at t.stride d ∙ ap size_of e

    up_is : (x : ℕ) → up (down_at t d) (shape_at t d) x ≡ up (is_down z) (shape_at t d) x
    up_is x = ap (λ (y : ℤ). up (is_down y) (shape_at t d) x) e

    written : 1 ≤ size_of z → at (src_strides t) d ≡ size_of z
    written l = resolved_at_lem ∙ written_stays t.rank (shape_at t) (stride_at t) d (omega (arith, size_is)) ∙ size_is

    place_is : (s : ℕ) → at (src_strides t) d ≡ s → (x : ℕ) → source_at t d x ≡ up (is_down z) (shape_at t d) x * s
    place_is s f x = ap₂ (λ (a b : ℕ). a * b) (up_is x) f

  unwritten : at_z t.stride d ≡ pos 0 → at (src_strides t) d ≡ inner t.rank (shape_at t) (stride_at t) (t.rank - suc d)
  unfolding resolved
  unwritten e = resolved_at_lem ∙ rw (eq-eqb (stride_at t d) 0 (size_is e))

pub strides_mean : StridesMean
strides_mean t d few h = record {
  zero = λ e x. place_is t d few h e _ (unwritten t d few h e) x;
  above = λ n e x. place_is t d few h e (suc n) (written t d few h e (omega arith)) x;
  below = λ n e x. place_is t d few h e (suc n) (written t d few h e (omega arith)) x;
}

-- ---- strides that differ in one dimension

-- they resolve alike if they do there
module _ (n : ℕ) (sh st st' : ℕ → ℕ) (d : ℕ) (off : (e : ℕ) → (e ≡ d → ⊥) → st e ≡ st' e)
    (on : or0 (st d) (inner n sh st (n - suc d)) ≡ or0 (st' d) (inner n sh st (n - suc d))) where
  step_but : (e : ℕ) → or0 (st e) (inner n sh st (n - suc e)) ≡ or0 (st' e) (inner n sh st (n - suc e))
  step_but e = elim (ℕ_discrete e d) [
    | yes q ↦ subst⁻¹ (λ (k : ℕ). or0 (st k) (inner n sh st (n - suc k)) ≡ or0 (st' k) (inner n sh st (n - suc k))) q on
    | no q ↦ ap (λ (y : ℕ). or0 y (inner n sh st (n - suc e))) (off e q)
  ]

  inner_but : (k : ℕ) → k ≤ n → inner n sh st k ≡ inner n sh st' k
  unfolding inner
  inner_but zero h = refl
  inner_but (suc k) h =
      let e = n - suc k in
      let q : n - suc e ≡ k = omega arith in
      let w = subst (λ (m : ℕ). or0 (st e) (inner n sh st m) ≡ or0 (st' e) (inner n sh st m)) q (step_but e) in
      ap (λ (y : ℕ). y * sh e) (w ∙ ap (or0 (st' e)) (inner_but k (omega arith)))

  resolved_but : (e : ℕ) → e < n → resolved n sh st e ≡ resolved n sh st' e
  unfolding resolved
  resolved_but e h = step_but e ∙ ap (or0 (st' e)) (inner_but (n - suc e) (omega arith))

module _ (t : Tensor) (d : ℕ) (four : length t.stride ≡ 4) (l : d < 4) (y z : ℤ) where
  put_there : (w : ℤ) → stride_at (with_stride t d w) d ≡ size_of w
  put_there w = sizes_at (with_stride t d w).stride d ∙ ap size_of (get_or-set_same t.stride d w (pos 0) (omega arith))

  put_other : (w : ℤ) (e : ℕ) → (e ≡ d → ⊥) → stride_at (with_stride t d w) e ≡ stride_at t e
  put_other w e n = sizes_at (with_stride t d w).stride e ∙ ap size_of (get_or-set_other t.stride d e w (pos 0) n) ∙ sym (sizes_at t.stride e)

  put_alike : or0 (size_of y) (within (with_stride t d y) d) ≡ or0 (size_of z) (within (with_stride t d y) d) → Alike (with_stride t d y) (with_stride t d z)
  put_alike h =
      let off : (e : ℕ) → (e ≡ d → ⊥) → stride_at (with_stride t d y) e ≡ stride_at (with_stride t d z) e = λ e n. put_other y e n ∙ sym (put_other z e n) in
      let on = ap (λ (k : ℕ). or0 k (within (with_stride t d y) d)) (put_there y) ∙ h ∙ ap (λ (k : ℕ). or0 k (within (with_stride t d y) d)) (sym (put_there z)) in
      record {
        rank = refl;
        element = refl;
        shape = λ e h. refl;
        inner = inner_but t.rank (shape_at t) (stride_at (with_stride t d y)) (stride_at (with_stride t d z)) d off on;
        resolved = resolved_but t.rank (shape_at t) (stride_at (with_stride t d y)) (stride_at (with_stride t d z)) d off on;
      }

-- ---- a stride of 0, written out

either_way : (b : Bool) (x : ℕ) → cond b x x ≡ x
either_way true x = refl
either_way false x = refl

module _ (t : Tensor) (d : ℕ) (four : length t.stride ≡ 4) (few : t.rank ≤ 4) (h : d < t.rank) (e : at_z t.stride d ≡ pos 0) where
  abbrev out : Tensor
  out = with_stride t d (pos (at (src_strides t) d))

  out_there : at_z out.stride d ≡ pos (at (src_strides t) d)
  out_there = get_or-set_same t.stride d _ (pos 0) (omega arith)

  out_alike : Alike out t
  out_alike =
      let s = sizes_at out.stride d ∙ ap size_of out_there in
      let off : (k : ℕ) → (k ≡ d → ⊥) → stride_at t k ≡ stride_at out k = λ k n.
      sizes_at t.stride k ∙ sym (sizes_at out.stride k ∙ ap size_of (get_or-set_other t.stride d k _ (pos 0) n)) in
      let u = unwritten t d few h e in
      let on : or0 (stride_at t d) (within t d) ≡ or0 (stride_at out d) (within t d) =
      rw (eq-eqb (stride_at t d) 0 (size_is t d few h e)) (sym (ap (λ (k : ℕ). or0 k (within t d)) (s ∙ u) ∙ either_way (eqb (within t d) 0) (within t d))) in
      record {
        rank = refl;
        element = refl;
        shape = λ k l. refl;
        inner = λ k l. sym (inner_but t.rank (shape_at t) (stride_at t) (stride_at out) d off on k l);
        resolved = λ k l. sym (resolved_but t.rank (shape_at t) (stride_at t) (stride_at out) d off on k l);
      }

  out_down : (k : ℕ) → down_at out k ≡ down_at t k
  out_down k = elim (ℕ_discrete k d) [
    | yes q ↦ rw q (ap is_down out_there ∙ sym (ap is_down e))
    | no q ↦ ap is_down (get_or-set_other t.stride d k _ (pos 0) q)
  ]

pub zero_written : ZeroWritten
zero_written t d four few h e =
    let a = out_alike t d four few h e in
    record {
      source = alike_source _ _ _ _ _ a;
      judge = alike_judge _ _ _ _ _ a;
      places = λ k x. ap₂ (λ (b : Bool) (s : List ℕ). up b (shape_at t k) x * at s k) (out_down t d four few h e k) (alike_strides _ _ _ _ _ a);
    }

-- ---- around 0

pub last_around_zero : LastAroundZero
last_around_zero t d four few e =
    let l : d < t.rank = omega arith in
    let z : t.rank - suc d ≡ 0 = omega arith in
    let one : (y : ℤ) → within (with_stride t d y) d ≡ 1 = λ y.
    ap (inner t.rank (shape_at t) (stride_at (with_stride t d y))) z ∙ inner_last t.rank (shape_at t) (stride_at (with_stride t d y)) in
    let same : (y : ℤ) → or0 (size_of y) 1 ≡ 1 → source_of (with_stride t d y) ≡ source_of (with_stride t d (pos 0)) = λ y w.
    alike_source _ _ _ _ _ (put_alike t d four (omega arith) y (pos 0) (rw (one y) w)) in
    let there : (y : ℤ) → at_z (with_stride t d y).stride d ≡ y = λ y. get_or-set_same t.stride d y (pos 0) (omega arith) in
    let m : (y : ℤ) → StrideMeans (with_stride t d y) d = λ y. strides_mean (with_stride t d y) d few l in
    record {
      alike = (same (pos 1) refl, same (negsuc 0) refl);
      one = λ x. (m (pos 1)).above 0 (there (pos 1)) x ∙ mul-one x;
      zero = λ x. (m (pos 0)).zero (there (pos 0)) x ∙ ap (λ (k : ℕ). x * k) (one (pos 0)) ∙ mul-one x;
      minus_one = λ x. (m (negsuc 0)).below 0 (there (negsuc 0)) x ∙ mul-one (shape_at t d - 1 - x);
    }

-- ---- both ends of the range

-- 4 at d is given, if it is broken there
given_4 : (t : Tensor) (d : ℕ) → d < t.rank → UpTo t d → bad_stride_at t.rank (shape_at t) (stride_at t) d ≡ true → source_fault t ≡ fault 4 d
unfolding source_fault bad_stride_at
given_4 t d h u b =
    given_fault (source_rules t) 4 d (omega arith, (omega arith, (omega arith, omega arith)))
    (inr (
      neither _ _ (le-ltb _ _ u.rank.0) (le-ltb _ _ u.rank.1),
      inr (
        ne_eqb _ _ u.element,
        inr (
          λ e l. neither _ _ (le-ltb _ _ (u.shape e l).0) (le-ltb _ _ (u.shape e l).1),
          (
            refl,
            h,
            b,
            λ e l m.
                let r = resolved_at_lem t e u.rank.1 m in
                let w = u.inward e l m in
                neither _ _ (le-ltb _ _ (rw r at w.0)) (le-ltb _ _ (rw r at w.1)),
          ),
        ),
      ),
    ))

module _ (t : Tensor) (d : ℕ) where
  -- a stride of size s is the resolved one
  sized : (s : ℕ) → 1 ≤ s → stride_at t d ≡ s → resolved t.rank (shape_at t) (stride_at t) d ≡ s
  sized s l e = written_stays t.rank (shape_at t) (stride_at t) d (omega arith) ∙ e

  -- a stride of 0 resolves to the inner product
  resolves : stride_at t d ≡ 0 → resolved t.rank (shape_at t) (stride_at t) d ≡ within t d
  unfolding resolved
  resolves z = rw (eq-eqb (stride_at t d) 0 z)

  above_bad : 2147483647 < resolved t.rank (shape_at t) (stride_at t) d → bad_stride_at t.rank (shape_at t) (stride_at t) d ≡ true
  unfolding bad_stride_at
  above_bad l =
      let r = resolved t.rank (shape_at t) (stride_at t) d in
      either_second (ltb r (within t d)) (ltb 2147483647 r) (lt-ltb 2147483647 r l)

  below_bad : resolved t.rank (shape_at t) (stride_at t) d < within t d → bad_stride_at t.rank (shape_at t) (stride_at t) d ≡ true
  unfolding bad_stride_at
  below_bad l =
      let r = resolved t.rank (shape_at t) (stride_at t) d in
      either_first (ltb r (within t d)) (ltb 2147483647 r) (lt-ltb r (within t d) l)

  inner_bad : 2147483647 < within t d → bad_stride_at t.rank (shape_at t) (stride_at t) d ≡ true
  unfolding bad_stride_at
  inner_bad l =
      let r = resolved t.rank (shape_at t) (stride_at t) d in
      elim (dec_lt r (within t d)) [
        | yes q ↦ below_bad q
        | no q ↦ above_bad (omega arith)
      ]

pub largest_first : LargestFirst
largest_first t u w g = source_clear t (record {
  rank = u.rank;
  element = u.element;
  shape = u.shape;
  strides = record { least = λ d h. (bounds d h).0; most = λ d h. (bounds d h).1 };
})
  where
    bounds : (d : ℕ) → d < t.rank → (within t d ≤ resolved t.rank (shape_at t) (stride_at t) d) × (resolved t.rank (shape_at t) (stride_at t) d ≤ 2147483647)
    bounds d h = elim (dec_lt 0 d) [
      | yes q ↦ let r = u.inward d q h in rw (resolved_at_lem t d u.rank.1 h) at r
      | no q ↦ let z : d ≡ 0 = omega arith in rw (z, sized t 0 2147483647 (omega arith) g) (w, omega arith)
    ]

pub largest_taken : LargestTaken
largest_taken t d few h w g = rw (resolved_at_lem t d few h, sized t d 2147483647 (omega arith) g) (w, omega arith)

pub largest_inward : LargestInward
largest_inward t d few h g = record {
  alone = λ e c.
      let w : within t d ≡ 2147483647 = product ∙ rw (e, mul-one) in
      ⊎_elim
      (λ z. rw (resolved_at_lem t d few (omega arith), resolves t d z, w) (omega arith, omega arith))
      (λ s. largest_taken t d few (omega arith) (omega arith) s)
      c;
  unlike = λ e n m u.
      let w : within t d ≡ 2147483647 = product ∙ rw (e, mul-one) in
      let r = written_stays t.rank (shape_at t) (stride_at t) d (positive (stride_at t d) n) in
      given_4 t d (omega arith) u (elim (dec_lt (stride_at t d) 2147483647) [
        | yes q ↦ below_bad t d (omega arith)
        | no q ↦ elim (ℕ_discrete (stride_at t d) 2147483647) [
          | yes k ↦ absurd (m k)
          | no k ↦ above_bad t d (omega arith)
        ]
      ]);
  else_refused = λ n u.
      let s = (u.shape (suc d) h).0 in
      let two : 2 ≤ shape_at t (suc d) = least_two (shape_at t (suc d)) s n in
      given_4 t d (omega arith) u (inner_bad t d (omega (arith, product, mul-le-mul_left 2147483647 two)));
}
  where
    product : within t d ≡ 2147483647 * shape_at t (suc d)
    product =
        inner_out t.rank (shape_at t) (stride_at t) (suc d) h ∙
        ap (λ (k : ℕ). k * shape_at t (suc d)) (sized t (suc d) 2147483647 (omega arith) g)

    least_two : (x : ℕ) → 1 ≤ x → (x ≡ 1 → ⊥) → 2 ≤ x
    least_two x l n = elim (ℕ_discrete x 1) [
      | yes e ↦ absurd (n e)
      | no e ↦ omega arith
    ]

pub least_refused : LeastRefused
least_refused t d h e u =
    let s = sizes_at t.stride d ∙ ap size_of e in
    given_4 t d h u (above_bad t d (omega (arith, sized t d 2147483648 (omega arith) s)))

pub span_asked : SpanAsked
unfolding judge_of move_fault
span_asked = record {
  short = λ t c m n z l.
      ap (λ (f : Fault). answer_of f t c)
      (given_fault (move_rules t c m n) 5 0 (omega arith)
      (inr (source_told t (source_good t z), inl (refl, lt-ltb m (span t) l, refl))))
      ∙ answer_refused (fault 5 0) t c (λ e. omega arith);
  long = λ t c m n k h l.
      ap (λ (b : Bool). answer_of (first_fault (source_rules t then overall 5 b then config_rules t c then dst_rules t c then overall 13 (ltb k (need t c)))) t c)
      (le-ltb m (span t) h ∙ sym (le-ltb n (span t) l));
}

-- ---- a plane mirrored

-- the other sign: the same size, and it counts the other way unless it is 0
other_size : (z : ℤ) → size_of (neg_ℤ z) ≡ size_of z
other_size (pos zero) = refl
other_size (pos (suc n)) = refl
other_size (negsuc n) = refl

other_way : (z : ℤ) → (size_of z ≡ 0 → ⊥) → is_down (neg_ℤ z) ≡ not (is_down z)
other_way (pos zero) h = absurd (h refl)
other_way (pos (suc n)) h = refl
other_way (negsuc n) h = refl

counted : (down : Bool) (shape x : ℕ) → x < shape → up (not down) shape x ≡ up down shape (shape - 1 - x)
counted true shape x h = omega arith
counted false shape x h = refl

module _ (t : Tensor) (d : ℕ) (four : length t.stride ≡ 4) (l : d < 4) where
  there : at_z (mirrored t d).stride d ≡ neg_ℤ (at_z t.stride d)
  there = get_or-set_same t.stride d (neg_ℤ (at_z t.stride d)) (pos 0) (omega arith)

  other : (e : ℕ) → (e ≡ d → ⊥) → at_z (mirrored t d).stride e ≡ at_z t.stride e
  other e n = get_or-set_other t.stride d e (neg_ℤ (at_z t.stride d)) (pos 0) n

  same_size : (e : ℕ) → stride_at t e ≡ stride_at (mirrored t d) e
  same_size e = elim (ℕ_discrete e d) [
    | yes q ↦ rw q (sizes_at t.stride d ∙ sym (sizes_at (mirrored t d).stride d ∙ ap size_of there ∙ other_size (at_z t.stride d)))
    | no q ↦ sizes_at t.stride e ∙ sym (sizes_at (mirrored t d).stride e ∙ ap size_of (other e q))
  ]

  agree : SameSizes t (mirrored t d)
  agree = record { rank = refl; element = refl; shape = λ e h. refl; stride = λ e h. same_size e }

  pub strides_agree : src_strides (mirrored t d) ≡ src_strides t
  strides_agree = sizes_alike _ _ agree

pub mirrored_plane : MirroredPlane
mirrored_plane t d four l n = record {
  sizes = agree t d four l;
  here = λ x h.
      ap₂ (λ (a : ℕ) (s : List ℕ). a * at s d)
      (ap (λ (z : ℤ). up (is_down z) (shape_at t d) x) (there t d four l)
      ∙ ap (λ (b : Bool). up b (shape_at t d) x) (other_way (at_z t.stride d) (λ e. n (sizes_at t.stride d ∙ e)))
      ∙ counted (down_at t d) (shape_at t d) x h)
      (strides_agree t d four l);
  others = λ e x q.
      ap₂ (λ (z : ℤ) (s : List ℕ). up (is_down z) (shape_at t e) x * at s e) (other t d four l e q) (strides_agree t d four l);
}
