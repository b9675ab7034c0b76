-- What acceptance tells: a stretch of the numbers of refusal gives none exactly if its conditions hold. Assumes nothing.
use Prim.Native.Nat.{ℕ, zero, suc, ◌+◌, ◌-◌, ◌*◌, ◌≤◌, ◌<◌}
use native.Mathlib.Omega.{arith}
use mathlib.Core.Path.{◌≡◌, refl, sym, ◌∙◌}
use mathlib.Core.Bool.{true, false}
use borrow.Author.Tests.{eqb-false, ne_eqb, leb-false, lt-leb, ltb-false, lt-ltb, le-ltb}
use lib.Dec.{leb, ltb, eqb}
use Rattle.plane.specs.declared.Tensor.{Tensor}
use Rattle.plane.specs.declared.Config.{Config}
use Rattle.plane.specs.Arrays.{at}
use Rattle.faults.specs.Faults.{lowest}
use Rattle.faults.specs.Exactness.{Unbroken}
use Rattle.plane.specs.Planes.{bad_shape, shape_at, stride_at, inner, resolved, bad_stride_at, span, source_rules, source_fault}
use Rattle.plane.specs.Moves.{need, bad_offset, bad_step, bad_dst_offset_at, bad_dst_offset_of, config_rules, config_fault, dst_rules, dst_fault, move_rules, move_fault}
use Rattle.plane.specs.Good.{FromTo, GoodStrides, GoodSource, GoodConfig, GoodDst}
use Rattle.plane.specs.Claims.{MoveGood, MoveClear}
use Rattle.faults.proofs.Bools.{either_clear, neither, in_range}
use Rattle.plane.proofs.Arrays.{some_clear, some_none}
use Rattle.faults.proofs.Faults.{lowest_clear}
use Rattle.faults.proofs.Chains.{unbroken, unbroken_accepts}

pub positive : (x : ℕ) → (x ≡ 0 → ⊥) → 1 ≤ x
positive zero h = absurd (h refl)
positive (suc x) h = omega arith

-- ---- strides

module _ (n : ℕ) (shape stride : ℕ → ℕ) where
  strides_good : ((d : ℕ) → d < n → bad_stride_at n shape stride d ≡ false) → GoodStrides n shape stride
  unfolding bad_stride_at
  strides_good u = record { least = λ d h. (within d h).0; most = λ d h. (within d h).1 }
    where
      within : (d : ℕ) → d < n → (inner n shape stride (n - suc d) ≤ resolved n shape stride d) × (resolved n shape stride d ≤ 2147483647)
      within d h = in_range _ _ 2147483647 (u d h)

  strides_clear : GoodStrides n shape stride → (d : ℕ) → d < n → bad_stride_at n shape stride d ≡ false
  unfolding bad_stride_at
  strides_clear g d h = neither _ _ (le-ltb _ _ (g.least d h)) (le-ltb _ _ (g.most d h))

-- ---- 12, in one dimension

module _ (extent stride offset : ℕ → ℕ) where
  pub too_large : (i : ℕ) → 65535 < offset i → bad_dst_offset_at extent stride offset i ≡ true
  unfolding bad_dst_offset_at
  too_large i h = simp (lt-ltb 65535 (offset i) h)

  -- the first has no other bound
  pub first_free : offset 0 ≤ 65535 → bad_dst_offset_at extent stride offset 0 ≡ false
  unfolding bad_dst_offset_at
  first_free h = simp (le-ltb 65535 (offset 0) h)

  pub after_first_lem : (i : ℕ) → 0 < i → offset i ≤ 65535 → bad_dst_offset_at extent stride offset i ≡ ltb (stride (i - 1)) ((offset i + extent i) * stride i)
  unfolding bad_dst_offset_at
  after_first_lem i p h = simp (lt-ltb 0 i p, le-ltb 65535 (offset i) h)

  pub dst_offset_small : (i : ℕ) → bad_dst_offset_at extent stride offset i ≡ false → offset i ≤ 65535
  unfolding bad_dst_offset_at
  dst_offset_small i e = ltb-false 65535 (offset i) (either_clear _ _ e).0

  row_within : (i : ℕ) → 0 < i → bad_dst_offset_at extent stride offset i ≡ false → (offset i + extent i) * stride i ≤ stride (i - 1)
  row_within i p e = ltb-false _ _ (sym (after_first_lem i p (dst_offset_small i e)) ∙ e)

-- ---- 1 to 4

module _ (t : Tensor) where
  -- 3 by itself, which a count asks too
  pub shapes_good : (lowest 3 t.rank (λ d. bad_shape (shape_at t d))).status ≡ 0 → (d : ℕ) → d < t.rank → FromTo 1 65535 (shape_at t d)
  shapes_good z d h = in_range (shape_at t d) 1 65535 (lowest_clear 3 t.rank (λ d. bad_shape (shape_at t d)) d (omega arith) z h)

  pub source_tells : Unbroken (source_rules t) → GoodSource t
  source_tells u = record {
    rank = in_range t.rank 1 4 u.0;
    element = eqb-false _ _ u.1.0;
    shape = λ d h. in_range (shape_at t d) 1 65535 (u.1.1.0 d h);
    strides = strides_good t.rank (shape_at t) (stride_at t) u.1.1.1;
  }

  pub source_told : GoodSource t → Unbroken (source_rules t)
  source_told g = (
    neither _ _ (le-ltb _ _ g.rank.0) (le-ltb _ _ g.rank.1),
    (
      ne_eqb _ _ g.element,
      (λ d h. neither _ _ (le-ltb _ _ (g.shape d h).0) (le-ltb _ _ (g.shape d h).1), strides_clear _ _ _ g.strides),
    ),
  )

  pub source_good : (source_fault t).status ≡ 0 → GoodSource t
  unfolding source_fault
  source_good z = source_tells (unbroken (source_rules t) (omega arith) z)

  pub source_clear : GoodSource t → (source_fault t).status ≡ 0
  unfolding source_fault
  source_clear g = unbroken_accepts (source_rules t) (source_told g)

-- ---- 6 to 10

module _ (t : Tensor) (c : Config) where
  pub offset_good : (lowest 7 t.rank (λ d. bad_offset (shape_at t d) (at c.offset d))).status ≡ 0 → (d : ℕ) → d < t.rank → at c.offset d < shape_at t d
  offset_good z d h = leb-false _ _ (lowest_clear 7 t.rank (λ d. bad_offset (shape_at t d) (at c.offset d)) d (omega arith) z h)

  step_within : (d : ℕ) → bad_step (at c.step d) ≡ false → (1 ≤ at c.step d) × (at c.step d ≤ 65535)
  step_within d e =
      let w = either_clear (eqb (at c.step d) 0) _ e in (positive (at c.step d) (eqb-false _ _ w.0), ltb-false _ _ w.1)

  pub step_good : (lowest 9 t.rank (λ d. bad_step (at c.step d))).status ≡ 0 → (d : ℕ) → d < t.rank → (1 ≤ at c.step d) × (at c.step d ≤ 65535)
  step_good z d h = step_within d (lowest_clear 9 t.rank (λ d. bad_step (at c.step d)) d (omega arith) z h)

  pub config_tells : Unbroken (config_rules t c) → GoodConfig t c
  config_tells u = record {
    perm = λ i h. leb-false _ _ (either_clear _ _ (u.0 i h)).0;
    apart = λ i j h q. eqb-false _ _ (some_clear i (λ k. eqb (at c.perm k) (at c.perm i)) (either_clear (leb t.rank (at c.perm i)) _ (u.0 i h)).1 j q);
    offset = λ d h. leb-false _ _ (u.1.0 d h);
    size = λ d h. ltb-false _ _ (u.1.1.0 d h);
    step = λ d h. step_within d (u.1.1.1.0 d h);
    extent = λ d h. ltb-false _ _ (u.1.1.1.1 d h);
  }

  pub config_told : GoodConfig t c → Unbroken (config_rules t c)
  config_told g = (
    λ i h. neither _ _ (lt-leb _ _ (g.perm i h)) (some_none i _ (λ j q. ne_eqb _ _ (g.apart i j h q))),
    (
      λ d h. lt-leb _ _ (g.offset d h),
      (
        λ d h. le-ltb _ _ (g.size d h),
        (
          λ d h. neither _ _ (ne_eqb (at c.step d) 0 (λ e. omega (arith, (g.step d h).0))) (le-ltb _ _ (g.step d h).1),
          λ d h. le-ltb _ _ (g.extent d h),
        ),
      ),
    ),
  )

  pub config_good : (config_fault t c).status ≡ 0 → GoodConfig t c
  unfolding config_fault
  config_good z = config_tells (unbroken (config_rules t c) (omega arith) z)

  pub config_clear : GoodConfig t c → (config_fault t c).status ≡ 0
  unfolding config_fault
  config_clear g = unbroken_accepts (config_rules t c) (config_told g)

  -- ---- 11 and 12

  pub dst_tells : Unbroken (dst_rules t c) → GoodDst t c
  dst_tells u = record {
    strides = strides_good _ _ _ u.0;
    offset = λ i h. dst_offset_small _ _ _ i (u.1 i h);
    row = λ i l h. row_within _ _ _ i l (u.1 i h);
  }

  pub dst_told : GoodDst t c → Unbroken (dst_rules t c)
  dst_told g = (strides_clear _ _ _ g.strides, clear)
    where
      clear : (i : ℕ) → i < t.rank → bad_dst_offset_of t c i ≡ false
      clear zero h = first_free _ _ _ (g.offset 0 h)
      clear (suc i) h = after_first_lem _ _ _ (suc i) (omega arith) (g.offset (suc i) h) ∙ le-ltb _ _ (g.row (suc i) (omega arith) h)

  pub dst_good : (dst_fault t c).status ≡ 0 → GoodDst t c
  unfolding dst_fault
  dst_good z = dst_tells (unbroken (dst_rules t c) (omega arith) z)

-- ---- 1 to 13

pub move_good : MoveGood
unfolding move_fault
move_good t c srcLen dstLen z =
    let u = unbroken (move_rules t c srcLen dstLen) (omega arith) z in
    record {
      source = source_tells t u.0;
      long = ltb-false srcLen (span t) u.1.0;
      config = config_tells t c u.1.1.0;
      destination = dst_tells t c u.1.1.1.0;
      room = ltb-false dstLen (need t c) u.1.1.1.1;
    }

pub move_clear : MoveClear
unfolding move_fault
move_clear t c srcLen dstLen g =
    unbroken_accepts (move_rules t c srcLen dstLen)
    (source_told t g.source, (le-ltb _ _ g.long, (config_told t c g.config, (dst_told t c g.destination, le-ltb _ _ g.room))))
