-- Strides fall inward: what the conditions on strides (`Good.antt`) tell of any two dimensions, and when written strides meet them. Assumes nothing.
use Prim.Native.Nat.{ℕ, zero, suc, ◌-◌, ◌*◌, ◌≤◌, ◌<◌}
use native.Mathlib.Nat.{not-suc-le-zero, le_of_suc-le-suc, eq-or-lt_of_le, le_trans, mul-pos, le-mul_of_pos_right}
use native.Mathlib.Omega.{arith}
use mathlib.Core.Path.{◌≡◌, refl, sym, subst}
use mathlib.Core.Logic.{⊎_elim}
use borrow.Author.Tests.{ne_eqb}
use Rattle.plane.specs.Arrays.{at}
use Rattle.plane.specs.Planes.{inner, resolved, strides}
use Rattle.plane.proofs.Arrays.{firsts_at}
use Rattle.plane.proofs.Resolving.{inner_out}
use Rattle.plane.specs.Good.{GoodStrides}
use Rattle.plane.specs.Claims.{StridesFall}

module _ (n : ℕ) (shape stride : ℕ → ℕ) where
  pub inner_last : inner n shape stride 0 ≡ 1
  unfolding inner
  inner_last = refl

  module _ (some : (d : ℕ) → d < n → 1 ≤ shape d) (g : GoodStrides n shape stride) where
    inner_positive : (k : ℕ) → k ≤ n → 1 ≤ inner n shape stride k
    inner_positive zero h = omega (arith, inner_last)
    inner_positive (suc k) h =
        let d = n - suc k in
        let l : d < n = omega arith in
        let e : n - d ≡ suc k = omega arith in
        let b : n - suc d ≡ k = omega arith in
        let p : inner n shape stride k ≤ resolved n shape stride d = rw b at (g.least d l) in
        subst (λ (m : ℕ). 1 ≤ inner n shape stride m) e
        (rw (inner_out n shape stride d l) (mul-pos (le_trans (inner_positive k (omega arith)) p) (some d l)))

    pub stride_positive : (d : ℕ) → d < n → 1 ≤ resolved n shape stride d
    stride_positive d h = le_trans (inner_positive (n - suc d) (omega arith)) (g.least d h)

    falls_one : (d : ℕ) → suc d < n → resolved n shape stride (suc d) * shape (suc d) ≤ resolved n shape stride d
    falls_one d h = rw (inner_out n shape stride (suc d) h) at (g.least d (omega arith))

    falls : (d e : ℕ) → d < e → e < n → resolved n shape stride e * shape e ≤ resolved n shape stride d
    falls d zero l h = absurd (not-suc-le-zero l)
    falls d (suc e) l h =
        ⊎_elim
        (λ q. subst (λ (k : ℕ). resolved n shape stride (suc e) * shape (suc e) ≤ resolved n shape stride k) (sym q) (falls_one e h))
        (λ q.
        le_trans (falls_one e h)
        (le_trans (le-mul_of_pos_right (resolved n shape stride e) (some e (omega arith))) (falls d e q (omega arith))))
        (eq-or-lt_of_le (le_of_suc-le-suc l))

  -- a stride that is written is the resolved one
  pub written_stays : (d : ℕ) → 1 ≤ stride d → resolved n shape stride d ≡ stride d
  unfolding resolved
  written_stays d h = simp (ne_eqb (stride d) 0 (λ z. omega arith))

  -- written strides that fall inward and are within the limit meet the conditions
  pub written_good : ((d : ℕ) → d < n → (1 ≤ stride d) × (stride d ≤ 2147483647)) → ((d : ℕ) → suc d < n → stride (suc d) * shape (suc d) ≤ stride d) → GoodStrides n shape stride
  written_good w f = record {
    least = λ d h. rw (written_stays d (w d h).0) (⊎_elim (innermost d h) (further d h) (eq-or-lt_of_le h));
    most = λ d h. rw (written_stays d (w d h).0) (w d h).1;
  }
    where
      innermost : (d : ℕ) → d < n → suc d ≡ n → inner n shape stride (n - suc d) ≤ stride d
      innermost d h q =
          let z : n - suc d ≡ 0 = omega arith in
          rw (z, inner_last) (w d h).0

      further : (d : ℕ) → d < n → suc d < n → inner n shape stride (n - suc d) ≤ stride d
      further d h q = rw (inner_out n shape stride (suc d) q, written_stays (suc d) (w (suc d) q).0) (f d q)

-- the same of the strides as a list
module _ (n : ℕ) (shape stride : ℕ → ℕ) (few : n ≤ 4) where
  pub strides_at : (d : ℕ) → d < n → at (strides n shape stride) d ≡ resolved n shape stride d
  strides_at d h = firsts_at 0 n (resolved n shape stride) d few h

  module _ (some : (d : ℕ) → d < n → 1 ≤ shape d) (g : GoodStrides n shape stride) where
    pub strides_within : (d : ℕ) → d < n → (1 ≤ at (strides n shape stride) d) × (at (strides n shape stride) d ≤ 2147483647)
    strides_within d h = rw (strides_at d h) (stride_positive n shape stride some g d h, g.most d h)

    pub strides_hold : (d e : ℕ) → d < e → e < n → at (strides n shape stride) e * shape e ≤ at (strides n shape stride) d
    strides_hold d e l h = rw (strides_at e h, strides_at d (omega arith)) (falls n shape stride some g d e l h)

-- a stride is at least all that lies in a dimension further in
pub strides_fall : StridesFall
strides_fall n shape stride some g = falls n shape stride some g
