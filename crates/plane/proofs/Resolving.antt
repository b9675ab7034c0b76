-- Laws of strides resolved outward (`specs/Planes.antt`), and of the loop that resolves them. Assumes nothing.
use Prim.Native.Nat.{ℕ, suc, ◌-◌, ◌*◌, ◌≤◌, ◌<◌}
use native.Mathlib.Decide.{ℕ_discrete, dec_le}
use native.Mathlib.Omega.{arith}
use mathlib.Core.Path.{◌≡◌, refl, sym, ap, ap₂, subst, ◌∙◌}
use mathlib.Core.Bool.{Bool, true, false, cond}
use mathlib.Core.List.{List}
use borrow.Author.Tests.{lt-ltb, le-ltb, le-leb, lt-leb}
use lib.Dec.{leb, leb-zero}
use lib.ListN.{get_or, set, length, length-set}
use lib.Seq.{get_or-set_same, get_or-set_other}
use Rattle.faults.specs.declared.Fault.{Fault}
use Rattle.plane.specs.Arrays.{below, firsts_or, zeros, or0}
use Rattle.faults.specs.Faults.{none, fault, when, first, outward}
use Rattle.plane.specs.Planes.{bad_stride, inner, resolved, bad_stride_at, strides}
use Rattle.plane.proofs.Arrays.{zeros_at, is_array}
use Rattle.faults.proofs.Faults.{status, is_fault, or_none, when_bad, when_good, first_at}

module _ (n : ℕ) (shape stride : ℕ → ℕ) where
  pub inner_out : (d : ℕ) → d < n → inner n shape stride (n - d) ≡ resolved n shape stride d * shape d
  unfolding inner resolved
  inner_out d h =
      let e : n - d ≡ suc (n - suc d) = omega arith in
      let b : n - suc (n - suc d) ≡ d = omega arith in
      ap (inner n shape stride) e ∙ ap (λ (k : ℕ). or0 (stride k) (inner n shape stride (n - suc d)) * shape k) b

  -- the strides resolved so far: from d on
  abbrev part : ℕ → ℕ → ℕ
  part d j = cond (leb d j) (below 0 n j (resolved n shape stride j)) 0

  part_same : (d j : ℕ) → (j ≡ d → ⊥) → leb (suc d) j ≡ leb d j
  part_same d j q = elim (dec_le (suc d) j) [
    | yes r ↦ le-leb (suc d) j r ∙ sym (le-leb d j (omega arith))
    | no r ↦ lt-leb (suc d) j (omega arith) ∙ sym (lt-leb d j (omega arith))
  ]

  part_set : (out : List ℕ) (d v : ℕ) → d < n → n ≤ 4 → length out ≡ 4 → v ≡ resolved n shape stride d → ((j : ℕ) → get_or out j 0 ≡ part (suc d) j) → (j : ℕ) → get_or (set out d v) j 0 ≡ part d j
  part_set out d v h m l e p j = elim (ℕ_discrete j d) [
    | yes q ↦ subst (λ (k : ℕ). get_or (set out d v) k 0 ≡ part d k) (sym q)
        (get_or-set_same out d v 0 (omega arith) ∙ e ∙ sym (simp (le-leb d d (omega arith), lt-ltb d n h)))
    | no q ↦ get_or-set_other out d j v 0 q ∙ p j ∙ ap (λ (b : Bool). cond b (below 0 n j (resolved n shape stride j)) 0) (part_same d j q)
  ]

  module _ (num : ℕ) where
    -- the fault of the k-th stride met outward
    abbrev met : ℕ → Fault
    met k = when num (n - suc k) (bad_stride_at n shape stride (n - suc k))

    met_at : (d : ℕ) → d < n → met (n - suc d) ≡ when num d (bad_stride_at n shape stride d)
    met_at d h =
        let b : n - suc (n - suc d) ≡ d = omega arith in
        ap (λ (k : ℕ). when num k (bad_stride_at n shape stride k)) b

    met_more : (d : ℕ) → d < n → (first (n - suc d) met).status ≡ 0 → bad_stride_at n shape stride d ≡ false → first (n - d) met ≡ none
    unfolding first
    met_more d h e b =
        let s : n - d ≡ suc (n - suc d) = omega arith in
        ap (λ (k : ℕ). first k met) s ∙ or_none _ _ e ∙ met_at d h ∙ when_good num d _ b

    met_bad : (d : ℕ) → 0 < num → d < n → (first (n - suc d) met).status ≡ 0 → bad_stride_at n shape stride d ≡ true → outward num n (bad_stride_at n shape stride) ≡ fault num d
    unfolding outward
    met_bad d p h e b =
        let w : met (n - suc d) ≡ fault num d = met_at d h ∙ when_bad num d _ b in
        first_at n (n - suc d) met e (omega arith) (is_fault num d p w) ∙ w

    -- what holds when the dimensions from d on are resolved: their strides in out, and p the inner product outside them
    pub record Walked (out : List ℕ) (p d : ℕ) : Type 0 where
      pub within : d ≤ n
      pub long : length out ≡ 4
      pub product : p ≡ inner n shape stride (n - d)
      pub good : first (n - d) met ≡ none
      pub filled : (j : ℕ) → get_or out j 0 ≡ part d j

    pub walked_start : Walked zeros 1 n
    unfolding inner first
    walked_start =
        let e : n - n ≡ 0 = omega arith in
        record {
          within = omega arith;
          long = refl;
          product = sym (ap (inner n shape stride) e);
          good = ap (λ (k : ℕ). first k met) e;
          filled = none_yet;
        }
      where
        none_yet : (j : ℕ) → get_or zeros j 0 ≡ part n j
        none_yet j = zeros_at j ∙ elim (dec_le n j) [
          | yes r ↦ sym (simp (le-leb n j r, le-ltb j n r))
          | no r ↦ sym (simp (lt-leb n j (omega arith)))
        ]

    module _ {out : List ℕ} {p q d s : ℕ} (is : q ≡ suc d) (w : Walked out p q) (step : s ≡ or0 (stride d) p) where
      stands : p ≡ inner n shape stride (n - suc d)
      stands = subst (λ (k : ℕ). p ≡ inner n shape stride (n - k)) is w.product

      resolves : s ≡ resolved n shape stride d
      unfolding resolved
      resolves = step ∙ ap (or0 (stride d)) stands

      clear : (first (n - suc d) met).status ≡ 0
      clear = status (subst (λ (k : ℕ). first (n - k) met ≡ none) is w.good)

      tested : bad_stride s p ≡ bad_stride_at n shape stride d
      unfolding bad_stride_at
      tested = ap₂ bad_stride resolves stands

      pub walked_more : {r : ℕ} → n ≤ 4 → bad_stride s p ≡ false → r ≡ s * shape d → Walked (set out d s) r d
      walked_more h b e =
          let l = w.within in
          let m = w.long in
          let lt : d < n = omega arith in
          record {
            within = omega arith;
            long = length-set out d s ∙ m;
            product = e ∙ ap (λ (k : ℕ). k * shape d) resolves ∙ sym (inner_out d lt);
            good = met_more d lt clear (sym tested ∙ b);
            filled = part_set out d s lt h m resolves (λ j. subst (λ (k : ℕ). get_or out j 0 ≡ part k j) is (w.filled j));
          }

      pub walked_bad : 0 < num → bad_stride s p ≡ true → outward num n (bad_stride_at n shape stride) ≡ fault num d
      walked_bad h b = let l = w.within in met_bad d h (omega arith) clear (sym tested ∙ b)

    module _ {out : List ℕ} {p d : ℕ} (o : d ≡ 0) (w : Walked out p d) where
      pub walked_clear : outward num n (bad_stride_at n shape stride) ≡ none
      unfolding outward
      walked_clear = let z : n - d ≡ n = omega arith in subst (λ (k : ℕ). first k met ≡ none) z w.good

      pub walked_end : out ≡ strides n shape stride
      unfolding firsts_or
      walked_end = is_array 0 out (λ j. below 0 n j (resolved n shape stride j)) w.long (λ j q. w.filled j ∙ simp (o, leb-zero))
