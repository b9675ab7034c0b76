-- Arrays that a closure makes, the low bytes of pairs among them; and the first three of each four, that a loop fills. Assumes nothing.
use Rattle.std.proofs.Common.{◌≡◌, ℕ, zero, suc, ◌+◌, ◌-◌, ◌*◌, ◌/◌, ◌%◌, ◌<◌, ◌≤◌, min, List, length, get_or, set, refl, subst, ◌∙◌, ⊎_elim, not-suc-le-zero, eq-or-lt_of_le, arith, length-set, get_or-set_other, get_or-set_same}
use native.Mathlib.Decide.{dec_lt, ℕ_discrete}
use denote.Param.Members.{Mut}
use Rattle.std.specs.Fn.{Called}
use Rattle.std.specs.Array.{IsFromFnResult, IsFromFnResultFrom}
use Rattle.mover.specs.Private.Shuffles.{made}
use Rattle.mover.proofs.Shuffled.{get_d_made, made_by, made_alike}

-- ---- element by element: the calls leave the closure as it is

module _ {F : Type 0} (g : Mut F (ℕ × Unit {0}) ℕ) {f : F} (ys : List ℕ) (n : ℕ) (h : ℕ → ℕ) (call : (k y : ℕ) (q : F) → Called g f (k, tt) y q → (q ≡ f) × (y ≡ h k)) where
  given : (m i : ℕ) (p : F) → p ≡ f → i + m ≡ n → IsFromFnResultFrom g p ys i m → (k : ℕ) → i ≤ k → k < n → get_or ys k 0 ≡ h k
  given zero i p e s w k l m = absurd (omega arith)
  given (suc j) i p e s w k l m =
      let one = call i w.1 w.0 (subst (λ (u : F). Called g u (i, tt) w.1 w.0) e w.3) in
      elim (ℕ_discrete i k) [
        | yes q ↦ subst (λ (x : ℕ). get_or ys x 0 ≡ h x) q (w.2.1 0 ∙ one.1)
        | no q ↦ given j (i + 1) w.0 one.0 (omega arith) w.4 k (omega arith) m
      ]

  pub made_from : IsFromFnResult g f ys n → ys ≡ made n h
  made_from w = made_by n h ys w.long (λ k l. given n 0 f refl (omega arith) w.each k (omega arith) l)

-- ---- every second byte

abbrev pub pair_at : List ℕ → ℕ → ℕ → ℕ
pair_at s at k = get_or s (at + 2 * k) 0 + get_or s (at + 2 * k + 1) 0 * 256

pub evens_made : (s : List ℕ) (at n : ℕ) → ((k : ℕ) → get_or s k 0 < 256)
    → made n (λ k. get_or (made n (pair_at s at)) k 0 % 256) ≡ made n (λ k. get_or s (at + 2 * k) 0)
evens_made s at n byte =
    made_alike n (λ k. get_or (made n (pair_at s at)) k 0 % 256) (λ k. get_or s (at + 2 * k) 0)
    (λ k h. let x = byte (at + 2 * k) in rw (get_d_made n (pair_at s at) k h) (omega arith))

-- ---- three of each four

-- o, of 49, has j bytes, and behind them the last of the four
pub record Thirds (t o : List ℕ) (j : ℕ) : Type 0 where
  pub within : j ≤ 48
  pub whole : j % 3 ≡ 0
  pub long : length o ≡ 49
  pub first : (i : ℕ) → i < j → get_or o i 0 ≡ get_or t (i / 3 * 4 + i % 3) 0
  pub last : 0 < j → get_or o j 0 ≡ get_or t (j / 3 * 4 - 1) 0

pub threes_start : (t o : List ℕ) → length o ≡ 49 → Thirds t o 0
threes_start t o l =
    record { within = omega arith; whole = omega arith; long = l; first = λ i h. absurd (not-suc-le-zero h); last = λ h. absurd (not-suc-le-zero h) }

module _ (t o : List ℕ) (k j : ℕ) (a : Thirds t o j) where
  abbrev o1 : List ℕ
  o1 = set o j (get_or t k 0)

  abbrev o2 : List ℕ
  o2 = set o1 (j + 1) (get_or t (k + 1) 0)

  abbrev o3 : List ℕ
  o3 = set o2 (j + 2) (get_or t (k + 2) 0)

  pub threes_more : j < 48 → k ≡ j / 3 * 4 → Thirds t (set o3 (j + 3) (get_or t (k + 3) 0)) (j + 3)
  threes_more h w =
      let d = a.whole in
      let l1 : length o1 ≡ 49 = length-set o j (get_or t k 0) ∙ a.long in
      let l2 : length o2 ≡ 49 = length-set o1 (j + 1) (get_or t (k + 1) 0) ∙ l1 in
      let l3 : length o3 ≡ 49 = length-set o2 (j + 2) (get_or t (k + 2) 0) ∙ l2 in
      record {
        within = omega arith;
        whole = omega arith;
        long = length-set o3 (j + 3) (get_or t (k + 3) 0) ∙ l3;
        first = λ i g.
            let b2 : i ≤ j + 2 = omega arith in
            get_or-set_other o3 (j + 3) i (get_or t (k + 3) 0) 0 (λ e. omega arith)
            ∙ ⊎_elim
            (λ (e : i ≡ j + 2).
            let q : (j + 2) / 3 * 4 + (j + 2) % 3 ≡ k + 2 = omega arith in
            rw (e, q) (get_or-set_same o2 (j + 2) (get_or t (k + 2) 0) 0 (omega arith)))
            (λ (f2 : i < j + 2).
            let b1 : i ≤ j + 1 = omega arith in
            get_or-set_other o2 (j + 2) i (get_or t (k + 2) 0) 0 (λ e. omega arith)
            ∙ ⊎_elim
            (λ (e : i ≡ j + 1).
            let q : (j + 1) / 3 * 4 + (j + 1) % 3 ≡ k + 1 = omega arith in
            rw (e, q) (get_or-set_same o1 (j + 1) (get_or t (k + 1) 0) 0 (omega arith)))
            (λ (f1 : i < j + 1).
            let b0 : i ≤ j = omega arith in
            get_or-set_other o1 (j + 1) i (get_or t (k + 1) 0) 0 (λ e. omega arith)
            ∙ ⊎_elim
            (λ (e : i ≡ j).
            let q : j / 3 * 4 + j % 3 ≡ k = omega arith in
            let m = a.long in
            rw (e, q) (get_or-set_same o j (get_or t k 0) 0 (omega arith)))
            (λ (f0 : i < j). get_or-set_other o j i (get_or t k 0) 0 (λ e. omega arith) ∙ a.first i f0)
            (eq-or-lt_of_le b0))
            (eq-or-lt_of_le b1))
            (eq-or-lt_of_le b2);
        last = λ g.
            let q : (j + 3) / 3 * 4 - 1 ≡ k + 3 = omega arith in
            rw q (get_or-set_same o3 (j + 3) (get_or t (k + 3) 0) 0 (omega arith));
      }

pub threes_done : (t o : List ℕ) (j : ℕ) → Thirds t o j → 48 ≤ j → o ≡ made 49 (λ i. get_or t (min (i / 3 * 4 + i % 3) 63) 0)
threes_done t o j a h =
    let w = a.within in
    let e : j ≡ 48 = omega arith in
    made_by 49 (λ i. get_or t (min (i / 3 * 4 + i % 3) 63) 0) o a.long
    (λ i g. elim (dec_lt i 48) [
      | yes x ↦ let m : min (i / 3 * 4 + i % 3) 63 ≡ i / 3 * 4 + i % 3 = omega arith in rw m (a.first i (omega arith))
      | no x ↦ let q : i ≡ 48 = omega arith in rw q (rw e at (a.last (omega arith)))
    ])
