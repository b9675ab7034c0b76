-- Laws of numbers as bytes (`specs/Layout.antt`), the lowest byte first, there and back; and of a head of seven bytes, which records
-- and lists share. Assumes nothing.
use Prim.Native.Nat.{ℕ, zero, suc, ◌+◌, ◌*◌, ◌/◌, ◌%◌, ◌^◌, ◌≤◌, ◌<◌}
use native.Mathlib.Nat.{div-lt_iff_lt-mul, pow-suc}
use native.Mathlib.Decide.{ℕ_discrete}
use native.Mathlib.Omega.{arith}
use mathlib.Core.Path.{◌≡◌, refl, sym, ap, ap₂, ◌∙◌}
use mathlib.Core.Bool.{Bool, true, false, not, ◌||◌, ◌&&◌}
use mathlib.Core.List.{List, [], ◌∷◌, ◌++◌}
use borrow.Author.Tests.{eq-eqb, ne_eqb, eqb-true, not-false}
use lib.Dec.{eqb}
use lib.ListN.{length, take, drop}
use lib.Seq.{get_or-take, get_or-drop}
use mir.Syntax.{w16, w32}
use Rattle.std.specs.Int.{from_le_bytes, to_le_bytes}
use Rattle.std.specs.List.{flat_map, starts_with}
use Rattle.plane.specs.Arrays.{at, some, array}
use Rattle.plane.proofs.Numbers.{length_little}
use Rattle.faults.proofs.Bools.{either_clear}
use Rattle.plane.specs.Numbers.{little, number}
use Rattle.record.specs.Layout.{part, consecutive, four_in, four_bytes}
use Rattle.record.specs.RoundTrip.{Bytes}
use Rattle.plane.proofs.Arrays.{is_array}
use Rattle.record.proofs.Parts.{part_cons, length_part, length_consecutive, sum_const}

bytes_take : (n : ℕ) (bs : List ℕ) → Bytes bs → Bytes (take n bs)
bytes_take zero bs h i = omega arith
bytes_take (suc n) [] h i = omega arith
bytes_take (suc n) (b ∷ bs) h zero = h 0
bytes_take (suc n) (b ∷ bs) h (suc i) = bytes_take n bs (λ j. h (suc j)) i

pub bytes_part : (bs : List ℕ) → Bytes bs → (p n : ℕ) → Bytes (part p n bs)
bytes_part bs h p n = bytes_take n (drop p bs) (λ i. rw (get_or-drop p bs i 0) (h (p + i)))

-- a number that fits its bytes comes back
pub number_little : (w n : ℕ) → n < 256 ^ w → number (little w n) ≡ n
unfolding little number
number_little zero n h = let z : n < 1 = h in omega arith
number_little (suc w) n h =
    let q : n < 256 ^ w * 256 = rw (pow-suc 256 w) at h in
    let e = number_little w (n / 256) ((div-lt_iff_lt-mul {k = 256} {x = n} {y = 256 ^ w} (omega arith)).1 q) in
    rw e (omega arith)

-- bytes come back from their number
pub little_number : (bs : List ℕ) → Bytes bs → little (length bs) (number bs) ≡ bs
unfolding little number
little_number [] h = refl
little_number (b ∷ bs) h =
    let s : b < 256 = h 0 in
    let low : (b + 256 * number bs) % 256 ≡ b = omega arith in
    let high : (b + 256 * number bs) / 256 ≡ number bs = omega arith in
    ap₂ (λ (x : ℕ) (l : List ℕ). x ∷ l) low (ap (little (length bs)) high ∙ little_number bs (λ i. h (suc i)))

pub number_fits : (bs : List ℕ) → Bytes bs → number bs < 256 ^ length bs
unfolding number
number_fits [] h = omega arith
number_fits (b ∷ bs) h =
    let s : b < 256 = h 0 in
    let m = number_fits bs (λ i. h (suc i)) in
    let e = pow-suc 256 (length bs) in
    rw e (omega arith)

-- ---- in code

pub number_one : (p : ℕ) (bs : List ℕ) → p < length bs → number (part p 1 bs) ≡ at bs p
unfolding number
number_one p bs h = ap number (part_cons p 0 bs h) ∙ (let z : at bs p + 256 * 0 ≡ at bs p = omega arith in z)

pub number_two : (p : ℕ) (bs : List ℕ) → p + 2 ≤ length bs → number (part p 2 bs) ≡ at bs p + 256 * at bs (p + 1)
unfolding number
number_two p bs h =
    ap number (part_cons p 1 bs (omega arith)) ∙ ap (λ (m : ℕ). at bs p + 256 * m) (number_one (p + 1) bs (omega arith))

-- what the library makes of two bytes and of four
two_bytes : (bs : List ℕ) → length bs ≡ 2 → from_le_bytes w16 bs ≡ number bs
unfolding number
two_bytes (a ∷ b ∷ []) h = omega arith
two_bytes [] h = omega arith
two_bytes (a ∷ []) h = omega arith
two_bytes (a ∷ b ∷ c ∷ bs) h = omega arith

four_bytes_are : (bs : List ℕ) → length bs ≡ 4 → from_le_bytes w32 bs ≡ number bs
unfolding number
four_bytes_are (a ∷ b ∷ c ∷ d ∷ []) h = omega arith
four_bytes_are [] h = omega arith
four_bytes_are (a ∷ []) h = omega arith
four_bytes_are (a ∷ b ∷ []) h = omega arith
four_bytes_are (a ∷ b ∷ c ∷ []) h = omega arith
four_bytes_are (a ∷ b ∷ c ∷ d ∷ e ∷ bs) h = omega arith

-- so of those from byte p on
pub half_is : (p : ℕ) (bs : List ℕ) → p + 2 ≤ length bs → {xs : List ℕ} {n : ℕ} → xs ≡ part p 2 bs → n ≡ from_le_bytes w16 xs → n ≡ number (part p 2 bs)
half_is p bs h e q = q ∙ ap (from_le_bytes w16) e ∙ two_bytes (part p 2 bs) (length_part p 2 bs h)

pub word_is : (p : ℕ) (bs : List ℕ) → p + 4 ≤ length bs → {xs : List ℕ} {n : ℕ} → xs ≡ part p 4 bs → n ≡ from_le_bytes w32 xs → n ≡ number (part p 4 bs)
word_is p bs h e q = q ∙ ap (from_le_bytes w32) e ∙ four_bytes_are (part p 4 bs) (length_part p 4 bs h)

-- and the bytes that it makes of a number
pub half_bytes : (x : ℕ) → to_le_bytes w16 x ≡ little 2 x
unfolding little
half_bytes x = refl

pub word_bytes : (x : ℕ) → to_le_bytes w32 x ≡ little 4 x
unfolding little
word_bytes x =
    let two : x / 256 / 256 ≡ x / 65536 = omega arith in
    let three : x / 256 / 256 / 256 ≡ x / 16777216 = omega arith in
    λ i. x % 256 ∷ x / 256 % 256 ∷ sym two i % 256 ∷ sym three i % 256 ∷ []

-- ---- groups

pub length_four : (w : ℕ) (xs : List ℕ) → length (four_bytes w xs) ≡ 4 * w
length_four w xs = length_consecutive 4 (λ d. little w (at xs d)) (λ _. w) (λ k _. length_little w (at xs k)) ∙ sum_const 4 w

-- a group of single bytes is those four bytes
four_singles : (p : ℕ) (bs : List ℕ) → p + 4 ≤ length bs → part p 4 bs ≡ four_in p 1 bs
four_singles p bs h =
    let one : (d : ℕ) → d < 4 → number (part (p + d * 1) 1 bs) ≡ at (part p 4 bs) d =
    λ d q. ap (λ (k : ℕ). number (part k 1 bs)) (let z : p + d * 1 ≡ p + d = omega arith in z) ∙ number_one (p + d) bs (omega arith) ∙
    sym (get_or-take 4 (drop p bs) d 0 q ∙ get_or-drop p bs d 0) in
    is_array 0 (part p 4 bs) _ (length_part p 4 bs h) (λ d q. sym (one d q))

pub singles_are : (p : ℕ) (bs : List ℕ) → p + 4 ≤ length bs → {xs : List ℕ} → xs ≡ part p 4 bs → xs ≡ four_in p 1 bs
singles_are p bs h e = e ∙ four_singles p bs h

pub singles_bytes : (xs : List ℕ) → length xs ≡ 4 → Bytes xs → xs ≡ four_bytes 1 xs
unfolding consecutive little
singles_bytes (x ∷ y ∷ z ∷ w ∷ []) h b =
    let e0 : x % 256 ≡ x = let l = b 0 in omega arith in
    let e1 : y % 256 ≡ y = let l = b 1 in omega arith in
    let e2 : z % 256 ≡ z = let l = b 2 in omega arith in
    let e3 : w % 256 ≡ w = let l = b 3 in omega arith in
    λ i. sym e0 i ∷ sym e1 i ∷ sym e2 i ∷ sym e3 i ∷ []
singles_bytes [] h b = absurd (omega arith)
singles_bytes (x ∷ []) h b = absurd (omega arith)
singles_bytes (x ∷ y ∷ []) h b = absurd (omega arith)
singles_bytes (x ∷ y ∷ z ∷ []) h b = absurd (omega arith)
singles_bytes (x ∷ y ∷ z ∷ w ∷ v ∷ xs) h b = absurd (omega arith)

-- the bytes that the library makes of four words, one after the other
pub words_bytes : (xs : List ℕ) → flat_map (λ x. x) (array (λ d. to_le_bytes w32 (at xs d))) ≡ four_bytes 4 xs
unfolding consecutive
words_bytes xs =
    let w : (d : ℕ) → to_le_bytes w32 (at xs d) ≡ little 4 (at xs d) = λ d. word_bytes (at xs d) in
    ap (λ (f : ℕ → List ℕ). f 0 ++ f 1 ++ f 2 ++ f 3) (λ i d. w d i)

-- ---- a head: a mark of three bytes, a version in two, and two bytes more

turned : (m n : ℕ) → eqb m n ≡ eqb n m
turned m n = elim (ℕ_discrete m n) [
  | yes e ↦ eq-eqb m n e ∙ sym (eq-eqb n m (sym e))
  | no h ↦ ne_eqb m n h ∙ sym (ne_eqb n m (λ e. h (sym e)))
]

-- the library's test of the mark, and the definition's
mark_tested : (x y z : ℕ) (bs : List ℕ) → 3 ≤ length bs → starts_with eqb bs (x ∷ y ∷ z ∷ []) ≡ not (some 3 (λ k. not (eqb (at bs k) (at (x ∷ y ∷ z ∷ []) k))))
unfolding some
mark_tested x y z (a ∷ b ∷ c ∷ bs) h = ap₃ x a y b z c ∙ each (eqb a x) (eqb b y) (eqb c z)
  where
    ap₃ : (x a y b z c : ℕ) → (eqb x a && (eqb y b && (eqb z c && true))) ≡ (eqb a x && (eqb b y && (eqb c z && true)))
    ap₃ x a y b z c = λ i. turned x a i && (turned y b i && (turned z c i && true))

    each : (p q r : Bool) → (p && (q && (r && true))) ≡ not (not p || not q || not r)
    each true true true = refl
    each true true false = refl
    each true false r = refl
    each false q r = refl
mark_tested x y z [] h = absurd (omega arith)
mark_tested x y z (a ∷ []) h = absurd (omega arith)
mark_tested x y z (a ∷ b ∷ []) h = absurd (omega arith)

pub mark_told : (x y z : ℕ) (bs : List ℕ) → 3 ≤ length bs → {b d : Bool} → b ≡ starts_with eqb bs (x ∷ y ∷ z ∷ []) → b ≡ d → some 3 (λ k. not (eqb (at bs k) (at (x ∷ y ∷ z ∷ []) k))) ≡ not d
mark_told x y z bs l e h = sym (not_not _) ∙ ap not (sym (mark_tested x y z bs l) ∙ sym e ∙ h)
  where
    not_not : (b : Bool) → not (not b) ≡ b
    not_not true = refl
    not_not false = refl

-- bytes that have this mark and this version start with them
pub head_is : (x y z v : ℕ) (bs rest : List ℕ) → Bytes bs → 7 ≤ length bs → some 3 (λ k. not (eqb (at bs k) (at (x ∷ y ∷ z ∷ []) k))) ≡ false → not (eqb (number (part 3 2 bs)) v) ≡ false → rest ≡ part 5 2 bs → (x ∷ y ∷ z ∷ []) ++ little 2 v ++ rest ≡ part 0 7 bs
unfolding some little
head_is x y z v bs rest b l m same r =
    let last = either_clear _ _ m in
    let first = either_clear _ _ last.0 in
    let n = number_two 3 bs (omega arith) in
    let e : number (part 3 2 bs) ≡ v = eqb-true _ _ (not-false _ same) in
    let low = b 3 in
    let high = b 4 in
    next 0 6 x _ (omega arith) (sym (eqb-true _ _ (not-false _ first.0)))
    (next 1 5 y _ (omega arith) (sym (eqb-true _ _ (not-false _ first.1)))
    (next 2 4 z _ (omega arith) (sym (eqb-true _ _ (not-false _ last.1)))
    (next 3 3 (v % 256) _ (omega arith) (omega arith)
    (next 4 2 (v / 256 % 256) _ (omega arith) (omega arith) r))))
  where
    next : (p n byte : ℕ) (after : List ℕ) → p < length bs → byte ≡ at bs p → after ≡ part (p + 1) n bs → byte ∷ after ≡ part p (suc n) bs
    next p n byte after h e q = (λ i. e i ∷ q i) ∙ sym (part_cons p n bs h)
