-- Laws of lists: parts of a list, lists one after the other (`specs/Layout.antt`), and runs of stores. Assumes nothing.
use Prim.Native.Nat.{ℕ, zero, suc, ◌+◌, ◌-◌, ◌*◌, ◌≤◌, ◌<◌}
use native.Mathlib.Nat.{not-suc-le-zero, le_of_suc-le-suc, eq-or-lt_of_le}
use native.Mathlib.Numerals.{add-one}
use native.Mathlib.Omega.{arith}
use mathlib.Core.Path.{◌≡◌, refl, sym, ap, ap₂, subst, ◌∙◌}
use mathlib.Core.Logic.{⊎_elim}
use mathlib.Core.List.{List, [], ◌∷◌, ◌++◌, append-nil, append_assoc}
use borrow.Rule.Slice.PartMut.{put_mid}
use lib.ListN.{length, take, drop, length-append, length-drop, drop_of_length-le}
use lib.Seq.{sets, sets-eq, length-take-le, take_all, drop-cons, take-append-le, drop-append-le, drop-append-add, drop_at, take-take, take-add, drop-drop}
use Rattle.plane.specs.Arrays.{at, sum}
use Rattle.record.specs.Layout.{part, consecutive}

-- ---- parts

pub part_cons : (p n : ℕ) (bs : List ℕ) → p < length bs → part p (suc n) bs ≡ at bs p ∷ part (p + 1) n bs
part_cons p n bs h =
    ap (take (suc n)) (drop-cons bs p 0 h) ∙ ap (λ (k : ℕ). at bs p ∷ part k n bs) (sym (add-one p))

pub length_part : (p n : ℕ) (bs : List ℕ) → p + n ≤ length bs → length (part p n bs) ≡ n
length_part p n bs h = let e = length-drop p bs in length-take-le n (drop p bs) (omega arith)

-- a part of the second of two lists
pub part_append : (xs ys : List ℕ) (p n : ℕ) → part (length xs + p) n (xs ++ ys) ≡ part p n ys
part_append xs ys p n = ap (take n) (drop-append-add xs ys p)

-- a part of the first of two lists
pub part_left : (xs ys : List ℕ) (p n : ℕ) → p + n ≤ length xs → part p n (xs ++ ys) ≡ part p n xs
part_left xs ys p n h =
    let e = length-drop p xs in
    ap (take n) (drop-append-le p xs ys (omega arith)) ∙ take-append-le n (drop p xs) ys (omega arith)

part_take : (q n m : ℕ) (bs : List ℕ) → q + n ≤ m → part q n (take m bs) ≡ part q n bs
part_take zero n m bs h = take-take n m bs (omega arith)
part_take (suc q) n zero bs h = absurd (let z : 0 < 0 = omega arith in not-suc-le-zero z)
part_take (suc q) n (suc m) [] h = refl
part_take (suc q) n (suc m) (b ∷ bs) h = part_take q n m bs (omega arith)

-- a part of a part
pub part_part : (p m q n : ℕ) (bs : List ℕ) → q + n ≤ m → part q n (part p m bs) ≡ part (p + q) n bs
part_part p m q n bs h = part_take q n m (drop p bs) h ∙ ap (take n) (drop-drop q p bs)

-- ---- lists one after the other, list k of length len k

pub sum_step : (n k : ℕ) (len : ℕ → ℕ) → k < n → sum k len + len k ≤ sum n len
unfolding sum
sum_step zero k len h = absurd (not-suc-le-zero h)
sum_step (suc n) k len h =
    ⊎_elim
    (λ q. subst (λ (m : ℕ). sum m len + len m ≤ sum n len + len n) (sym q) (omega arith))
    (λ q. let e = sum_step n k len q in omega arith)
    (eq-or-lt_of_le (le_of_suc-le-suc h))

pub consecutive_same : (n : ℕ) (f g : ℕ → List ℕ) → ((k : ℕ) → k < n → f k ≡ g k) → consecutive n f ≡ consecutive n g
unfolding consecutive
consecutive_same zero f g h = refl
consecutive_same (suc n) f g h =
    ap₂ (λ (x y : List ℕ). x ++ y) (consecutive_same n f g (λ k q. h k (omega arith))) (h n (omega arith))

pub length_consecutive : (n : ℕ) (f : ℕ → List ℕ) (len : ℕ → ℕ) → ((k : ℕ) → k < n → length (f k) ≡ len k) → length (consecutive n f) ≡ sum n len
unfolding consecutive sum
length_consecutive zero f len h = refl
length_consecutive (suc n) f len h =
    length-append (consecutive n f) (f n) ∙ ap₂ (λ (x y : ℕ). x + y) (length_consecutive n f len (λ k q. h k (omega arith))) (h n (omega arith))

-- each list is found where those before it end
pub part_consecutive : (n : ℕ) (f : ℕ → List ℕ) (len : ℕ → ℕ) (k : ℕ) → ((j : ℕ) → j < n → length (f j) ≡ len j) → k < n → part (sum k len) (len k) (consecutive n f) ≡ f k
unfolding consecutive
part_consecutive zero f len k h q = absurd (not-suc-le-zero q)
part_consecutive (suc n) f len k h q =
    let l = length_consecutive n f len (λ j r. h j (omega arith)) in
    ⊎_elim
    (λ e. subst (λ (m : ℕ). part (sum m len) (len m) (consecutive n f ++ f n) ≡ f m) (sym e)
    (ap (take (len n)) (drop_at (consecutive n f) (f n) (sum n len) l) ∙ take_all (len n) (f n) (let s = h n (omega arith) in omega arith)))
    (λ r. let s = sum_step n k len r in
    part_left (consecutive n f) (f n) (sum k len) (len k) (omega arith) ∙ part_consecutive n f len k (λ j p. h j (omega arith)) r)
    (eq-or-lt_of_le (le_of_suc-le-suc q))

-- parts that follow one another make one part
pub consecutive_parts : (n p : ℕ) (len : ℕ → ℕ) (bs : List ℕ) → consecutive n (λ k. part (p + sum k len) (len k) bs) ≡ part p (sum n len) bs
unfolding consecutive sum
consecutive_parts zero p len bs = refl
consecutive_parts (suc n) p len bs =
    ap (λ (l : List ℕ). l ++ part (p + sum n len) (len n) bs) (consecutive_parts n p len bs) ∙
    ap (λ (l : List ℕ). part p (sum n len) bs ++ take (len n) l) (sym (drop-drop (sum n len) p bs)) ∙
    sym (take-add (sum n len) (len n) (drop p bs))

-- equal lengths
pub sum_const : (n w : ℕ) → sum n (λ _. w) ≡ n * w
unfolding sum
sum_const zero w = omega arith
sum_const (suc n) w = let e = sum_const n w in rw e (omega arith)

-- ---- runs of stores

-- a run after a run is one run
pub sets_next : (xs ys l : List ℕ) (i j : ℕ) → j ≡ i + length xs → sets (sets l i xs) j ys ≡ sets l i (xs ++ ys)
sets_next [] ys l i j e = ap (λ (k : ℕ). sets l k ys) (let z : j ≡ i = omega arith in z)
sets_next (x ∷ xs) ys l i j e =
    sets_next xs ys _ (suc i) j (omega arith)

-- a run over the whole list
pub sets_whole : (vs l : List ℕ) → length vs ≡ length l → sets l 0 vs ≡ vs
sets_whole vs l e =
    sets-eq vs l 0 (omega arith) ∙ ap (λ (r : List ℕ). vs ++ r) (drop_of_length-le l {i = 0 + length vs} (omega arith)) ∙ append-nil vs

-- where m is l with xs stored from i on, n elements so far: what follows is stored behind them
pub record Stored (l : List ℕ) (i n : ℕ) (xs m : List ℕ) : Type 0 where
  pub is : m ≡ sets l i xs
  pub long : length xs ≡ n

pub stored_next : (l : List ℕ) (i : ℕ) (xs ys : List ℕ) (k : ℕ) {n : ℕ} {m o : List ℕ} → Stored l i n xs m → length ys ≡ k → o ≡ sets m (i + n) ys → Stored l i (n + k) (xs ++ ys) o
stored_next l i xs ys k {n} s q e =
    let h = s.long in
    let z = length-append xs ys in record {
      is = e ∙ ap (λ (m : List ℕ). sets m (i + n) ys) s.is ∙ sets_next xs ys l i (i + n) (omega arith);
      long = omega arith;
    }

-- in code: a list copied into the part of l that is as long
pub part_put : (l : List ℕ) (p : ℕ) (xs ys : List ℕ) → p + length xs ≤ length l → ys ≡ xs → put_mid p (p + length xs - p) l ys ≡ sets l p xs
part_put l p xs ys h e =
    let n : p + length xs - p ≡ length xs = omega arith in
    (λ i. take p l ++ (e i ++ drop (n i) (drop p l))) ∙ ap (λ (r : List ℕ). take p l ++ (xs ++ r)) (drop-drop (length xs) p l) ∙
    sym (append_assoc (take p l) xs (drop (p + length xs) l)) ∙ sym (sets-eq xs l p h)
