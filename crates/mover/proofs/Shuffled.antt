-- Laws of lists made by a function, and of perfect shuffles. Assumes nothing.
use Rattle.std.proofs.Common.{◌≡◌, ℕ, zero, suc, ◌+◌, ◌-◌, ◌*◌, ◌/◌, ◌%◌, ◌<◌, ◌≤◌, Bool, true, false, ◌&&◌, T, List, [], ◌∷◌, ◌++◌, length, get_or, take, drop, sym, refl, ap, ◌∙◌, inl, ⊎_elim, le_of_suc-le-suc, not-suc-le-zero, add-zero, mul-le-mul_right, mod-lt, mod-eq_of_lt, suc-mul, div-lt_iff_lt-mul, add-mul, eq-or-lt_of_le, one-mul, div-add-mod', zero-mul, arith, length-drop, length-take-le, get_or-drop, get_or-take, ext_get_or}
use native.Mathlib.Nat.{zero-mod, add-mod_right, mul-add-mod_self_right, div-eq_of_lt, mul-add-div_right}
use native.Mathlib.Decide.{dec_lt}
use lib.Seq.{sets, length-sets}
use Rattle.mover.specs.Private.Shuffles.{made, turn, zipped, zips}
use Rattle.mover.proofs.Bytes.{get_d_sets_out, sets_inside}

pub length_made : (n : ℕ) (f : ℕ → ℕ) → length (made n f) ≡ n
unfolding made
length_made zero f = refl
length_made (suc n) f = ap suc (length_made n (λ k. f (suc k)))

pub get_d_made : (n : ℕ) (f : ℕ → ℕ) (k : ℕ) → k < n → get_or (made n f) k 0 ≡ f k
unfolding made
get_d_made zero f k h = absurd (not-suc-le-zero h)
get_d_made (suc n) f zero h = refl
get_d_made (suc n) f (suc k) h = get_d_made n (λ j. f (suc j)) k (le_of_suc-le-suc h)

pub made_by : (n : ℕ) (f : ℕ → ℕ) (l : List ℕ) → length l ≡ n → ((k : ℕ) → k < n → get_or l k 0 ≡ f k) → l ≡ made n f
made_by n f l e h =
    ext_get_or 0 l (made n f) (e ∙ sym (length_made n f)) (λ k g. h k (omega arith) ∙ sym (get_d_made n f k (omega arith)))

pub made_snoc : (n : ℕ) (f : ℕ → ℕ) → made n f ++ (f n ∷ []) ≡ made (suc n) f
unfolding made
made_snoc zero f = refl
made_snoc (suc n) f = ap (λ (l : List ℕ). f 0 ∷ l) (made_snoc n (λ k. f (suc k)))

-- ---- where a shuffle takes a byte from

module _ (q r z : ℕ) (h : r < z) where
  div_on : (q * z + r) / z ≡ q
  div_on = mul-add-div_right (omega arith) q r ∙ rw (div-eq_of_lt h) (add-zero q)

  mod_on : (q * z + r) % z ≡ r
  mod_on = mul-add-mod_self_right q z r ∙ mod-eq_of_lt h

-- byte r of the element at k, and of that of the other half
module _ (half z k r : ℕ) (d : k % z ≡ 0) (h : r < z) where
  turn_first : turn half z (k + k + r) ≡ k + r
  turn_first =
      let m = k / z in
      let e = div-add-mod' k z in
      let w : k + k + r ≡ (m + m) * z + r = rw (add-mul m m z) (omega arith) in
      let q : (m + m) / 2 ≡ m = omega arith in
      let p : (m + m) % 2 ≡ 0 = omega arith in
      ap (turn half z) w ∙ rw (div_on (m + m) r z h, mod_on (m + m) r z h, q, p, zero-mul) (omega arith)

  turn_second : turn half z (k + k + z + r) ≡ k + half + r
  turn_second =
      let m = k / z in
      let e = div-add-mod' k z in
      let w : k + k + z + r ≡ (m + m + 1) * z + r = rw (add-mul (m + m) 1 z, add-mul m m z, one-mul) (omega arith) in
      let q : (m + m + 1) / 2 ≡ m = omega arith in
      let p : (m + m + 1) % 2 ≡ 1 = omega arith in
      ap (turn half z) w ∙ rw (div_on (m + m + 1) r z h, mod_on (m + m + 1) r z h, q, p, one-mul) (omega arith)

-- ---- the loop of `zipped`

-- o has its first bytes, of k in each half
pub record Zipping (t : List ℕ) (half z : ℕ) (o : List ℕ) (k : ℕ) : Type 0 where
  pub some : 0 < z
  pub halves : half % z ≡ 0
  pub of : length t ≡ half + half
  pub within : k ≤ half
  pub whole : k % z ≡ 0
  pub long : length o ≡ half + half
  pub bytes : (i : ℕ) → i < k + k → get_or o i 0 ≡ get_or t (turn half z i) 0

pub zip_start : (t : List ℕ) (half z : ℕ) (o : List ℕ) → 0 < z → half % z ≡ 0 → length t ≡ half + half → length o ≡ half + half → Zipping t half z o 0
zip_start t half z o p d lt lo = record {
  some = p;
  halves = d;
  of = lt;
  within = omega arith;
  whole = zero-mod z;
  long = lo;
  bytes = λ i h. absurd (not-suc-le-zero h);
}

module _ {t : List ℕ} {half z : ℕ} {o : List ℕ} {k : ℕ} (a : Zipping t half z o k) where
  -- where an element is left in each half, all of its bytes are
  pub zip_left : k < half → k + z ≤ half
  zip_left h =
      let x = a.whole in
      let y = a.halves in
      let u = div-add-mod' half z in
      let v = div-add-mod' k z in
      let l : k < half / z * z = omega arith in
      let m : k / z < half / z = (div-lt_iff_lt-mul a.some).1 l in
      let g = mul-le-mul_right z m in
      let w = suc-mul (k / z) z in
      omega arith

  part_at : (u : List ℕ) (y x r : ℕ) → x + z ≤ half + half → y + z ≤ length u → r < z → get_or (sets u y (take z (drop x t))) (y + r) 0 ≡ get_or t (x + r) 0
  part_at u y x r h b m =
      let l = a.of in
      let e = length-take-le z (drop x t) (simp length-drop (omega arith)) in
      sets_inside (take z (drop x t)) u y r (omega arith) (omega arith) ∙ get_or-take z (drop x t) r 0 m ∙ get_or-drop x t r 0

  abbrev once : List ℕ
  once = sets o (k + k) (take z (drop k t))

  pub zip_more : k < half → Zipping t half z (sets once (k + k + z) (take z (drop (k + half) t))) (k + z)
  zip_more f =
      let g = zip_left f in
      let b = a.long in
      let lo : length once ≡ half + half = length-sets o (k + k) (take z (drop k t)) ∙ b in
      record {
        some = a.some;
        halves = a.halves;
        of = a.of;
        within = g;
        whole = add-mod_right k z ∙ a.whole;
        long = length-sets once (k + k + z) (take z (drop (k + half) t)) ∙ lo;
        bytes = λ i h. elim (dec_lt i (k + k + z)) [
          | yes x ↦
              get_d_sets_out (take z (drop (k + half) t)) once (k + k + z) i (inl x)
              ∙ elim (dec_lt i (k + k)) [
                | yes y ↦ get_d_sets_out (take z (drop k t)) o (k + k) i (inl y) ∙ a.bytes i y
                | no y ↦
                    let r = i - (k + k) in
                    let e : i ≡ k + k + r = omega arith in
                    rw (e, turn_first half z k r a.whole (omega arith)) (part_at o (k + k) k r (omega arith) (omega arith) (omega arith))
              ]
          | no x ↦
              let r = i - (k + k + z) in
              let e : i ≡ k + k + z + r = omega arith in
              rw (e, turn_second half z k r a.whole (omega arith)) (part_at once (k + k + z) (k + half) r (omega arith) (omega arith) (omega arith))
        ];
      }

  pub zip_done : half ≤ k → o ≡ zipped half z t
  unfolding zipped
  zip_done h = let w = a.within in made_by (half + half) (λ i. get_or t (turn half z i) 0) o a.long (λ i g. a.bytes i (omega arith))

-- ---- a test at every number below n, computed

abbrev pub below : ℕ → (ℕ → Bool) → Bool
below zero f = true
below (suc n) f = f n && below n f

and_left : (a b : Bool) → T (a && b) → T a
and_left true b t = tt
and_left false b t = absurd t

and_right : (a b : Bool) → T (a && b) → T b
and_right true b t = t
and_right false b t = absurd t

pub at_each : (n : ℕ) (f : ℕ → Bool) → T (below n f) → (k : ℕ) → k < n → T (f k)
at_each zero f t k h = absurd (not-suc-le-zero h)
at_each (suc n) f t k h =
    ⊎_elim
    (λ (e : k ≡ n). rw e (and_left (f n) (below n f) t))
    (λ (l : k < n). at_each n f (and_right (f n) (below n f) t) k l)
    (eq-or-lt_of_le (le_of_suc-le-suc h))

module _ (half z : ℕ) (t : List ℕ) where
  pub get_d_zipped : (k : ℕ) → k < half + half → get_or (zipped half z t) k 0 ≡ get_or t (turn half z k) 0
  unfolding zipped
  get_d_zipped k h = get_d_made (half + half) (λ j. get_or t (turn half z j) 0) k h

  pub length_zipped : length (zipped half z t) ≡ half + half
  unfolding zipped
  length_zipped = length_made (half + half) (λ j. get_or t (turn half z j) 0)

-- ---- several shuffles, one after the other

abbrev pub turns : ℕ → ℕ → ℕ → ℕ → ℕ
turns half z zero k = k
turns half z (suc j) k = turns half z j (turn half z k)

module _ (half z : ℕ) (p : 0 < z) (d : half % z ≡ 0) where
  turn_below : (k : ℕ) → k < half + half → turn half z k < half + half
  turn_below k h =
      let q = k / z in
      let n = half / z in
      let a = div-add-mod' half z in
      let r = mod-lt k p in
      let w = add-mul n n z in
      let l : k < (n + n) * z = omega arith in
      let m : q < n + n = (div-lt_iff_lt-mul p).1 l in
      let i : q / 2 < n = omega arith in
      let g = mul-le-mul_right z i in
      let v = suc-mul (q / 2) z in
      let b : q % 2 ≤ 1 = omega arith in
      ⊎_elim
      (λ (e : q % 2 ≡ 1). rw (e, one-mul) (omega arith))
      (λ (e : q % 2 < 1). let y : q % 2 ≡ 0 = omega arith in rw (y, zero-mul) (omega arith))
      (eq-or-lt_of_le b)

  pub get_d_zips : (j : ℕ) (t : List ℕ) (k : ℕ) → k < half + half → get_or (zips half z j t) k 0 ≡ get_or t (turns half z j k) 0
  get_d_zips zero t k h = refl
  get_d_zips (suc j) t k h = get_d_zipped half z (zips half z j t) k h ∙ get_d_zips j t (turn half z k) (turn_below k h)

-- ---- lists that are made alike

pub made_alike : (n : ℕ) (f g : ℕ → ℕ) → ((k : ℕ) → k < n → f k ≡ g k) → made n f ≡ made n g
made_alike n f g h = made_by n g (made n f) (length_made n f) (λ k e. get_d_made n f k e ∙ h k e)
