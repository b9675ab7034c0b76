-- Laws of the dimensions that stay in a sub-tensor (`specs/Helpers.antt`), and of a loop that takes unit dimensions out. Assumes nothing.
use Prim.Native.Nat.{ℕ, zero, suc, ◌+◌, ◌-◌, ◌≤◌, ◌<◌}
use native.Mathlib.Nat.{not-suc-le-zero, le_of_suc-le-suc, eq-or-lt_of_le}
use native.Mathlib.Numerals.{add-one}
use native.Mathlib.Decide.{ℕ_discrete, dec_lt}
use native.Mathlib.Omega.{arith}
use mathlib.Core.Path.{◌≡◌, refl, sym, ap, subst, ◌∙◌}
use mathlib.Core.Logic.{◌⊎◌, inl, inr, ⊎_elim}
use mathlib.Core.Bool.{Bool, true, false, ◌&&◌}
use mathlib.Core.List.{List, [], ◌∷◌, ◌++◌, append-nil}
use borrow.Author.Tests.{ltb-true, ltb-false, eqb-true, eq-eqb, ne_eqb, lt-ltb, le-ltb}
use lib.Dec.{ltb}
use lib.ListN.{length, set, length-append, get_or-append}
use lib.Seq.{get_or-append_seam}
use Rattle.plane.specs.declared.sub.Staying.{Staying}
use lib.IntN.{ℤ, pos}
use Rattle.plane.specs.Arrays.{at, firsts_or, zeros, sum, how_many}
use Rattle.plane.specs.Signs.{zeros_z}
use Rattle.plane.specs.Helpers.{is_unit, removed, staying}
use Rattle.plane.specs.Private.{staying_of}
use Rattle.faults.proofs.Bools.{both_first, both_second}
use Rattle.plane.proofs.Good.{positive}
use Rattle.plane.proofs.Arrays.{Filled, filled_start, filled_more, filled_end, filled_same, sum_same}

-- ---- what becomes of one dimension

module _ (size : ℕ → ℕ) (excess : ℕ) where
  -- how many of those that should go are not among the first d
  abbrev pub lacking_at : ℕ → ℕ
  lacking_at d = excess - how_many d (is_unit size)

  -- dimension d goes: it is a unit, and one less is lacking
  pub record Gone (d : ℕ) : Type 0 where
    pub unit : size d ≡ 1
    pub list : staying size excess (suc d) ≡ staying size excess d
    pub fewer : lacking_at d ≡ lacking_at (suc d) + 1

  -- dimension d stays, behind those that stay before it
  pub record Stays (d : ℕ) : Type 0 where
    pub list : staying size excess (suc d) ≡ staying size excess d ++ (d ∷ [])
    pub same : lacking_at d ≡ lacking_at (suc d)

  pub gone : (d : ℕ) → removed size excess d ≡ true → Gone d
  unfolding staying how_many
  gone d e =
      let u = both_first (is_unit size d) (ltb (how_many d (is_unit size)) excess) e in
      let l = ltb-true (how_many d (is_unit size)) excess (both_second (is_unit size d) _ e) in
      record {
        unit = eqb-true (size d) 1 u;
        list = simp (e, append-nil);
        fewer = simp u (omega arith);
      }

  pub stays : (d : ℕ) → removed size excess d ≡ false → Stays d
  unfolding staying how_many
  stays d e = record {
    list = simp e;
    same = elim (ℕ_discrete (size d) 1) [
      | yes u ↦
          let b = eq-eqb (size d) 1 u in
          let l = ltb-false (how_many d (is_unit size)) excess (rw b at e) in
          simp b (omega arith)
      | no u ↦ simp (ne_eqb (size d) 1 u) (omega arith)
    ];
  }

  pub fate : (d : ℕ) → Gone d ⊎ Stays d
  fate d = elim (removed size excess d) as (λ b. removed size excess d ≡ b → Gone d ⊎ Stays d) [
    | true ↦ λ e. inl (gone d e)
    | false ↦ λ e. inr (stays d e)
  ] refl

  -- ---- how many stay, and which

  -- those that stay, and those that should go, are all d and the lacking
  pub staying_length : (d : ℕ) → length (staying size excess d) + excess ≡ d + lacking_at d
  unfolding staying how_many
  staying_length zero = omega arith
  staying_length (suc d) =
      let h = staying_length d in
      ⊎_elim
      (λ (g : Gone d). let e = g.fewer in rw g.list (omega arith))
      (λ (k : Stays d). let e = k.same in rw k.list (simp length-append (omega arith)))
      (fate d)

  -- a dimension that stays is the last of those up to it
  module _ (d : ℕ) where
    pub stays_length : Stays d → length (staying size excess (suc d)) ≡ suc (length (staying size excess d))
    stays_length k = rw k.list (simp length-append (omega arith))

    pub stays_last : Stays d → at (staying size excess (suc d)) (length (staying size excess d)) ≡ d
    stays_last k = rw k.list (get_or-append_seam (staying size excess d) d [] 0)

    pub stays_before : Stays d → (j : ℕ) → j < length (staying size excess d) → at (staying size excess (suc d)) j ≡ at (staying size excess d) j
    stays_before k j h = rw k.list (get_or-append (staying size excess d) (d ∷ []) 0 j h)

    -- an entry is the last, or one from before
    stays_cases : Stays d → (P : ℕ → Type 0) → P (length (staying size excess d)) → ((j : ℕ) → j < length (staying size excess d) → P j) → (j : ℕ) → j < length (staying size excess (suc d)) → P j
    stays_cases k P here all j h =
        ⊎_elim (λ q. subst P (sym q) here) (all j) (eq-or-lt_of_le (le_of_suc-le-suc (rw (stays_length k) at h)))

  none_stay : length (staying size excess 0) ≡ 0
  unfolding staying
  none_stay = refl

  -- only dimensions before d stay
  pub staying_below : (d j : ℕ) → j < length (staying size excess d) → at (staying size excess d) j < d
  staying_below zero j h = absurd (not-suc-le-zero (rw none_stay at h))
  staying_below (suc d) j h =
      ⊎_elim
      (λ (g : Gone d). rw g.list (let b = staying_below d j (rw g.list at h) in omega arith))
      (λ (k : Stays d).
      stays_cases d k (λ m. at (staying size excess (suc d)) m < suc d)
      (omega (arith, stays_last d k))
      (λ m q. omega (arith, stays_before d k m q, staying_below d m q))
      j h)
      (fate d)

  -- they stay in order
  pub staying_rises : (d i j : ℕ) → i < j → j < length (staying size excess d) → at (staying size excess d) i < at (staying size excess d) j
  staying_rises zero i j l h = absurd (not-suc-le-zero (rw none_stay at h))
  staying_rises (suc d) i j l h =
      ⊎_elim
      (λ (g : Gone d). rw g.list (staying_rises d i j l (rw g.list at h)))
      (λ (k : Stays d).
      stays_cases d k (λ m. i < m → at (staying size excess (suc d)) i < at (staying size excess (suc d)) m)
      (λ p. omega (arith, stays_last d k, stays_before d k i p, staying_below d i p))
      (λ m q p. omega (arith, stays_before d k m q, stays_before d k i (omega arith), staying_rises d i m p q))
      j h l)
      (fate d)

  -- what is 0 at each unit dimension sums up to the same over those that stay
  pub staying_sum : (f : ℕ → ℕ) → ((d : ℕ) → size d ≡ 1 → f d ≡ 0) → (d : ℕ) → sum (length (staying size excess d)) (λ i. f (at (staying size excess d) i)) ≡ sum d f
  unfolding sum
  staying_sum f z zero = rw none_stay
  staying_sum f z (suc d) =
      let h = staying_sum f z d in
      ⊎_elim
      (λ (g : Gone d). rw g.list (omega (arith, z d g.unit)))
      (λ (k : Stays d).
      rw (stays_length d k)
      (omega (arith, sum_same (length (staying size excess d)) _ _ (λ j q. ap f (stays_before d k j q)) ∙ h, ap f (stays_last d k))))
      (fate d)

-- where there are units enough, as many stay as should
pub staying_count : (size : ℕ → ℕ) (m n : ℕ) → m ≤ n → n - m ≤ how_many n (is_unit size) → length (staying size (n - m) n) ≡ m
staying_count size m n h u = omega (arith, staying_length size (n - m) n)

-- ---- a loop that takes unit dimensions out: where it stands at d, k of those before d stay, and their sizes and strides are there

lacks : (h e : ℕ) → ltb 0 (e - h) ≡ ltb h e
lacks h e = elim (dec_lt h e) [
  | yes q ↦ lt-ltb 0 (e - h) (omega arith) ∙ sym (lt-ltb h e q)
  | no q ↦ le-ltb 0 (e - h) (omega arith) ∙ sym (le-ltb h e (omega arith))
]

module _ (n : ℕ) (size : ℕ → ℕ) (stride : ℕ → ℤ) (excess : ℕ) where
  pub record Shrunk (shape : List ℕ) (out : List ℤ) (lacking k d : ℕ) : Type 0 where
    pub within : d ≤ n
    pub few : k ≤ d
    pub count : k ≡ length (staying size excess d)
    pub left : lacking ≡ lacking_at size excess d
    pub shapes : Filled 0 4 (λ j. size (at (staying size excess d) j)) shape k
    pub strides : Filled (pos 0) 4 (λ j. stride (at (staying size excess d) j)) out k

  pub shrunk_start : Shrunk zeros zeros_z excess 0 0
  unfolding staying how_many
  shrunk_start = record {
    within = omega arith;
    few = omega arith;
    count = refl;
    left = omega arith;
    shapes = filled_start;
    strides = filled_start;
  }

  module _ {shape : List ℕ} {out : List ℤ} {lacking k d : ℕ} (w : Shrunk shape out lacking k d) (h : d < n) where
    tested : (is_unit size d && ltb 0 lacking) ≡ removed size excess d
    tested = ap (λ (b : Bool). is_unit size d && b) (ap (ltb 0) w.left ∙ lacks (how_many d (is_unit size)) excess)

    pub shrunk_lacks : (is_unit size d && ltb 0 lacking) ≡ true → 0 < lacking
    shrunk_lacks e = ltb-true 0 lacking (both_second (is_unit size d) (ltb 0 lacking) e)

    -- the loop's own test of dimension d tells whether it goes
    pub shrunk_gone : (is_unit size d && ltb 0 lacking) ≡ true → Shrunk shape out (lacking - 1) k (d + 1)
    shrunk_gone e =
        let g = gone size excess d (sym tested ∙ e) in
        let f = w.few in
        let l = w.left in
        let m = g.fewer in
        subst (λ (j : ℕ). Shrunk shape out (lacking - 1) k j) (sym (add-one d))
        (record {
          within = h;
          few = omega arith;
          count = rw g.list w.count;
          left = omega arith;
          shapes = rw g.list w.shapes;
          strides = rw g.list w.strides;
        })

    -- one more entry of an array, behind those of the dimensions that stay
    one_more : {A : Type 0} {z : A} (f : ℕ → A) (a : List A) → n ≤ 4 → Stays size excess d → Filled z 4 (λ j. f (at (staying size excess d) j)) a k → Filled z 4 (λ j. f (at (staying size excess (suc d)) j)) (set a k (f d)) (k + 1)
    one_more f a four g v =
        let c = w.count in
        filled_more (omega arith)
        (filled_same (λ j q. ap f (sym (stays_before size excess d g j (omega arith)))) v)
        (omega (arith, w.few))
        (ap f (sym (rw c (stays_last size excess d g))))

    pub shrunk_kept : n ≤ 4 → (is_unit size d && ltb 0 lacking) ≡ false → Shrunk (set shape k (size d)) (set out k (stride d)) lacking (k + 1) (d + 1)
    shrunk_kept four e =
        let g = stays size excess d (sym tested ∙ e) in
        subst (λ (j : ℕ). Shrunk (set shape k (size d)) (set out k (stride d)) lacking (k + 1) j) (sym (add-one d))
        (record {
          within = h;
          few = omega (arith, w.few);
          count = omega (arith, w.count, stays_length size excess d g);
          left = w.left ∙ g.same;
          shapes = one_more size shape four g w.shapes;
          strides = one_more stride out four g w.strides;
        })

  module _ {shape : List ℕ} {out : List ℤ} {lacking k d : ℕ} (w : Shrunk shape out lacking k d) (h : n ≤ d) where
    whole : d ≡ n
    whole = let l = w.within in omega arith

    its_lacking : lacking ≡ lacking_at size excess n
    its_lacking = w.left ∙ ap (lacking_at size excess) whole

    -- some that should go are not there
    pub shrunk_short : (lacking ≡ 0 → ⊥) → ltb (how_many n (is_unit size)) excess ≡ true
    shrunk_short z = lt-ltb (how_many n (is_unit size)) excess (omega (arith, its_lacking, positive lacking z))

    -- all are
    pub shrunk_enough : lacking ≡ 0 → ltb (how_many n (is_unit size)) excess ≡ false
    shrunk_enough z = le-ltb (how_many n (is_unit size)) excess (omega (arith, its_lacking))

    full : {A : Type 0} {z : A} (f : ℕ → A) (a : List A) → Filled z 4 (λ j. f (at (staying size excess d) j)) a k → a ≡ firsts_or z (length (staying size excess n)) (λ i. f (at (staying size excess n) i))
    full {z = z} f a v =
        let e = filled_end (record { within = omega (arith, w.count); long = v.long; entries = rw w.count at v.entries }) (omega (arith, w.count)) in
        subst (λ (m : ℕ). a ≡ firsts_or z (length (staying size excess m)) (λ i. f (at (staying size excess m) i))) whole e

    pub shrunk_end : ◌≡◌ {A = Staying} (record { shape = shape; stride = out }) (staying_of n size stride excess)
    unfolding staying_of
    shrunk_end = λ i. record { shape = full size shape w.shapes i; stride = full stride out w.strides i }
