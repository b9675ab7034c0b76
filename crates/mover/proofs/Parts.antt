-- A move within one memory, between two parts that start anywhere, is the move between the parts as lists: the destination part
-- is what `moved_by` makes of it, and all else is as it was. Assumes nothing.
use Rattle.std.proofs.Common.{◌≡◌, ℕ, zero, suc, ◌+◌, ◌-◌, ◌^◌, ◌<◌, ◌≤◌, min, true, ◌&&◌, ltb, leb, ◌⊎◌, List, [], ◌∷◌, ◌++◌, length, get_or, take, drop, set, sym, refl, ap, ◌∙◌, inl, inr, ⊎_elim, append_assoc, add_assoc, add-suc, suc-add, zero-add, zero-mul, arith, length-drop, length-set, take-append-drop, length-take-le, get_or-drop, get_or-take, drop-drop, ext_get_or, drop_at, set-set}
use native.Mathlib.Nat.{sub_self, min-le_right}
use Rattle.mover.specs.declared.elements.Origin.TheVariants.{Inside}
use lib.Seq.{sets-eq, set_comm, take-append_seam, sets, length-sets, set-append_left}
use Rattle.mover.specs.declared.plan.Axis.{Axis}
use Rattle.mover.specs.declared.plan.Plan.{Plan}
use Rattle.mover.specs.Private.Elements.{lent, axis_kept, plan_kept, summed, place_of, home_of, padding, plan_bytes, put_at, co0, co1, co2, co3, put_number, plan_total, moved_by}
use Rattle.mover.specs.Private.Runs.{BytesApart}
use Rattle.mover.specs.Private.Ready.{reach_of, place_end, placed_at, GoodAxis, GoodAxes, InExtents, place_by, Rising, Ready}
use Rattle.mover.proofs.Bytes.{length_take_most, get_d_sets_out, pick_same, bytes_same}
use Rattle.mover.proofs.Places.{place_most, apart_part}
use Rattle.mover.proofs.Keeping.{range_test}
use Rattle.mover.proofs.ByNumber.{length_moved, length_bytes, within_good}

-- the l bytes of m from a on
abbrev pub bytes_at : List ℕ → ℕ → ℕ → List ℕ
bytes_at m a l = take l (drop a m)

set_past : (x l : List ℕ) (i v : ℕ) → set (x ++ l) (length x + i) v ≡ x ++ set l i v
set_past [] l i v = rw zero-add
set_past (a ∷ x) l i v = rw suc-add (ap (λ (r : List ℕ). a ∷ r) (set_past x l i v))

-- stores into the middle of three lists
pub sets_middle : (vs x d y : List ℕ) (i : ℕ) → i + length vs ≤ length d → sets (x ++ (d ++ y)) (length x + i) vs ≡ x ++ (sets d i vs ++ y)
sets_middle [] x d y i h = refl
sets_middle (v ∷ vs) x d y i h =
    let k : i < length d = omega arith in
    rw (set_past x (d ++ y) i v, set-append_left d y i v k, ← add-suc) (sets_middle vs x (set d i v) y (suc i) (rw length-set (omega arith)))

-- bytes within a part are bytes of the whole
pub bytes_within : (m : List ℕ) (a l h z : ℕ) → a + l ≤ length m → h + z ≤ l → take z (drop (a + h) m) ≡ take z (drop h (take l (drop a m)))
bytes_within m a l h z w k =
    let u : length (take z (drop (a + h) m)) ≡ z = length-take-le z (drop (a + h) m) (simp length-drop (omega arith)) in
    let n : length (take l (drop a m)) ≡ l = length-take-le l (drop a m) (simp length-drop (omega arith)) in
    let v : length (take z (drop h (take l (drop a m)))) ≡ z =
    length-take-le z (drop h (take l (drop a m))) (simp (length-drop, n) (omega arith))
    in
    ext_get_or 0 (take z (drop (a + h) m)) (take z (drop h (take l (drop a m))))
    (u ∙ sym v)
    (λ i g.
    let gz : i < z = omega arith in
    let gl : h + i < l = omega arith in
    simp (get_or-take z (drop (a + h) m) i 0 gz, get_or-take z (drop h (take l (drop a m))) i 0 gz, get_or-drop, get_or-take l (drop a m) (h + i) 0 gl)
    (ap (λ (k : ℕ). get_or m k 0) (add_assoc a h i)))

module _ (p : Plan) (a b : ℕ) where
  placed_place : (c0 c1 c2 c3 : ℕ) → place_of (placed_at a b p) c0 c1 c2 c3 ≡ b + place_of p c0 c1 c2 c3
  unfolding place_of summed placed_at
  placed_place c0 c1 c2 c3 = omega arith

  -- where it stays below 2 ^ 64
  placed_home : (c0 c1 c2 c3 : ℕ) → a + home_of p c0 c1 c2 c3 < 2 ^ 64 → home_of (placed_at a b p) c0 c1 c2 c3 ≡ a + home_of p c0 c1 c2 c3
  unfolding home_of summed placed_at
  placed_home c0 c1 c2 c3 h = omega arith

  -- every source element that is kept lies in the first l bytes, which end below 2 ^ 64 where they stand at a
  record Reads (l : ℕ) : Type 0 where
    pub fits : a + l < 2 ^ 64
    pub each : (c0 c1 c2 c3 : ℕ) → plan_kept p c0 c1 c2 c3 ≡ true → home_of p c0 c1 c2 c3 + p.size ≤ l

  placed_bytes : (m : List ℕ) (l c0 c1 c2 c3 : ℕ) → a + l ≤ length m → Reads l
      → plan_bytes (placed_at a b p) m c0 c1 c2 c3 ≡ plan_bytes p (bytes_at m a l) c0 c1 c2 c3
  unfolding plan_bytes plan_kept placed_at
  placed_bytes m l c0 c1 c2 c3 w e =
      pick_same (plan_kept p c0 c1 c2 c3) (padding p.size p.pad)
      (λ k.
      let h = e.each c0 c1 c2 c3 k in
      rw (placed_home c0 c1 c2 c3 (omega (arith, e.fits))) (bytes_within m a l (home_of p c0 c1 c2 c3) p.size w h))

  placed_put : (m x d y : List ℕ) (l c0 c1 c2 c3 : ℕ) → a + l ≤ length m → Reads l → length x ≡ b → place_end p ≤ length d → InExtents p c0 c1 c2 c3
      → put_at (placed_at a b p) m c0 c1 c2 c3 (x ++ (d ++ y)) ≡ x ++ (put_at p (bytes_at m a l) c0 c1 c2 c3 d ++ y)
  unfolding put_at
  placed_put m x d y l c0 c1 c2 c3 w e g f i =
      let z = length_bytes p (bytes_at m a l) c0 c1 c2 c3 in
      rw (placed_place c0 c1 c2 c3, placed_bytes m l c0 c1 c2 c3 w e, ← g)
      (sets_middle (plan_bytes p (bytes_at m a l) c0 c1 c2 c3) x d y (place_of p c0 c1 c2 c3) (omega (arith, place_most p c0 c1 c2 c3 i)))

  module _ (good : GoodAxes p) where
    placed_moved : (m x d y : List ℕ) (l from n : ℕ) → a + l ≤ length m → Reads l → length x ≡ b → place_end p ≤ length d → from + n ≤ plan_total p
        → moved_by (placed_at a b p) m from n (x ++ (d ++ y)) ≡ x ++ (moved_by p (bytes_at m a l) from n d ++ y)
    unfolding moved_by put_number placed_at
    placed_moved m x d y l from zero w e g f t = refl
    placed_moved m x d y l from (suc n) w e g f t =
        let q = from + n in
        rw (placed_moved m x d y l from n w e g f (omega arith))
        (placed_put m x (moved_by p (bytes_at m a l) from n d) y l (co0 p q) (co1 p q) (co2 p q) (co3 p q) w e g
        (rw length_moved f) (within_good p good q (omega arith)))

    -- the move within a memory m, from its l bytes at a to its k bytes at b
    moved_within_lem : (m : List ℕ) (l k from n : ℕ) → a + l ≤ length m → b + k ≤ length m → Reads l → place_end p ≤ k → from + n ≤ plan_total p
        → moved_by (placed_at a b p) m from n m ≡ sets m b (moved_by p (bytes_at m a l) from n (bytes_at m b k))
    moved_within_lem m l k from n wa wb e f t =
        let len : length (bytes_at m b k) ≡ k = length-take-le k (drop b m) (simp length-drop (omega arith)) in
        let whole : m ≡ take b m ++ (bytes_at m b k ++ drop (b + k) m) =
        sym (ap (λ (r : List ℕ). take b m ++ r) (ap (λ (r : List ℕ). bytes_at m b k ++ r) (sym (drop-drop k b m)) ∙ take-append-drop k (drop b m)) ∙ take-append-drop b m)
        in
        ap (λ (r : List ℕ). moved_by (placed_at a b p) m from n r) whole
        ∙ placed_moved m (take b m) (bytes_at m b k) (drop (b + k) m) l from n wa e (length-take-le b m (omega arith)) (rw len f) t
        ∙ sym (sets-eq (moved_by p (bytes_at m a l) from n (bytes_at m b k)) m b (rw (length_moved, len) (omega arith)) ∙ rw (length_moved, len, append_assoc))

  placed_reach : reach_of (placed_at a b p) ≡ reach_of p
  unfolding reach_of placed_at
  placed_reach = refl

  -- of a move that is ready between two parts
  reads : (m e : List ℕ) (l : ℕ) → a + l ≤ length m → length m < 2 ^ 64 → Ready (lent (bytes_at m a l)) p e → Reads l
  reads m e l w f r = record {
    fits = omega arith;
    each = λ c0 c1 c2 c3 k. omega (arith, r.span c0 c1 c2 c3 k, length_take_most l (drop a m));
  }

  placed_place_end : place_end (placed_at a b p) ≡ b + place_end p
  unfolding place_end summed placed_at
  placed_place_end = omega arith

  placed_total : plan_total (placed_at a b p) ≡ plan_total p
  unfolding plan_total placed_at
  placed_total = refl

  placed_place_by : (q : ℕ) → place_by (placed_at a b p) q ≡ b + place_by p q
  unfolding place_by placed_at
  placed_place_by q = placed_place (co0 p q) (co1 p q) (co2 p q) (co3 p q)

  placed_rising : Rising p → Rising (placed_at a b p)
  unfolding placed_at
  placed_rising h q r l m =
      let e = placed_total in
      let u = placed_place_by q in
      let v = placed_place_by r in
      omega (arith, h q r l (omega arith))

  -- what a move between the parts asks, and that they are apart, is what the move within the memory asks
  pub placed_ready : (m : List ℕ) (l k : ℕ) → a + l ≤ length m → b + k ≤ length m → length m < 2 ^ 64 → BytesApart Inside a (a + l) b (b + k)
      → Ready (lent (bytes_at m a l)) p (bytes_at m b k) → Ready Inside (placed_at a b p) m
  unfolding placed_at plan_kept
  placed_ready m l k wa wb f64 u r =
      let g = reads m (bytes_at m b k) l wa f64 r in
      let f = length_take_most k (drop b m) in
      let y = r.need in
      let home : (c0 c1 c2 c3 : ℕ) → plan_kept p c0 c1 c2 c3 ≡ true → (home_of (placed_at a b p) c0 c1 c2 c3 ≡ a + home_of p c0 c1 c2 c3) × (home_of p c0 c1 c2 c3 + p.size ≤ l) = λ c0 c1 c2 c3 t.
      let h = g.each c0 c1 c2 c3 t in (placed_home c0 c1 c2 c3 (omega (arith, g.fits)), h) in
      record {
        short = tt;
        sized = r.sized;
        axes = record { in0 = r.axes.in0; in1 = r.axes.in1; in2 = r.axes.in2; in3 = r.axes.in3 };
        few = rw placed_total r.few;
        rising = placed_rising r.rising;
        reach = rw placed_reach r.reach;
        need = omega (arith, placed_place_end);
        span = λ c0 c1 c2 c3 t. let h = home c0 c1 c2 c3 t in omega (arith, h.0, h.1);
        apart = λ c0 c1 c2 c3 t.
            let h = home c0 c1 c2 c3 t in
            apart_part Inside u (omega (arith, h.0)) (omega (arith, h.0, h.1)) (omega arith) (omega (arith, placed_place_end));
      }

  -- the first element that is kept
  first_kept : GoodAxes p → plan_kept p p.d0.pre p.d1.pre p.d2.pre p.d3.pre ≡ true
  unfolding plan_kept axis_kept
  first_kept g = rw (one p.d0 g.in0, one p.d1 g.in1, one p.d2 g.in2, one p.d3 g.in3)
    where
      one : (x : Axis) → GoodAxis x → (leb x.pre x.pre && ltb (x.pre - x.pre) x.count) ≡ true
      one x s = range_test x.pre x.pre x.count (omega arith, omega (arith, s.some))

  first_home : p.home < 2 ^ 64 → home_of p p.d0.pre p.d1.pre p.d2.pre p.d3.pre ≡ p.home
  unfolding home_of summed
  first_home h = simp (sub_self, zero-mul) (omega arith)

  pub placed_fits : (m : List ℕ) (l k : ℕ) → a + l ≤ length m → b + k ≤ length m → p.home < 2 ^ 64 → Ready (lent (bytes_at m a l)) p (bytes_at m b k)
      → (a + p.home ≤ length m) × (b + p.base ≤ length m)
  unfolding place_end summed
  placed_fits m l k wa wb f r =
      let x = rw (first_home f) at (r.span p.d0.pre p.d1.pre p.d2.pre p.d3.pre (first_kept r.axes)) in
      let y = r.need in
      (omega (arith, length_take_most l (drop a m)), omega (arith, length_take_most k (drop b m)))

  -- what the engine leaves of the memory is what the move between the parts leaves of the destination part
  pub placed_written : (m e : List ℕ) (l k from budget r : ℕ) → a + l ≤ length m → b + k ≤ length m → length m < 2 ^ 64 → Ready (lent (bytes_at m a l)) p (bytes_at m b k) → from < plan_total p
      → r ≡ min budget (plan_total p - from) → e ≡ moved_by (placed_at a b p) m from r m
      → e ≡ sets m b (moved_by p (bytes_at m a l) from r (bytes_at m b k))
  placed_written m e l k from budget r wa wb f64 g f n w =
      let d = g.need in
      w ∙ moved_within_lem g.axes m l k from r wa wb
      (reads m (bytes_at m b k) l wa f64 g) (omega (arith, length_take_most k (drop b m)))
      (omega (arith, min-le_right budget (plan_total p - from)))

-- what a step leaves of a memory: its own part is what was put there, a part that does not meet it is as it was, and what is put
-- there next takes its place
pub part_own : (m e : List ℕ) (b : ℕ) → b + length e ≤ length m → bytes_at (sets m b e) b (length e) ≡ e
part_own m e b h =
    rw (sets-eq e m b h, append_assoc, drop_at (take b m) (e ++ drop (b + length e) m) b (length-take-le b m (omega arith)))
    (take-append_seam e (drop (b + length e) m))

pub part_other : (m e : List ℕ) (b a l : ℕ) → (a + l ≤ b) ⊎ (b + length e ≤ a) → bytes_at (sets m b e) a l ≡ bytes_at m a l
part_other m e b a l o =
    bytes_same (sets m b e) m a l (length-sets m b e)
    (λ k u v. get_d_sets_out e m b k (⊎_elim (λ x. inl (omega arith)) (λ y. inr (omega arith)) o))

set_sets : (vs l : List ℕ) (i j v : ℕ) → i < j → set (sets l j vs) i v ≡ sets (set l i v) j vs
set_sets [] l i j v h = refl
set_sets (a ∷ vs) l i j v h = set_sets vs (set l j a) i (suc j) v (omega arith) ∙ rw (set_comm l j i a v (λ e. omega arith))

pub part_again : (m e f : List ℕ) (b : ℕ) → length e ≡ length f → sets (sets m b e) b f ≡ sets m b f
part_again m [] [] b h = refl
part_again m [] (y ∷ f) b h = absurd (omega arith)
part_again m (x ∷ e) [] b h = absurd (omega arith)
part_again m (x ∷ e) (y ∷ f) b h =
    rw (set_sets e (set m b x) b (suc b) y (omega arith), set-set m b x y) (part_again (set m b y) e f (suc b) (omega arith))
