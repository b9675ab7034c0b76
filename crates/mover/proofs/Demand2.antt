-- Demand 2: what an accepted move, and its first elements, leave of the destination, on the paper's terms alone; and that a refused one
-- leaves it as it was.
-- Assumes nothing.
use Rattle.std.proofs.Common.{◌≡◌, ℕ, zero, suc, ◌+◌, ◌-◌, ◌<◌, ◌≤◌, Bool, true, false, ◌⊎◌, List, length, get_or, take, drop, sym, refl, ◌∙◌, subst, inl, inr, ⊎_elim, true≢false, le_of_suc-le-suc, not-suc-le-zero, add-mul, eq-or-lt_of_le, one-mul, zero-add, arith, length-drop, length-take-le, get_or-drop, get_or-take, ext_get_or}
use native.Mathlib.Decide.{dec_lt}
use Rattle.plane.specs.declared.Tensor.{Tensor}
use Rattle.plane.specs.declared.Config.{Config}
use Rattle.plane.specs.Arrays.{at}
use Rattle.plane.specs.Planes.{span}
use Rattle.plane.specs.Moves.{count}
use Rattle.plane.proofs.Arrays.{every_all, every_each, every_fails}
use Rattle.plane.specs.Good.{GoodConfig, GoodMove}
use Rattle.mover.specs.Element.{dim_of, k_of, is_kept, are_kept, source_place, padded, element}
use Rattle.mover.specs.Moved.{total, coord_of, moved, move_memory}
use Rattle.mover.specs.Demand2.{IsCoordinate, KeptAt, end_at, source_byte, Spares, InPlaceAt, Meant, FirstsMeant, Accepted, AcceptedMeant, AcceptedOnly, AcceptedFirsts, AcceptedFirstsOnly, RefusedUnchanged}
use Rattle.mover.proofs.Laws.{judged, judged_good, moved_length, moved_whole, moved_refused}
use Rattle.mover.proofs.Keeping.{range_test, test_range, place_same, source_same}
use Rattle.mover.proofs.Fitting.{home_fits, place_fits}
use Rattle.mover.proofs.Spacing.{number_at, number_at_lt, number_at_coord, coord_below, bytes_rise, bytes_apart}
use Rattle.mover.proofs.Stored.{byte_of, length_padded, moved_elsewhere, moved_element}

-- ---- the test of what is kept says what is claimed, and the bytes of an element

module _ (t : Tensor) (c : Config) (x : ℕ → ℕ) where
  all_kept : ((i : ℕ) → i < t.rank → KeptAt t c x i) → are_kept t c x ≡ true
  unfolding are_kept is_kept
  all_kept h = every_all (λ i. is_kept t c i (x i)) t.rank (λ i l. range_test (at c.pre (dim_of c i)) (x i) (count t c (dim_of c i)) (h i l))

  pub each_kept : are_kept t c x ≡ true → (i : ℕ) → i < t.rank → KeptAt t c x i
  unfolding are_kept is_kept
  each_kept e i l = test_range (at c.pre (dim_of c i)) (x i) (count t c (dim_of c i)) (every_each (λ i. is_kept t c i (x i)) t.rank e i l)

  pub not_kept : (i : ℕ) → i < t.rank → (KeptAt t c x i → ⊥) → are_kept t c x ≡ false
  not_kept i l h = by_test (are_kept t c x) refl
    where
      by_test : (b : Bool) → are_kept t c x ≡ b → are_kept t c x ≡ false
      by_test true e = absurd (h (each_kept e i l))
      by_test false e = e

  pub one_not_kept : are_kept t c x ≡ false → (i : ℕ) × (i < t.rank) × (KeptAt t c x i → ⊥)
  unfolding are_kept is_kept
  one_not_kept e =
      let w = every_fails (λ i. is_kept t c i (x i)) t.rank e in
      (w.0, w.1, λ k. true≢false (sym (range_test (at c.pre (dim_of c w.0)) (x w.0) (count t c (dim_of c w.0)) k) ∙ w.2))

  source_within : GoodConfig t c → ((i : ℕ) → i < t.rank → KeptAt t c x i) → source_byte t c x + t.element_size ≤ span t
  unfolding source_place
  source_within g h =
      let w = home_fits g (λ i. k_of c i (x i)) (λ i l. omega (arith, (h i l).1)) in
      omega (arith, rw (add-mul, one-mul) at w)

  module _ (src : List ℕ) where
    element_kept : are_kept t c x ≡ true → element t c src x ≡ take t.element_size (drop (source_byte t c x) src)
    unfolding element
    element_kept e = rw e

    element_pad : are_kept t c x ≡ false → element t c src x ≡ padded t c
    unfolding element
    element_pad e = rw e

    -- an element has as many bytes as its size
    element_long : GoodConfig t c → span t ≤ length src → length (element t c src x) ≡ t.element_size
    element_long g l = by_test (are_kept t c x) refl
      where
        by_test : (b : Bool) → are_kept t c x ≡ b → length (element t c src x) ≡ t.element_size
        by_test true e =
            let w = source_within g (each_kept e) in
            rw (element_kept e) (length-take-le t.element_size (drop (source_byte t c x) src) (rw length-drop (omega arith)))
        by_test false e = rw (element_pad e) (length_padded t c)

    pub kept_byte : (b : ℕ) → b < t.element_size → are_kept t c x ≡ true → get_or (element t c src x) b 0 ≡ get_or src (source_byte t c x + b) 0
    kept_byte b h e = rw (element_kept e, get_or-take, get_or-drop)

    pub pad_byte : (b : ℕ) → are_kept t c x ≡ false → get_or (element t c src x) b 0 ≡ get_or (padded t c) b 0
    pad_byte b e = rw (element_pad e)

-- coordinates that are the same below the rank have one element
same_in_place : (t : Tensor) (c : Config) (src e : List ℕ) (y x : ℕ → ℕ) → ((i : ℕ) → i < t.rank → y i ≡ x i) → InPlaceAt t c src e y → InPlaceAt t c src e x
same_in_place t c src e y x same m =
    let p = place_same t c y x same in
    record {
      inside = rw p at m.inside;
      source = λ k b h. rw (p, source_same t c y x same) at (m.source (λ i l. rw (same i l) (k i l)) b h);
      filled = λ i l a b h. rw p at (m.filled i l (λ k. a (rw (same i l) at k)) b h);
    }

-- ---- the first n elements of an accepted move

module _ (t : Tensor) (c : Config) (src dst : List ℕ) (g : GoodMove t c (length src) (length dst)) where
  fits : (x : ℕ → ℕ) → IsCoordinate t c x → end_at t c x ≤ length dst
  fits x w =
      let f = place_fits g.config x w in
      let r = g.room in
      omega (arith, rw (add-mul, one-mul) at f)

  -- the coordinates of an element's number
  coord_inside : (q : ℕ) → IsCoordinate t c (coord_of t c q)
  coord_inside = coord_below g.source g.config g.destination

  module _ (n : ℕ) (most : n ≤ total t c) where
    element_at : (q b : ℕ) → q < n → b < t.element_size → get_or (moved t c src 0 n dst) (byte_of t c q + b) 0 ≡ get_or (element t c src (coord_of t c q)) b 0
    element_at q b l h =
        let z = element_long t c (coord_of t c q) src g.config g.long in
        rw zero-add at
        (moved_element t c src (bytes_rise g.source g.config g.destination) 0 n dst q b (λ r k. fits (coord_of t c r) (coord_inside r)) (omega arith) l (rw zero-add (omega arith)))

    accepted_firsts : FirstsMeant t c src dst n (moved t c src 0 n dst)
    accepted_firsts =
        let l = moved_length t c src 0 n dst in
        record {
          long = l;
          placed = λ q k.
              let x = coord_of t c q in record {
                inside = rw l (fits x (coord_inside q));
                source = λ a b h.
                    let s = source_within t c x g.config a in
                    let m = g.long in
                    (omega arith, element_at q b k h ∙ kept_byte t c x src b h (all_kept t c x a));
                filled = λ i l a b h. element_at q b k h ∙ pad_byte t c x src b (not_kept t c x i l a);
              };
          apart = λ q r k m. bytes_rise g.source g.config g.destination q r k (omega arith);
          rest = λ k h. moved_elsewhere t c src 0 n dst k (λ q l. rw zero-add (h q l));
        }

  -- ---- all of them: the coordinates are those of the numbers below the total

  firsts_whole : (e : List ℕ) → FirstsMeant t c src dst (total t c) e → Meant t c src dst e
  firsts_whole e m =
      record {
        long = m.long;
        placed = λ x w. same_in_place t c src e (coord_of t c (number_at t c x)) x (number_at_coord t c x w) (m.placed (number_at t c x) (number_at_lt t c x w));
        apart = λ x y. bytes_apart g.source g.config g.destination x y;
        rest = λ k h. m.rest k (λ q l. h (coord_of t c q) (coord_inside q));
      }

  whole_firsts : (e : List ℕ) → Meant t c src dst e → FirstsMeant t c src dst (total t c) e
  whole_firsts e m =
      record {
        long = m.long;
        placed = λ q l. m.placed (coord_of t c q) (coord_inside q);
        apart = bytes_rise g.source g.config g.destination;
        rest = λ k h.
            m.rest k
            (λ x w. rw (place_same t c (coord_of t c (number_at t c x)) x (number_at_coord t c x w)) at (h (number_at t c x) (number_at_lt t c x w)));
      }

-- ---- no two destinations are so

-- an element below number n that has byte k, or none
module _ (t : Tensor) (c : Config) (k : ℕ) where
  Owns : ℕ → Type 0
  Owns q = (byte_of t c q ≤ k) × (k < byte_of t c q + t.element_size)

  owns : (q : ℕ) → Owns q ⊎ Spares t c (coord_of t c q) k
  unfolding Owns
  owns q = elim (dec_lt k (byte_of t c q)) [
    | yes l ↦ inr (inl l)
    | no l ↦ elim (dec_lt k (byte_of t c q + t.element_size)) [
      | yes m ↦ inl (omega arith, m)
      | no m ↦ inr (inr (omega arith))
    ]
  ]

  owner : (n : ℕ) → ((q : ℕ) × (q < n) × Owns q) ⊎ ((q : ℕ) → q < n → Spares t c (coord_of t c q) k)
  owner zero = inr (λ q h. absurd (not-suc-le-zero h))
  owner (suc n) =
      ⊎_elim
      (λ o. inl (n, omega arith, o))
      (λ s.
      ⊎_elim
      (λ (o : (q : ℕ) × (q < n) × Owns q). inl (o.0, omega (arith, o.1), o.2))
      (λ f. inr (λ q h. ⊎_elim (λ e. subst (λ (r : ℕ). Spares t c (coord_of t c r) k) (sym e) s) (f q) (eq-or-lt_of_le (le_of_suc-le-suc h))))
      (owner n))
      (owns n)

module _ (t : Tensor) (c : Config) (src dst : List ℕ) (n : ℕ) (e f : List ℕ) (m : FirstsMeant t c src dst n e) (o : FirstsMeant t c src dst n f) where
  -- a byte of an element
  same_owned : (q b : ℕ) → q < n → b < t.element_size → get_or e (byte_of t c q + b) 0 ≡ get_or f (byte_of t c q + b) 0
  same_owned q b l h = by_test (are_kept t c (coord_of t c q)) refl
    where
      by_test : (d : Bool) → are_kept t c (coord_of t c q) ≡ d → get_or e (byte_of t c q + b) 0 ≡ get_or f (byte_of t c q + b) 0
      by_test true k = let a = each_kept t c (coord_of t c q) k in ((m.placed q l).source a b h).1 ∙ sym ((o.placed q l).source a b h).1
      by_test false k = let a = one_not_kept t c (coord_of t c q) k in (m.placed q l).filled a.0 a.1 a.2 b h ∙ sym ((o.placed q l).filled a.0 a.1 a.2 b h)

  same_byte : (k : ℕ) → get_or e k 0 ≡ get_or f k 0
  unfolding Owns
  same_byte k =
      ⊎_elim
      (λ (w : (q : ℕ) × (q < n) × Owns t c k q).
      let b = k - byte_of t c w.0 in
      let h : byte_of t c w.0 + b ≡ k = omega (arith, w.2.0) in
      rw h at (same_owned w.0 b w.1 (omega (arith, w.2.0, w.2.1))))
      (λ s. m.rest k s ∙ sym (o.rest k s))
      (owner t c k n)

  same_firsts : e ≡ f
  same_firsts = ext_get_or 0 e f (m.long ∙ sym o.long) (λ k h. same_byte k)

-- ---- the theorems

-- a refused move leaves the destination as it was
pub demand_2_refused : RefusedUnchanged
demand_2_refused t c src dst h = moved_refused t c src dst h

module _ (t : Tensor) (c : Config) (src dst : List ℕ) (z : Accepted t c src dst) where
  good : GoodMove t c (length src) (length dst)
  good = judged_good t c (length src) (length dst) z

  all : move_memory t c src dst ≡ moved t c src 0 (total t c) dst
  all = moved_whole t c src dst (sym (judged t c (length src) (length dst)) ∙ z)

-- what the first n elements of an accepted one leave; and no other destination is so
pub firsts_meant : AcceptedFirsts
firsts_meant t c src dst z n h = accepted_firsts t c src dst (good t c src dst z) n h

pub firsts_only : AcceptedFirstsOnly
firsts_only t c src dst z n e h m = same_firsts t c src dst n e (moved t c src 0 n dst) m (firsts_meant t c src dst z n h)

-- what all of them leave; and no other destination is so
pub demand_2 : AcceptedMeant
demand_2 t c src dst z =
    rw (all t c src dst z)
    (firsts_whole t c src dst (good t c src dst z) (moved t c src 0 (total t c) dst) (firsts_meant t c src dst z (total t c) (omega arith)))

pub demand_2_only : AcceptedOnly
demand_2_only t c src dst z e m =
    firsts_only t c src dst z (total t c) e (omega arith) (whole_firsts t c src dst (good t c src dst z) e m) ∙ sym (all t c src dst z)
