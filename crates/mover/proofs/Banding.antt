-- Where a band begins and ends, and the patches that it has: what is padded in front, what is kept, and what is padded behind.
-- Assumes nothing.
use Rattle.std.proofs.Common.{◌≡◌, ℕ, ◌+◌, ◌-◌, ◌*◌, ◌/◌, ◌%◌, ◌^◌, ◌<◌, ◌≤◌, min, Bool, true, false, ◌&&◌, ◌⊎◌, List, length, take, drop, sym, refl, ap, ◌∙◌, inl, inr, ⊎_elim, mul-le-mul_right, div-add-mod', arith, le-ltb, le-leb}
use Rattle.std.proofs.lemmas.Nat.{le-div}
use borrow.Author.Tests.{lt-leb}
use Rattle.mover.specs.declared.plan.Axis.{Axis}
use Rattle.mover.specs.declared.plan.Plan.{Plan}
use Rattle.mover.specs.declared.spots.Spot.{Spot}
use Rattle.mover.specs.declared.spots.Spots.{Spots}
use Rattle.mover.specs.declared.alike.Run.{Run}
use Rattle.mover.specs.declared.bands.Band.{Band}
use Rattle.mover.specs.declared.patches.Patch.{Patch}
use Rattle.mover.specs.declared.elements.Origin.{Origin}
use Rattle.mover.specs.declared.elements.Origin.TheVariants.{Lent, Inside}
use Rattle.mover.specs.Private.Elements.{source_bytes, axis_kept, padding}
use Rattle.mover.specs.Private.Adding.{along, jumps_of, spot_at, onward_of, next_row}
use Rattle.mover.specs.Private.Runs.{Alike}
use Rattle.mover.specs.Private.Patches.{rows_stored, patch_copied, patch_padded, PatchFits, PatchReads, patch_of}
use Rattle.mover.specs.Private.Bands.{band_place, band_home, band_bytes, band_moved, BandAt, Banded, behind_rows}
use Rattle.mover.proofs.Bytes.{length_take_most, length_cond, bytes_same}
use Rattle.mover.proofs.Keeping.{range_test}
use Rattle.mover.proofs.Places.{still_held}
use Rattle.mover.proofs.Adding.{along_none, jumps_kept, spot_on}
use Rattle.mover.proofs.Crossing.{rows_same, rows_at, rows_none, length_rows, rows_out, AllOff, along_cross, along_shift, columns_add}

-- where in a row its element k begins
pub place_at : (a t k : ℕ) {n r : ℕ} → n ≡ k * t → r ≡ (a + n) % 2 ^ 64 → r ≡ along a t k
unfolding along
place_at a t k h e = e ∙ ap (λ (y : ℕ). (a + y) % 2 ^ 64) h

pub starts_at : (a t : ℕ) {k : ℕ} → a < 2 ^ 64 → k ≡ 0 → a ≡ along a t k
starts_at a t h e = rw e (sym (along_none a t h))

-- rows that are paid for
pub rows_fit : (e left n : ℕ) {rows : ℕ} → rows ≡ min n (left / e) → rows * e ≤ left
rows_fit e left n {rows} q =
    let l : rows ≤ left / e = omega arith in
    omega (arith, mul-le-mul_right e l, div-add-mod' left e)

module _ (x : Axis) (e : ℕ) (outer : Bool) (c left : ℕ) where
  pub band_some : {run : Run} {rows : ℕ} (most : ℕ) → 0 < e → e ≤ left → 0 < most → Alike x outer c left run → rows ≡ min (min run.n most) (left / e)
      → BandAt x e outer c left (record { kept = run.kept; rows = rows; elements = rows * e })
  band_some {run} {rows} most z l h a q =
      record {
        some = let one = le-div 1 left e z (omega arith) in omega (arith, a.some);
        within = omega (arith, a.row);
        same = λ k h. a.same k (omega arith);
        elements = refl;
        paid = rows_fit e left (min run.n most) q;
      }

-- from the last row of a band to the next
pub behind_rows_lem : (s : Spots) (x : Axis) (c : ℕ) {row : Spot} → 0 < c → row ≡ spot_at s.layer x (c - 1)
    → next_row (record { slab = s.slab; layer = s.layer; row = row; here = s.here }) x c ≡ behind_rows s x c
behind_rows_lem s x c {row} h e =
    let k : c - 1 + 1 ≡ c = omega arith in
    let n : onward_of row x c ≡ spot_at s.layer x c =
    rw (e) (ap (onward_of (spot_at s.layer x (c - 1)) x) (sym k) ∙ spot_on s.layer x (c - 1) ∙ ap (spot_at s.layer x) k) in
    λ i. record { slab = s.slab; layer = s.layer; row = n i; here = n i }

-- ---- elements of a band

module _ (p : Plan) (u : Spot) where
  -- an element is no longer than its size
  band_short : (s : List ℕ) (kept : Bool) (i j : ℕ) → length (band_bytes p s u kept i j) ≤ p.size
  band_short s kept i j = length_cond (kept && axis_kept p.d3 j) p.size (drop (band_home p u i j) s) _ (length_take_most p.size _)

  -- what is padded, in front and behind
  column_padded : (j : ℕ) → (j < p.d3.pre) ⊎ (p.d3.pre + p.d3.count ≤ j) → axis_kept p.d3 j ≡ false
  unfolding axis_kept
  column_padded j =
      ⊎_elim
      (λ h. rw (lt-leb p.d3.pre j h))
      (λ h. rw (le-leb p.d3.pre j (omega arith), le-ltb (j - p.d3.pre) p.d3.count (omega arith)))

  -- what is kept, and where it stands
  column_kept : (j : ℕ) → j < p.d3.count → axis_kept p.d3 (p.d3.pre + j) ≡ true
  unfolding axis_kept
  column_kept j h = range_test p.d3.pre (p.d3.pre + j) p.d3.count (omega arith, omega arith)

  column_home : (i j : ℕ) → j < p.d3.count → along (along u.at p.d2.jump i) p.d3.jump j ≡ band_home p u i (p.d3.pre + j)
  unfolding spot_at
  column_home i j h =
      let k : jumps_of p.d3 (p.d3.pre + j) ≡ j = jumps_kept p.d3 (p.d3.pre + j) (omega arith) ∙ omega arith in
      rw k (along_cross u.at p.d2.jump p.d3.jump i j)

  -- the columns from a on, of which the first goes to v
  column_place : {v : ℕ} (a m i j : ℕ) → (0 < m → v ≡ along u.to p.d3.stride a) → j < m
      → along (along v p.d2.stride i) p.d3.stride j ≡ band_place p u i (a + j)
  column_place a m i j e h = rw (e (omega arith)) (along_shift u.to p.d2.stride p.d3.stride a i j)

-- while columns are stored, what is still to be read is as it was
columns_keep : (o : Origin) (p : Plan) (d : List ℕ) (u : Spot) (b : Band) (v : List ℕ) (m i j : ℕ) → Banded o p d u b → m ≤ p.d3.extent
    → i < b.rows → (b.kept && axis_kept p.d3 j) ≡ true
    → take p.size (drop (band_home p u i j) (source_bytes o (rows_stored (band_bytes p v u b.kept) u.to p.d2.stride p.d3.stride m b.rows d)))
    ≡ take p.size (drop (band_home p u i j) (source_bytes o d))
columns_keep (Lent s) p d u b v m i j r w h k = refl
columns_keep Inside p d u b v m i j r w h k =
    let e = band_bytes p v u b.kept in
    bytes_same (rows_stored e u.to p.d2.stride p.d3.stride m b.rows d) d (band_home p u i j) p.size
    (length_rows e u.to p.d2.stride p.d3.stride m b.rows d)
    (λ x l g.
    rows_out e u.to p.d2.stride p.d3.stride m b.rows d x
    (λ y z q t.
    let n = band_short p u v b.kept y z in
    ⊎_elim (λ a. inl (omega arith)) (λ a. inr (omega arith)) (r.parted i j y z h k q (omega arith))))

-- ---- its patches

-- stores keep a length
pub padded_length : (d : List ℕ) (q : Patch) {d' : List ℕ} → d' ≡ patch_padded d q → length d' ≡ length d
padded_length d q e = ap length e ∙ length_rows _ q.to q.row_stride q.stride q.columns q.rows d

pub copied_length : (o : Origin) (d : List ℕ) (q : Patch) {d' : List ℕ} → d' ≡ patch_copied o d q → length d' ≡ length d
copied_length o d q e = ap length e ∙ length_rows _ q.to q.row_stride q.stride q.columns q.rows d

module _ {o : Origin} {p : Plan} {d : List ℕ} {u : Spot} {b : Band} (r : Banded o p d u b) where
  -- what the columns from a on ask
  pub part_fits : {at v : ℕ} (a : ℕ) {m : ℕ} {d' : List ℕ} {q : Patch} → q ≡ patch_of p at v b.rows m → (0 < m → v ≡ along u.to p.d3.stride a)
      → a + m ≤ p.d3.extent → length d' ≡ length d → PatchFits d' q
  part_fits a {m} f e w n =
      rw f
      (record {
        sized = r.sized;
        held = λ i j hi hj. rw (column_place p u a m i j e hj) (omega (arith, r.places i (a + j) hi (omega arith)));
        off = λ i j k l hi hk hj hl ne.
            rw (column_place p u a m i j e hj, column_place p u a m k l e hl)
            (r.off i (a + j) k (a + l) hi hk (omega arith) (omega arith) (λ x. ne (x.0, omega (arith, x.1))));
      })

  module _ (t : b.kept ≡ true) where
    its_kept : (j : ℕ) → j < p.d3.count → (b.kept && axis_kept p.d3 (p.d3.pre + j)) ≡ true
    its_kept j h = rw t (column_kept p u j h)

    pub part_reads : {v m : ℕ} {d' : List ℕ} {q : Patch} → q ≡ patch_of p u.at v b.rows m → (0 < m → v ≡ along u.to p.d3.stride p.d3.pre)
        → m ≤ p.d3.count → length d' ≡ length d → PatchReads o d' q
    part_reads {v} {m} {d'} f e w n =
        let k = r.axis.within in
        rw f
        (record {
          short = r.short;
          held = λ i j hi hj. rw (column_home p u i j (omega arith)) (still_held o d d' n (r.homes i (p.d3.pre + j) hi (its_kept j (omega arith))));
          parted = λ i j k l hi hj hk hl.
              rw (column_home p u i j (omega arith), column_place p u p.d3.pre m k l e hl)
              (r.parted i (p.d3.pre + j) k (p.d3.pre + l) hi (its_kept j (omega arith)) hk (omega arith));
        })

    -- the bytes of a column that is padded, and of one that is kept
    its_padding : (i j : ℕ) → (j < p.d3.pre) ⊎ (p.d3.pre + p.d3.count ≤ j) → padding p.size p.pad ≡ band_bytes p (source_bytes o d) u b.kept i j
    its_padding i j h = rw (t, column_padded p u j h)

    its_source : (i j : ℕ) → j < p.d3.count
        → take p.size (drop (band_home p u i (p.d3.pre + j)) (source_bytes o d)) ≡ band_bytes p (source_bytes o d) u b.kept i (p.d3.pre + j)
    its_source i j h = rw (its_kept j h)

  its_off : (v : List ℕ) (m : ℕ) → m ≤ p.d3.extent → AllOff (band_bytes p v u b.kept) u.to p.d2.stride p.d3.stride b.rows m
  its_off v m w i j k l hi hk hj hl ne =
      let x = band_short p u v b.kept i j in
      let y = band_short p u v b.kept k l in
      ⊎_elim (λ g. inl (omega arith)) (λ g. inr (omega arith)) (r.off i j k l hi hk (omega arith) (omega arith) ne)

  -- all of it is padding
  pub band_padded : b.kept ≡ false → {at : ℕ} {d' : List ℕ} {q : Patch} → q ≡ patch_of p at u.to b.rows p.d3.extent → d' ≡ patch_padded d q → d' ≡ band_moved o p d u b
  band_padded t f x =
      x ∙ rw f
      (rows_same _ (band_bytes p (source_bytes o d) u b.kept) u.to p.d2.stride p.d3.stride p.d3.extent b.rows d (λ i j hi hj. rw t))

  module _ (t : b.kept ≡ true) where
    -- nothing of it is
    pub band_copied : p.d3.count ≡ p.d3.extent → {d' : List ℕ} {q : Patch} → q ≡ patch_of p u.at u.to b.rows p.d3.extent → d' ≡ patch_copied o d q → d' ≡ band_moved o p d u b
    band_copied w f x =
        let g = r.axis.within in
        x ∙ rw f
        (rows_same _ (band_bytes p (source_bytes o d) u b.kept) u.to p.d2.stride p.d3.stride p.d3.extent b.rows d
        (λ i j hi hj.
        let k : p.d3.pre + j ≡ j = omega arith in
        rw (column_home p u i j (omega arith)) (its_source t i j (omega arith) ∙ ap (band_bytes p (source_bytes o d) u b.kept i) k)))

    -- some of it is
    pub band_parted : {first behind : ℕ} {d1 d2 d3 : List ℕ} {q1 q2 q3 : Patch}
        → first ≡ along u.to p.d3.stride p.d3.pre
        → (p.d3.pre + p.d3.count < p.d3.extent → behind ≡ along u.to p.d3.stride (p.d3.pre + p.d3.count))
        → q1 ≡ patch_of p u.at u.to b.rows p.d3.pre → d1 ≡ patch_padded d q1
        → q2 ≡ patch_of p u.at first b.rows p.d3.count → d2 ≡ patch_copied o d1 q2
        → q3 ≡ patch_of p u.at behind b.rows (p.d3.extent - p.d3.pre - p.d3.count) → d3 ≡ patch_padded d2 q3
        → d3 ≡ band_moved o p d u b
    band_parted {first} {behind} {d1} {d2} {d3} {q1} {q2} {q3} h1 h2 f1 x1 f2 x2 f3 x3 =
        let w = r.axis.within in
        let a = p.d3.pre in
        let c = p.d3.count in
        let z = p.d3.extent - p.d3.pre - p.d3.count in
        let e = band_bytes p (source_bytes o d) u b.kept in
        let k = p.d2.stride in
        let l = p.d3.stride in
        let n = b.rows in
        let m : a + c + z ≡ p.d3.extent = omega arith in
        let y1 : d1 ≡ rows_stored e u.to k l a n d =
        x1 ∙ rw f1 (rows_same _ e u.to k l a n d (λ i j hi hj. its_padding t i j (inl hj))) in
        let y2 : d2 ≡ rows_stored (λ i j. e i (a + j)) (along u.to l a) k l c n d1 =
        x2 ∙ rw (f2, h1)
        (rows_same _ (λ i j. e i (a + j)) (along u.to l a) k l c n d1
        (λ i j hi hj. rw (column_home p u i j hj, y1) (columns_keep o p d u b (source_bytes o d) a i (a + j) r (omega arith) hi (its_kept t j hj) ∙ its_source t i j hj))) in
        let y3 : d3 ≡ rows_stored (λ i j. e i (a + c + j)) (along u.to l (a + c)) k l z n d2 =
        x3 ∙ rw f3
        (rows_same _ (λ i j. e i (a + c + j)) behind k l z n d2 (λ i j hi hj. its_padding t i (a + c + j) (inr (omega arith)))
        ∙ rows_at (λ i j. e i (a + c + j)) k l z n d2 (λ g. h2 (omega arith))) in
        y3
        ∙ ap (rows_stored (λ i j. e i (a + c + j)) (along u.to l (a + c)) k l z n)
        (y2 ∙ ap (rows_stored (λ i j. e i (a + j)) (along u.to l a) k l c n) y1
        ∙ sym (columns_add e u.to k l n a c d (its_off (source_bytes o d) (a + c) (omega arith))))
        ∙ sym (columns_add e u.to k l n (a + c) z d (its_off (source_bytes o d) (a + c + z) (omega arith)))
        ∙ ap (λ (y : ℕ). rows_stored e u.to k l y n d) m

    -- and nothing is padded behind it
    pub band_ended : {first : ℕ} {d1 d2 : List ℕ} {q1 q2 : Patch}
        → first ≡ along u.to p.d3.stride p.d3.pre
        → p.d3.extent ≤ p.d3.pre + p.d3.count
        → q1 ≡ patch_of p u.at u.to b.rows p.d3.pre → d1 ≡ patch_padded d q1
        → q2 ≡ patch_of p u.at first b.rows p.d3.count → d2 ≡ patch_copied o d1 q2
        → d2 ≡ band_moved o p d u b
    band_ended {first} {d1} {d2} h1 h2 f1 x1 f2 x2 =
        let z : p.d3.extent - p.d3.pre - p.d3.count ≡ 0 = omega arith in
        band_parted {behind = u.to} {q3 = patch_of p u.at u.to b.rows (p.d3.extent - p.d3.pre - p.d3.count)} h1 (λ g. let no : ⊥ = omega arith in absurd no) f1 x1 f2 x2 refl
        (rw z (sym (rows_none (λ i j. padding p.size p.pad) u.to p.d2.stride p.d3.stride b.rows d2)))
