-- A band is what its elements leave, in their order, and what the engine's loops keep when it is moved. Assumes nothing.
use Rattle.std.proofs.Common.{◌≡◌, ℕ, zero, suc, ◌+◌, ◌-◌, ◌*◌, ◌%◌, ◌^◌, ◌<◌, ◌≤◌, Bool, true, ◌&&◌, ◌⊎◌, List, length, sym, refl, ap, ◌∙◌, inl, inr, mod-eq_of_lt, suc-mul, add-mul, zero-add, zero-mul, arith}
use native.Mathlib.Nat.{zero-sub}
use native.Mathlib.Decide.{dec_lt}
use lib.Arith.{digits_div, digits_mod}
use Rattle.mover.specs.declared.plan.Plan.{Plan}
use Rattle.mover.specs.declared.spots.Spot.{Spot}
use Rattle.mover.specs.declared.spots.Spots.{Spots}
use Rattle.mover.specs.declared.bands.Band.{Band}
use Rattle.mover.specs.declared.elements.Origin.{Origin}
use Rattle.mover.specs.Private.Elements.{source_bytes, axis_kept, plan_kept, summed, place_of, home_of, plan_bytes, co0, co1, co2, co3, moved_by, padding}
use Rattle.mover.specs.Private.Adding.{along, jumps_of, spot_at, first_spot}
use Rattle.mover.specs.Private.Patches.{rows_stored}
use Rattle.mover.specs.Private.Bands.{band_place, band_home, band_bytes, band_moved, BandAt, Banded, behind_rows}
use Rattle.mover.specs.Private.Plans.{jump_length}
use Rattle.mover.specs.Private.Ready.{place_end, place_by, Rising, Ready, InExtents}
use Rattle.mover.proofs.Bytes.{pick_same}
use Rattle.mover.proofs.Places.{place_least, place_most, all_kept_of, apart_part}
use Rattle.mover.proofs.Adding.{along_none, along_on, jumps_kept, spot_fits, spot_to, reaches, begin_to, row_place, row_home}
use Rattle.mover.proofs.ByNumber.{moved_add, number_of, number_lt, source_same}
use Rattle.mover.proofs.Crossing.{along_cross}
use Rattle.mover.proofs.Turns.{run_moved_lem, At, carry, at_was_ready}

-- ---- rows of elements, one after the other

rows_moved : (p : Plan) (s d : List ℕ) (e : ℕ → ℕ → List ℕ) (to c0 c1 c2 n : ℕ) {q : ℕ} → number_of p c0 c1 c2 0 ≡ q
    → ((i j : ℕ) → i < n → j < p.d3.extent → InExtents p c0 c1 (c2 + i) j)
    → ((i j : ℕ) → i < n → j < p.d3.extent → along (along to p.d2.stride i) p.d3.stride j ≡ place_of p c0 c1 (c2 + i) j)
    → ((i j : ℕ) → i < n → j < p.d3.extent → plan_bytes p s c0 c1 (c2 + i) j ≡ e i j)
    → moved_by p s q (n * p.d3.extent) d ≡ rows_stored e to p.d2.stride p.d3.stride p.d3.extent n d
unfolding rows_stored moved_by
rows_moved p s d e to c0 c1 c2 zero {q} h w f g = rw zero-mul
rows_moved p s d e to c0 c1 c2 (suc n) {q} h w f g =
    let x = (c0 * p.d1.extent + c1) * p.d2.extent in
    let a = add-mul x (c2 + n) p.d3.extent in
    let b = add-mul c2 n p.d3.extent in
    let c = add-mul x c2 p.d3.extent in
    let z : number_of p c0 c1 (c2 + n) 0 ≡ q + n * p.d3.extent = omega arith in
    rw (
      suc-mul,
      moved_add p s q (n * p.d3.extent) p.d3.extent d,
      rows_moved p s d e to c0 c1 c2 n h (λ i j l k. w i j (omega arith) k) (λ i j l k. f i j (omega arith) k) (λ i j l k. g i j (omega arith) k),
    )
    (run_moved_lem p s (rows_stored e to p.d2.stride p.d3.stride p.d3.extent n d) (e n) (along to p.d2.stride n) c0 c1 (c2 + n) 0 p.d3.extent z
    (λ k l. rw (zero-add k) (w n k (omega arith) l))
    (λ k l. rw (zero-add k) (f n k (omega arith) l))
    (λ k l. rw (zero-add k) (g n k (omega arith) l)))

-- ---- places of a band that begins with row c2

module _ (p : Plan) (c0 c1 c2 : ℕ) {slab layer row : Spot} (e0 : slab ≡ spot_at (first_spot p) p.d0 c0) (e1 : layer ≡ spot_at slab p.d1 c1) (e2 : row ≡ spot_at layer p.d2 c2) where
  row_starts : (i : ℕ) → along row.to p.d2.stride i ≡ (spot_at layer p.d2 (c2 + i)).to
  unfolding spot_at
  row_starts i = rw e2 (along_on layer.to p.d2.stride c2 i)

  band_place_lem : (i j : ℕ) → band_place p row i j ≡ place_of p c0 c1 (c2 + i) j % 2 ^ 64
  band_place_lem i j = ap (λ (y : ℕ). along y p.d3.stride j) (row_starts i) ∙ row_place p c0 c1 (c2 + i) e0 e1 refl j

  band_home_lem : (i j : ℕ) → plan_kept p c0 c1 (c2 + 0) j ≡ true → plan_kept p c0 c1 (c2 + i) j ≡ true → band_home p row i j ≡ home_of p c0 c1 (c2 + i) j
  unfolding spot_at
  band_home_lem i j g h =
      let z = (all_kept_of p c0 c1 (c2 + 0) j g).k2 in
      let k = all_kept_of p c0 c1 (c2 + i) j h in
      let a = jumps_kept p.d2 c2 (omega (arith, z.most)) in
      let b = jumps_kept p.d2 (c2 + i) k.k2.most in
      let c = jumps_kept p.d3 j k.k3.most in
      let n : jumps_of p.d2 c2 + i ≡ jumps_of p.d2 (c2 + i) = omega (arith, z.past) in
      rw (e2, c)
      (along_cross (along layer.at p.d2.jump (jumps_of p.d2 c2)) p.d3.jump p.d2.jump (j - p.d3.pre) i
      ∙ ap (λ (y : ℕ). along y p.d3.jump (j - p.d3.pre)) (along_on layer.at p.d2.jump (jumps_of p.d2 c2) i ∙ ap (along layer.at p.d2.jump) n)
      ∙ row_home p c0 c1 (c2 + i) e0 e1 refl j h)

  -- where a row of the layer starts, as a plain sum
  layer_to : {m : ℕ} → InExtents p c0 c1 m 0 → place_end p < 2 ^ 64 → layer.to + m * p.d2.stride < 2 ^ 64
  layer_to {m} w f =
      let t = begin_to p w f in
      let s0 = spot_to (first_spot p) p.d0 c0 (omega arith) e0 in
      let s1 = spot_to slab p.d1 c1 (omega arith) e1 in
      omega arith

-- elements of a layer share no byte: of two, that with the smaller number ends before the other begins
module _ (p : Plan) {q c0 c1 c2 c3 : ℕ} (e : number_of p c0 c1 c2 c3 ≡ q) (w : InExtents p c0 c1 c2 c3) where
  number_row : co2 p q ≡ c2
  number_row =
      rw (← e, digits_div ((c0 * p.d1.extent + c1) * p.d2.extent + c2) w.in3, digits_mod (c0 * p.d1.extent + c1) w.in2)

  number_column : co3 p q ≡ c3
  number_column = rw (← e, digits_mod ((c0 * p.d1.extent + c1) * p.d2.extent + c2) w.in3)

  number_place : place_by p q ≡ place_of p c0 c1 c2 c3
  unfolding place_by
  number_place =
      let q3 = (c0 * p.d1.extent + c1) * p.d2.extent + c2 in
      let q2 = c0 * p.d1.extent + c1 in
      let x0 : co0 p q ≡ c0 = rw (← e, digits_div q3 w.in3, digits_div q2 w.in2, digits_div c0 w.in1) in
      let x1 : co1 p q ≡ c1 = rw (← e, digits_div q3 w.in3, digits_div q2 w.in2, digits_mod c0 w.in1) in
      rw (x0, x1, number_row, number_column)

module _ (p : Plan) (s : Rising p) (c0 c1 : ℕ) where
  layer_off : (a b j l : ℕ) → InExtents p c0 c1 a j → InExtents p c0 c1 b l → ((a ≡ b) × (j ≡ l) → ⊥)
      → (place_of p c0 c1 a j + p.size ≤ place_of p c0 c1 b l) ⊎ (place_of p c0 c1 b l + p.size ≤ place_of p c0 c1 a j)
  layer_off a b j l v w ne =
      let q = number_of p c0 c1 a j in
      let r = number_of p c0 c1 b l in
      elim (dec_lt q r) [
        | yes x ↦ inl (rw (number_place p refl v, number_place p refl w) at (s q r x (number_lt p w)))
        | no x ↦ elim (dec_lt r q) [
          | yes y ↦ inr (rw (number_place p refl v, number_place p refl w) at (s r q y (number_lt p v)))
          | no y ↦
              let e : q ≡ r = omega arith in
              absurd (ne (sym (number_row p e v) ∙ number_row p refl w, sym (number_column p e v) ∙ number_column p refl w))
        ]
      ]

-- where a row ends, from its start
pub row_end : (p : Plan) → place_end p < 2 ^ 64 → (p.d3.extent - 1) * p.d3.stride < 2 ^ 64
unfolding place_end summed
row_end p h = omega arith

-- ---- a band, from where the loops stand

module _ {o : Origin} {p : Plan} {d₀ : List ℕ} {from budget : ℕ} {d : List ℕ} {c0 c1 c2 c3 left : ℕ} {u : Spots} (a : At o p d₀ from budget d c0 c1 c2 c3 left u)
    (r : Ready o p d) (f : length d < 2 ^ 63) (h0 : c0 < p.d0.extent) (h1 : c1 < p.d1.extent)
    {outer : Bool} (q : outer ≡ (axis_kept p.d0 c0 && axis_kept p.d1 c1)) (z : c3 ≡ 0) {b : Band} (l : BandAt p.d2 p.d3.extent outer c2 left b) where
  its_within : (i j : ℕ) → i < b.rows → j < p.d3.extent → InExtents p c0 c1 (c2 + i) j
  its_within i j hi hj = record { in0 = h0; in1 = h1; in2 = omega (arith, l.within); in3 = hj }

  its_kept : (i j : ℕ) → i < b.rows → plan_kept p c0 c1 (c2 + i) j ≡ (b.kept && axis_kept p.d3 j)
  unfolding plan_kept
  its_kept i j hi =
      let e : (axis_kept p.d0 c0 && axis_kept p.d1 c1 && axis_kept p.d2 (c2 + i)) ≡ b.kept = rw (← q) (l.same i hi) in
      ap (λ (x : Bool). x && axis_kept p.d3 j) e

  its_place : (i j : ℕ) → i < b.rows → j < p.d3.extent → band_place p u.row i j ≡ place_of p c0 c1 (c2 + i) j
  its_place i j hi hj =
      band_place_lem p c0 c1 c2 a.slab a.layer a.row i j
      ∙ mod-eq_of_lt (omega (arith, place_most p c0 c1 (c2 + i) j (its_within i j hi hj), r.need))

  its_home : (i j : ℕ) → i < b.rows → (b.kept && axis_kept p.d3 j) ≡ true → band_home p u.row i j ≡ home_of p c0 c1 (c2 + i) j
  its_home i j hi k =
      band_home_lem p c0 c1 c2 a.slab a.layer a.row i j (its_kept 0 j l.some ∙ k) (its_kept i j hi ∙ k)

  -- what it asks
  pub band_asks : Banded o p d u.row b
  band_asks = record {
    short = r.short;
    sized = r.sized;
    axis = r.axes.in3;
    places = λ i j hi hj. rw (its_place i j hi hj) (omega (arith, place_most p c0 c1 (c2 + i) j (its_within i j hi hj), r.need));
    homes = λ i j hi k. rw (its_home i j hi k) (r.span c0 c1 (c2 + i) j (its_kept i j hi ∙ k));
    parted = λ i j m n hi k hm hn.
        rw (its_home i j hi k, its_place m n hm hn)
        (apart_part o (r.apart c0 c1 (c2 + i) j (its_kept i j hi ∙ k)) (omega arith) (omega arith)
        (place_least p c0 c1 (c2 + m) n) (place_most p c0 c1 (c2 + m) n (its_within m n hm hn)));
    off = λ i j m n hi hm hj hn ne.
        rw (its_place i j hi hj, its_place m n hm hn)
        (layer_off p r.rising c0 c1 (c2 + i) (c2 + m) j n (its_within i j hi hj) (its_within m n hm hn) (λ e. ne (omega (arith, e.0), e.1)));
  }

  -- and what it leaves
  its_bytes : (i j : ℕ) → i < b.rows → j < p.d3.extent → plan_bytes p (source_bytes o d₀) c0 c1 (c2 + i) j ≡ band_bytes p (source_bytes o d) u.row b.kept i j
  unfolding plan_bytes
  its_bytes i j hi hj =
      sym (source_same o p d₀ from (budget - left) c0 c1 (c2 + i) j (at_was_ready a r) a.most)
      ∙ ap (λ (y : List ℕ). plan_bytes p (source_bytes o y) c0 c1 (c2 + i) j) (sym a.bytes)
      ∙ rw (its_kept i j hi) (pick_same (b.kept && axis_kept p.d3 j) (padding p.size p.pad) (λ t. rw (its_home i j hi t)))

  -- the spots behind it
  pub band_behind : place_end p < 2 ^ 64
      → (u.layer.to + (c2 + b.rows - 1) * p.d2.stride < 2 ^ 64) × ((p.d2.count - 1) * jump_length p.d2.jump < 2 ^ 64)
  band_behind f = (
    layer_to p c0 c1 c2 a.slab a.layer a.row
        (record { in0 = h0; in1 = h1; in2 = omega (arith, l.within); in3 = omega (arith, r.axes.in3.some, r.axes.in3.within) }) f,
    (reaches p r.reach).far2,
  )

  pub band_turn : {d' : List ℕ} {v : Spots} → d' ≡ band_moved o p d u.row b → v ≡ behind_rows u p.d2 (c2 + b.rows)
      → At o p d₀ from budget d' c0 c1 (c2 + b.rows) c3 (left - b.elements) v
  band_turn {d'} t g =
      let x = (c0 * p.d1.extent + c1) * p.d2.extent in
      let e = l.elements in
      let cut = l.paid in
      let m : budget - (left - b.elements) ≡ budget - left + b.elements = omega (arith, a.fund) in
      let here : number_of p c0 c1 c2 0 ≡ from + (budget - left) = rw z at a.number in
      let sum1 = add-mul x (c2 + b.rows) p.d3.extent in
      let sum2 = add-mul c2 b.rows p.d3.extent in
      let sum3 = add-mul x c2 p.d3.extent in
      let there : number_of p c0 c1 (c2 + b.rows) 0 ≡ from + (budget - (left - b.elements)) = omega arith in
      let last = number_lt p (its_within (b.rows - 1) (p.d3.extent - 1) (omega arith) (omega (arith, r.axes.in3.some, r.axes.in3.within))) in
      let step = carry x (c2 + (b.rows - 1)) p.d3.extent in
      let same : c2 + (b.rows - 1) + 1 ≡ c2 + b.rows = omega arith in
      let end : number_of p c0 c1 (c2 + b.rows) 0 ≡ (x + (c2 + (b.rows - 1))) * p.d3.extent + p.d3.extent = rw same at step in
      let n = spot_at u.layer p.d2 (c2 + b.rows) in
      let fits = spot_fits u.layer p.d2 (c2 + b.rows) {r = n} refl in
      rw g
      (record {
        in1 = a.in1;
        in2 = l.within;
        in3 = a.in3;
        rest1 = λ h. absurd (omega arith);
        rest2 = λ h. z;
        fund = omega (arith, a.fund);
        number = rw z there;
        most = omega (arith, r.axes.in3.some, r.axes.in3.within);
        bytes =
            t
            ∙ sym (rows_moved p (source_bytes o d₀) d (band_bytes p (source_bytes o d) u.row b.kept) u.row.to c0 c1 c2 b.rows here its_within its_place its_bytes)
            ∙ ap (λ (k : ℕ). moved_by p (source_bytes o d₀) (from + (budget - left)) k d) (sym e)
            ∙ ap (moved_by p (source_bytes o d₀) (from + (budget - left)) b.elements) a.bytes
            ∙ sym (moved_add p (source_bytes o d₀) from (budget - left) b.elements d₀)
            ∙ ap (λ (j : ℕ). moved_by p (source_bytes o d₀) from j d₀) (sym m);
        slab = a.slab;
        layer = a.layer;
        row = refl;
        place = sym (rw z (along_none n.to p.d3.stride fits.0));
        home = λ h v. sym (rw (z, zero-sub) (along_none n.at p.d3.jump fits.1));
      })
