-- What a turn of the engine's loops keeps: a run is elements by their numbers, and the end of a row, a layer and a slab is the start
-- of the next. Assumes nothing.
use Rattle.std.proofs.Common.{◌≡◌, ℕ, zero, suc, ◌+◌, ◌-◌, ◌*◌, ◌^◌, ◌<◌, ◌≤◌, min, Bool, true, ◌&&◌, List, length, sym, refl, ap, ◌∙◌, ⊎_elim, le_trans, le-add_right, add-zero, add_assoc, mul-le-mul_right, mod-eq_of_lt, add-mul, one-mul, arith}
use native.Mathlib.Nat.{zero-sub, min-eq_left, min-eq_right, sub_self}
use Rattle.mover.specs.declared.plan.Plan.{Plan}
use Rattle.mover.specs.declared.spots.Spot.{Spot}
use Rattle.mover.specs.declared.spots.Spots.{Spots}
use Rattle.mover.specs.declared.start.Beginning.{Beginning}
use Rattle.mover.specs.declared.alike.Run.{Run}
use Rattle.mover.specs.declared.elements.Origin.{Origin}
use Rattle.mover.specs.Private.Elements.{source_bytes, axis_kept, plan_kept, place_of, home_of, plan_bytes, put_at, put_number, plan_total, moved_by, moved_from, co0, co1, co2, co3, padding}
use Rattle.mover.specs.Private.Adding.{along, spot_at, onward_of, first_spot, beginning_of, next_row, next_layer, next_slab, after_run}
use Rattle.mover.specs.Private.Runs.{Alike, course_of, run_stored, either_bytes, run_moved, Readable, Writable}
use Rattle.mover.specs.Private.Ready.{GoodAxes, Ready, InExtents}
use Rattle.mover.proofs.Bytes.{pick_same}
use Rattle.mover.proofs.Places.{place_least, place_most, all_kept_of, apart_part, still_ready}
use Rattle.mover.proofs.Adding.{along_none, along_on, jumps_kept, spot_fits, spot_none, spot_on, row_place, row_home}
use Rattle.mover.proofs.ByNumber.{length_moved, moved_add, number_of, put_number_lem, number_lt, spread_good, source_same}

-- ---- a run

-- neighbours in a row, stored one by one at their places
pub run_moved_lem : (p : Plan) (s d : List ℕ) (e : ℕ → List ℕ) (to c0 c1 c2 c3 n : ℕ) {q : ℕ} → number_of p c0 c1 c2 c3 ≡ q
    → ((k : ℕ) → k < n → InExtents p c0 c1 c2 (c3 + k))
    → ((k : ℕ) → k < n → along to p.d3.stride k ≡ place_of p c0 c1 c2 (c3 + k))
    → ((k : ℕ) → k < n → plan_bytes p s c0 c1 c2 (c3 + k) ≡ e k)
    → moved_by p s q n d ≡ run_stored e to p.d3.stride n d
unfolding moved_by run_stored put_at
run_moved_lem p s d e to c0 c1 c2 c3 zero h w f g = refl
run_moved_lem p s d e to c0 c1 c2 c3 (suc n) {q} h w f g =
    let z : number_of p c0 c1 c2 (c3 + n) ≡ q + n = omega arith in
    put_number_lem p s (moved_by p s q n d) z (w n (omega arith))
    ∙ rw (run_moved_lem p s d e to c0 c1 c2 c3 n h (λ k l. w k (omega arith)) (λ k l. f k (omega arith)) (λ k l. g k (omega arith)), f n (omega arith), g n (omega arith))

-- bytes from another source that has the same
moved_same : (p : Plan) (s s' : List ℕ) (from n : ℕ) (d : List ℕ) → ((c0 c1 c2 c3 : ℕ) → plan_bytes p s c0 c1 c2 c3 ≡ plan_bytes p s' c0 c1 c2 c3)
    → moved_by p s from n d ≡ moved_by p s' from n d
unfolding moved_by put_number put_at
moved_same p s s' from zero d h = refl
moved_same p s s' from (suc n) d h =
    rw (moved_same p s s' from n d h, h (co0 p (from + n)) (co1 p (from + n)) (co2 p (from + n)) (co3 p (from + n)))

-- as many elements as are left in a row, from c on, or of the budget
pub record Cut (e c left n : ℕ) : Type 0 where
  pub some : 0 < n
  pub paid : n ≤ left
  pub row : c + n ≤ e
  pub full : 0 < left - n → c + n ≡ e

pub cut_row : (e c left : ℕ) {n : ℕ} → c < e → 0 < left → n ≡ min (e - c) left → Cut e c left n
cut_row e c left h l q = record { some = omega arith; paid = omega arith; row = omega arith; full = λ g. omega arith }

least_all : (q n t : ℕ) → q + n ≤ t → min n (t - q) ≡ n
least_all q n t h = min-eq_left (omega arith)

-- ---- the engine's loops

-- the coordinates are those of element number from + done, where done is the part of the budget that is not left; what is before it
-- has been moved; behind a coordinate at its end all are 0; and the spots are those of its slab, layer and row and its own. Of the
-- source's place nothing is said where no element is left, or no kept one is ahead in the row
pub record At (o : Origin) (p : Plan) (d₀ : List ℕ) (from budget : ℕ) (d : List ℕ) (c0 c1 c2 c3 left : ℕ) (u : Spots) : Type 0 where
  pub in1 : c1 ≤ p.d1.extent
  pub in2 : c2 ≤ p.d2.extent
  pub in3 : c3 ≤ p.d3.extent
  pub rest1 : p.d1.extent ≤ c1 → (c2 ≡ 0) × (c3 ≡ 0)
  pub rest2 : p.d2.extent ≤ c2 → c3 ≡ 0
  pub fund : left ≤ budget
  pub number : number_of p c0 c1 c2 c3 ≡ from + (budget - left)
  pub most : from + (budget - left) ≤ plan_total p
  pub bytes : d ≡ moved_by p (source_bytes o d₀) from (budget - left) d₀
  pub slab : u.slab ≡ spot_at (first_spot p) p.d0 c0
  pub layer : u.layer ≡ spot_at u.slab p.d1 c1
  pub row : u.row ≡ spot_at u.layer p.d2 c2
  pub place : u.here.to ≡ along u.row.to p.d3.stride c3
  pub home : 0 < left → c3 < p.d3.pre + p.d3.count → u.here.at ≡ along u.row.at p.d3.jump (c3 - p.d3.pre)

-- from one state of the loops to another, `At` is kept, whatever destination it began with
abbrev pub Keeps : Origin → Plan → ℕ → ℕ → List ℕ → ℕ → ℕ → ℕ → ℕ → ℕ → Spots → List ℕ → ℕ → ℕ → ℕ → ℕ → ℕ → Spots → Type 0
Keeps o p from budget e b0 b1 b2 b3 had v d c0 c1 c2 c3 left u =
    (d₀ : List ℕ) → At o p d₀ from budget e b0 b1 b2 b3 had v → At o p d₀ from budget d c0 c1 c2 c3 left u

-- what is so when the loops are left
pub record Over (o : Origin) (p : Plan) (d₀ : List ℕ) (from budget : ℕ) (d : List ℕ) (left : ℕ) : Type 0 where
  pub fund : left ≤ budget
  pub long : length d ≡ length d₀
  pub count : budget - left ≡ min budget (plan_total p - from)
  pub bytes : d ≡ moved_by p (source_bytes o d₀) from (budget - left) d₀

-- the end of one row of e is the start of the next
pub carry : (a c e : ℕ) → (a + (c + 1)) * e + 0 ≡ (a + c) * e + e
carry a c e = rw (← add_assoc) (add-zero ((a + c + 1) * e) ∙ add-mul (a + c) 1 e ∙ rw one-mul)

carry0 : (c e : ℕ) → (c + 1) * e + 0 ≡ c * e + e
carry0 c e = add-zero ((c + 1) * e) ∙ add-mul c 1 e ∙ rw one-mul

pub start : (o : Origin) (p : Plan) (d : List ℕ) (from budget : ℕ) {b : Beginning} → Ready o p d → from < plan_total p → b ≡ beginning_of p from
    → At o p d from budget d b.c0 b.c1 b.c2 b.c3 budget b.spots
unfolding moved_by beginning_of spot_at
start o p d from budget r h e =
    let w = spread_good p r.axes from in
    rw e
    (record {
      in1 = omega (arith, w.in1);
      in2 = omega (arith, w.in2);
      in3 = omega (arith, w.in3);
      rest1 = λ l. absurd (omega (arith, w.in1));
      rest2 = λ l. absurd (omega (arith, w.in2));
      fund = omega arith;
      number = w.back ∙ sym (rw (sub_self) (add-zero from));
      most = omega arith;
      bytes = sym (rw sub_self);
      slab = refl;
      layer = refl;
      row = refl;
      place = refl;
      home = λ _ l. ap (along _ p.d3.jump) (jumps_kept p.d3 (co3 p from) (omega arith));
    })

-- where a step begins is a coordinate of a row
pub start_row : (p : Plan) (from : ℕ) {b : Beginning} → GoodAxes p → b ≡ beginning_of p from → b.c3 < p.d3.extent
unfolding beginning_of
start_row p from g e = rw e (spread_good p g from).in3

module _ {o : Origin} {p : Plan} {d₀ : List ℕ} {from budget : ℕ} {d : List ℕ} {c0 c1 c2 c3 left : ℕ} {u : Spots} (a : At o p d₀ from budget d c0 c1 c2 c3 left u) where
  pub at_length : length d ≡ length d₀
  at_length = ap length a.bytes ∙ length_moved p (source_bytes o d₀) from (budget - left) d₀

  pub at_ready : Ready o p d₀ → Ready o p d
  at_ready r = still_ready o p d₀ d at_length r

  pub at_was_ready : Ready o p d → Ready o p d₀
  at_was_ready r = still_ready o p d d₀ (sym at_length) r

  -- a run from here on
  module _ (r : Ready o p d) (f : length d < 2 ^ 63) (w : InExtents p c0 c1 c2 c3) {outer : Bool} (q : outer ≡ (axis_kept p.d0 c0 && axis_kept p.d1 c1 && axis_kept p.d2 c2)) {run : Run} (l : Alike p.d3 outer c3 left run) where
    its_within : (k : ℕ) → k < run.n → InExtents p c0 c1 c2 (c3 + k)
    its_within k h = record { in0 = w.in0; in1 = w.in1; in2 = w.in2; in3 = omega (arith, l.row) }

    its_kept : (k : ℕ) → k < run.n → plan_kept p c0 c1 c2 (c3 + k) ≡ run.kept
    unfolding plan_kept
    its_kept k h = rw (← q) (l.same k h)

    -- its places: the first place and k strides, or k jumps
    its_place : (k : ℕ) → k < run.n → along u.here.to p.d3.stride k ≡ place_of p c0 c1 c2 (c3 + k)
    its_place k h =
        let m = place_most p c0 c1 c2 (c3 + k) (its_within k h) in
        ap (λ (y : ℕ). along y p.d3.stride k) a.place
        ∙ along_on u.row.to p.d3.stride c3 k
        ∙ row_place p c0 c1 c2 a.slab a.layer a.row (c3 + k)
        ∙ mod-eq_of_lt (omega (arith, r.need))

    its_home : run.kept ≡ true → (k : ℕ) → k < run.n → along u.here.at p.d3.jump k ≡ home_of p c0 c1 c2 (c3 + k)
    its_home t k h =
        let all : (j : ℕ) → j < run.n → plan_kept p c0 c1 c2 (c3 + j) ≡ true = λ j g. its_kept j g ∙ t in
        let z = (all_kept_of p c0 c1 c2 (c3 + 0) (all 0 l.some)).k3 in
        let e : c3 - p.d3.pre + k ≡ c3 + k - p.d3.pre = omega (arith, z.past) in
        ap (λ (y : ℕ). along y p.d3.jump k) (a.home (omega (arith, l.some, l.cut)) (omega (arith, z.past, z.most, r.axes.in3.some)))
        ∙ along_on u.row.at p.d3.jump (c3 - p.d3.pre) k
        ∙ ap (along u.row.at p.d3.jump) e
        ∙ row_home p c0 c1 c2 a.slab a.layer a.row (c3 + k) (all k h)

    -- what it asks
    pub run_writes : Writable d (course_of p u.here run)
    run_writes = record {
      sized = r.sized;
      held = λ k h. rw (its_place k h) (omega (arith, place_most p c0 c1 c2 (c3 + k) (its_within k h), r.need));
    }

    pub run_reads : run.kept ≡ true → Readable o d (course_of p u.here run)
    run_reads t = record {
      short = r.short;
      held = λ k h. rw (its_home t k h) (r.span c0 c1 c2 (c3 + k) (its_kept k h ∙ t));
      parted = λ i k h g.
          rw (its_home t i h, its_place k g)
          (apart_part o (r.apart c0 c1 c2 (c3 + i) (its_kept i h ∙ t)) (omega arith) (omega arith)
          (place_least p c0 c1 c2 (c3 + k)) (place_most p c0 c1 c2 (c3 + k) (its_within k g)));
    }

    -- and what it leaves: its bytes are the elements', and nothing else has changed
    its_bytes : (k : ℕ) → k < run.n → plan_bytes p (source_bytes o d₀) c0 c1 c2 (c3 + k) ≡ either_bytes run.kept (source_bytes o d) (course_of p u.here run) k
    unfolding plan_bytes
    its_bytes k h =
        let v = source_bytes o d in
        sym (source_same o p d₀ from (budget - left) c0 c1 c2 (c3 + k) (at_was_ready r) a.most)
        ∙ ap (λ (y : List ℕ). plan_bytes p (source_bytes o y) c0 c1 c2 (c3 + k)) (sym a.bytes)
        ∙ rw (its_kept k h) (pick_same run.kept (padding p.size p.pad) (λ t. rw (its_home t k h)))

    pub turn : {d' : List ℕ} {u' : Spots}
        → (u' ≡ after_run u p.d3 run.n) × (d' ≡ run_moved o p d u.here run)
        → At o p d₀ from budget d' c0 c1 c2 (c3 + run.n) (left - run.n) u'
    turn {d'} t =
        let m : budget - (left - run.n) ≡ budget - left + run.n = omega (arith, a.fund, l.cut) in
        let z = number_lt p (its_within (run.n - 1) (omega (arith, l.some))) in
        rw t.0
        (record {
          in1 = a.in1;
          in2 = a.in2;
          in3 = l.row;
          rest1 = λ h. absurd (omega (arith, w.in1));
          rest2 = λ h. absurd (omega (arith, w.in2));
          fund = omega (arith, a.fund);
          number = omega (arith, a.number, a.fund, l.cut);
          most = omega (arith, a.number, a.fund, l.cut, l.some);
          bytes =
              t.1
              ∙ sym (run_moved_lem p (source_bytes o d₀) d _ u.here.to c0 c1 c2 c3 run.n a.number its_within its_place its_bytes)
              ∙ ap (moved_by p (source_bytes o d₀) (from + (budget - left)) run.n) a.bytes
              ∙ sym (moved_add p (source_bytes o d₀) from (budget - left) run.n d₀)
              ∙ ap (λ (j : ℕ). moved_by p (source_bytes o d₀) from j d₀) (sym m);
          slab = a.slab;
          layer = a.layer;
          row = a.row;
          place = ap (λ (y : ℕ). along y p.d3.stride run.n) a.place ∙ along_on u.row.to p.d3.stride c3 run.n;
          home = λ h v.
              ⊎_elim
              (λ x. a.home (omega arith) (omega arith) ∙ ap (along u.row.at p.d3.jump) (omega arith))
              (λ y. absurd (omega arith))
              (l.full (omega arith));
        })

  -- here is an element
  pub at_below : InExtents p c0 c1 c2 c3 → from + (budget - left) < plan_total p
  at_below w = rw a.number at (number_lt p w)

  -- elements of a row, as many as it has or are left, that were moved by their numbers
  module _ (w : InExtents p c0 c1 c2 c3) {n : ℕ} (g : Cut p.d3.extent c3 left n) where
    row_fits : from + (budget - left) + n ≤ plan_total p
    row_fits =
        let last : InExtents p c0 c1 c2 (c3 + (n - 1)) = record { in0 = w.in0; in1 = w.in1; in2 = w.in2; in3 = omega (arith, g.some, g.row) } in
        let z = number_lt p last in
        omega (arith, a.number, g.some)

    rows_on : Ready o p d → {d' : List ℕ} → d' ≡ moved_from o p d (from + (budget - left)) n
        → At o p d₀ from budget d' c0 c1 c2 (c3 + n) (left - n) (after_run u p.d3 n)
    rows_on r {d'} t =
        let paid = g.paid in
        let m : budget - (left - n) ≡ budget - left + n = omega (arith, a.fund) in
        record {
          in1 = a.in1;
          in2 = a.in2;
          in3 = g.row;
          rest1 = λ h. absurd (omega (arith, w.in1));
          rest2 = λ h. absurd (omega (arith, w.in2));
          fund = omega (arith, a.fund);
          number = omega (arith, a.number);
          most = omega (arith, row_fits);
          bytes =
              t
              ∙ moved_same p (source_bytes o d) (source_bytes o d₀) (from + (budget - left)) n d
              (λ x0 x1 x2 x3. ap (λ (y : List ℕ). plan_bytes p (source_bytes o y) x0 x1 x2 x3) a.bytes ∙ source_same o p d₀ from (budget - left) x0 x1 x2 x3 (at_was_ready r) a.most)
              ∙ ap (moved_by p (source_bytes o d₀) (from + (budget - left)) n) a.bytes
              ∙ sym (moved_add p (source_bytes o d₀) from (budget - left) n d₀)
              ∙ ap (λ (j : ℕ). moved_by p (source_bytes o d₀) from j d₀) (sym m);
          slab = a.slab;
          layer = a.layer;
          row = a.row;
          place = ap (λ (y : ℕ). along y p.d3.stride n) a.place ∙ along_on u.row.to p.d3.stride c3 n;
          home = λ h v. absurd (omega (arith, g.full h, r.axes.in3.within));
        }

    pub row_turn : Ready o p d → {k : ℕ} {d' : List ℕ} → k ≡ min n (plan_total p - (from + (budget - left))) → d' ≡ moved_from o p d (from + (budget - left)) k
        → At o p d₀ from budget d' c0 c1 c2 (c3 + n) (left - n) (after_run u p.d3 n)
    row_turn r f t =
        rows_on r (t ∙ ap (λ (j : ℕ). moved_by p (source_bytes o d) (from + (budget - left)) j d) (f ∙ least_all (from + (budget - left)) n (plan_total p) row_fits))

  -- a row, a layer and a slab are done
  pub next_row_lem : {v : Spots} → c1 < p.d1.extent → c2 < p.d2.extent → p.d3.extent ≤ c3 → v ≡ next_row u p.d2 (c2 + 1)
      → At o p d₀ from budget d c0 c1 (c2 + 1) 0 left v
  next_row_lem h1 h l g =
      let e : c3 ≡ p.d3.extent = omega (arith, a.in3) in
      let n = onward_of u.row p.d2 (c2 + 1) in
      let k : n ≡ spot_at u.layer p.d2 (c2 + 1) = ap (λ (y : Spot). onward_of y p.d2 (c2 + 1)) a.row ∙ spot_on u.layer p.d2 c2 in
      let f = spot_fits u.layer p.d2 (c2 + 1) k in
      rw g
      (record {
        in1 = a.in1;
        in2 = omega arith;
        in3 = omega arith;
        rest1 = λ h. absurd (omega arith);
        rest2 = λ h. refl;
        number = carry ((c0 * p.d1.extent + c1) * p.d2.extent) c2 p.d3.extent ∙ (rw e at a.number);
        fund = a.fund;
        most = a.most;
        bytes = a.bytes;
        slab = a.slab;
        layer = a.layer;
        row = k;
        place = sym (along_none n.to p.d3.stride f.0);
        home = λ h l. sym (rw zero-sub (along_none n.at p.d3.jump f.1));
      })

  pub next_layer_lem : {v : Spots} → c1 < p.d1.extent → p.d2.extent ≤ c2 → v ≡ next_layer u p.d1 (c1 + 1)
      → At o p d₀ from budget d c0 (c1 + 1) 0 c3 left v
  next_layer_lem h l g =
      let e : c2 ≡ p.d2.extent = omega (arith, a.in2) in
      let z : c3 ≡ 0 = a.rest2 l in
      let n = onward_of u.layer p.d1 (c1 + 1) in
      let k : n ≡ spot_at u.slab p.d1 (c1 + 1) = ap (λ (y : Spot). onward_of y p.d1 (c1 + 1)) a.layer ∙ spot_on u.slab p.d1 c1 in
      let f = spot_fits u.slab p.d1 (c1 + 1) k in
      rw g
      (record {
        in1 = omega arith;
        in2 = omega arith;
        in3 = a.in3;
        rest1 = λ h. (refl, z);
        rest2 = λ h. z;
        number = rw (carry (c0 * p.d1.extent) c1 p.d2.extent) (rw e at a.number);
        fund = a.fund;
        most = a.most;
        bytes = a.bytes;
        slab = a.slab;
        layer = k;
        row = sym (spot_none n p.d2 f.0 f.1);
        place = sym (rw z (along_none n.to p.d3.stride f.0));
        home = λ h l. sym (rw (z, zero-sub) (along_none n.at p.d3.jump f.1));
      })

  pub next_slab_lem : {v : Spots} → p.d1.extent ≤ c1 → v ≡ next_slab u p.d0 (c0 + 1)
      → At o p d₀ from budget d (c0 + 1) 0 c2 c3 left v
  next_slab_lem l g =
      let e : c1 ≡ p.d1.extent = omega (arith, a.in1) in
      let y = (a.rest1 l).0 in
      let z = (a.rest1 l).1 in
      let n = onward_of u.slab p.d0 (c0 + 1) in
      let k : n ≡ spot_at (first_spot p) p.d0 (c0 + 1) = ap (λ (y : Spot). onward_of y p.d0 (c0 + 1)) a.slab ∙ spot_on (first_spot p) p.d0 c0 in
      let f = spot_fits (first_spot p) p.d0 (c0 + 1) k in
      rw g
      (record {
        in1 = omega arith;
        in2 = a.in2;
        in3 = a.in3;
        rest1 = λ h. (y, z);
        rest2 = λ h. z;
        number = rw (carry0 c0 p.d1.extent) (rw e at a.number);
        fund = a.fund;
        most = a.most;
        bytes = a.bytes;
        slab = k;
        layer = sym (spot_none n p.d1 f.0 f.1);
        row = sym (rw y (spot_none n p.d2 f.0 f.1));
        place = sym (rw z (along_none n.to p.d3.stride f.0));
        home = λ h l. sym (rw (z, zero-sub) (along_none n.at p.d3.jump f.1));
      })

  -- the budget is spent
  pub at_spent : left ≡ 0 → Over o p d₀ from budget d left
  at_spent e =
      record {
        fund = a.fund;
        long = at_length;
        bytes = a.bytes;
        count = omega (arith, min-eq_left {n = budget} {m = plan_total p - from} (omega (arith, a.most)));
      }

  -- nothing is left to move
  pub at_end : p.d0.extent ≤ c0 → Over o p d₀ from budget d left
  unfolding plan_total
  at_end h =
      let x1 = mul-le-mul_right p.d1.extent h in
      let x2 = mul-le-mul_right p.d2.extent (le_trans x1 (le-add_right (c0 * p.d1.extent) c1)) in
      let x3 = mul-le-mul_right p.d3.extent (le_trans x2 (le-add_right ((c0 * p.d1.extent + c1) * p.d2.extent) c2)) in
      let e : plan_total p - from ≡ budget - left = omega (arith, a.number, a.most) in
      record { fund = a.fund; long = at_length; bytes = a.bytes; count = sym (min-eq_right (omega arith) ∙ e) }
