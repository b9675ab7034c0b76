-- Dimensions that are one: two neighbours as one axis, the plan that has them so, and that it is the plan of the same move. Assumes
-- nothing.
use Rattle.std.proofs.Common.{◌≡◌, ℕ, zero, suc, ◌+◌, ◌-◌, ◌*◌, ◌%◌, ◌^◌, ◌<◌, ◌≤◌, min, Bool, true, false, ◌&&◌, ltb, leb, List, take, drop, sym, refl, ap, ◌∙◌, ⊎_elim, mul-le-mul_right, mul_assoc, suc-mul, mul_comm, add-mul, mul-le-mul_left, mul-pos, one-mul, zero-add, zero-mul, mul-one, arith, le-ltb, lt-ltb, eq-eqb, ne_eqb, le-leb}
use mathlib.Core.Bool.{and_assoc, and-true}
use native.Mathlib.Nat.{min-le_right}
use native.Mathlib.Decide.{dec_lt}
use borrow.Author.Tests.{lt-leb}
use lib.Arith.{digits_lt}
use Rattle.mover.specs.declared.plan.Axis.{Axis}
use Rattle.mover.specs.declared.plan.Plan.{Plan}
use Rattle.mover.specs.declared.elements.Origin.{Origin}
use Rattle.mover.specs.Private.Plans.{lone, goes_down, jump_length}
use Rattle.mover.specs.Private.Elements.{axis_kept, plan_kept, summed, place_of, home_of, padding, plan_bytes, plan_total, co0, co1, co2, co3, put_at, put_number, moved_by, source_bytes, moved_from}
use Rattle.mover.specs.Private.Ready.{reach_of, place_end, GoodAxis, GoodAxes, place_by, InExtents, Ready}
use Rattle.mover.specs.Private.Runs.{BytesApart}
use Rattle.mover.specs.Private.Folding.{Follows, Joins, as_one, kept_by, home_by, Foldable, Folds}
use Rattle.mover.proofs.Bytes.{pick_same}
use Rattle.mover.proofs.Keeping.{range_test}
use Rattle.mover.proofs.Places.{all_kept_of, kept_in, axis_some}
use Rattle.mover.proofs.ByNumber.{number_of, number_lt, coords, spread_good, within_good}
use Rattle.mover.proofs.Adding.{rounds, length_up, length_down}

-- ---- two axes as one

-- a coordinate of an inner dimension of one
alone : (a e b : ℕ) → e ≡ 1 → b < e → a * e + b ≡ a
alone a e b h l = rw (h, mul-one) (omega arith)

-- the last coordinate, times t
last_scaled : (n e t : ℕ) → 0 < n → 0 < e → (n * e - 1) * t ≡ (n - 1) * (e * t) + (e - 1) * t
last_scaled n e t h l =
    let m : n ≡ suc (n - 1) = omega arith in
    let w = ap (λ (k : ℕ). k * e) m ∙ suc-mul (n - 1) e in
    let q : n * e - 1 ≡ (n - 1) * e + (e - 1) = omega arith in
    rw (q, add-mul ((n - 1) * e) (e - 1) t, mul_assoc (n - 1) e t)

module _ (p a e b : ℕ) (l : b < e) where
  past_scaled : p ≤ a → a * e + b - p * e ≡ (a - p) * e + b
  past_scaled h =
      let q : a ≡ p + (a - p) = omega arith in
      let w = ap (λ (k : ℕ). k * e) q ∙ add-mul p (a - p) e in
      omega arith

  -- the test of e coordinates for each is the outer one's
  range_scaled : (n : ℕ) → (leb (p * e) (a * e + b) && ltb (a * e + b - p * e) (n * e)) ≡ (leb p a && ltb (a - p) n)
  range_scaled n = elim (dec_lt a p) [
    | yes h ↦
        let w = mul-le-mul_right e h in
        rw (lt-leb p a h, lt-leb (p * e) (a * e + b) (omega (arith, rw suc-mul at w)))
    | no h ↦
        let m : p ≤ a = omega arith in
        rw (le-leb p a m, le-leb (p * e) (a * e + b) (omega (arith, mul-le-mul_right e m)), past_scaled m)
        (elim (dec_lt (a - p) n) [
          | yes k ↦ rw (lt-ltb (a - p) n k, lt-ltb ((a - p) * e + b) (n * e) (digits_lt k l))
          | no k ↦
              let u : n ≤ a - p = omega arith in
              rw (le-ltb (a - p) n u, le-ltb ((a - p) * e + b) (n * e) (omega (arith, mul-le-mul_right e u)))
        ])
  ]

-- an outer jump that is e inner ones, in the same direction: k of them come to the same as k e inner ones
turned : (m k n e i j : ℕ) → i < 2 ^ 64 → j < 2 ^ 64 → goes_down i ≡ goes_down j → jump_length i ≡ e * jump_length j
    → (m + (k * i + n)) % 2 ^ 64 ≡ (m + (k * (e * j) + n)) % 2 ^ 64
turned m k n e i j fi fj w l = by (goes_down j) refl
  where
    by : (down : Bool) → goes_down j ≡ down → (m + (k * i + n)) % 2 ^ 64 ≡ (m + (k * (e * j) + n)) % 2 ^ 64
    by false g = let q : i ≡ e * j = sym (length_up i (w ∙ g)) ∙ l ∙ ap (λ (y : ℕ). e * y) (length_up j g) in rw q
    by true g =
        let q : 2 ^ 64 - i ≡ e * (2 ^ 64 - j) = sym (length_down i (w ∙ g)) ∙ l ∙ ap (λ (y : ℕ). e * y) (length_down j g) in
        let a = rounds k i (omega arith) in
        let b = rounds (k * e) j (omega arith) in
        let c : k * (2 ^ 64 - i) ≡ k * e * (2 ^ 64 - j) = ap (λ (y : ℕ). k * y) q ∙ sym (mul_assoc k e (2 ^ 64 - j)) in
        let d = mul_assoc k e j in
        omega arith

-- z is x and y as one: the coordinates a of x and b of y are its coordinate a x (extent of y) + b
record Both (x y z : Axis) : Type 0 where
  pub good : GoodAxis z
  pub extent : z.extent ≡ x.extent * y.extent
  pub kept : (a b : ℕ) → b < y.extent → axis_kept z (a * y.extent + b) ≡ (axis_kept x a && axis_kept y b)
  pub stride : (a b : ℕ) → b < y.extent → (a * y.extent + b) * z.stride ≡ a * x.stride + b * y.stride
  pub jump : (a b : ℕ) → b < y.extent → x.pre ≤ a → (m : ℕ)
      → (m + (a * y.extent + b - z.pre) * z.jump) % 2 ^ 64 ≡ (m + ((a - x.pre) * x.jump + (b - y.pre) * y.jump)) % 2 ^ 64
  pub reach : (z.count - 1) * jump_length z.jump ≡ (x.count - 1) * jump_length x.jump + (y.count - 1) * jump_length y.jump
  pub last : (z.extent - 1) * z.stride ≡ (x.extent - 1) * x.stride + (y.extent - 1) * y.stride

module _ {x y : Axis} (u : GoodAxis x) (v : GoodAxis y) where
  -- every coordinate of y is kept
  all_kept : y.count ≡ y.extent → (b : ℕ) → b < y.extent → axis_kept y b ≡ true
  unfolding axis_kept
  all_kept e b l = let w = v.within in range_test y.pre b y.count (omega arith, omega arith)

  both_alone : y.extent ≡ 1 → Both x y x
  both_alone h =
      let w = v.within in
      let s = v.some in
      record {
        good = u;
        extent = rw (h, mul-one);
        kept = λ a b l. rw (alone a y.extent b h l, all_kept (omega arith) b l, and-true);
        stride = λ a b l. let z : b ≡ 0 = omega arith in rw (alone a y.extent b h l, z) (omega arith);
        jump = λ a b l g m.
            let z : b - y.pre ≡ 0 = omega arith in
            rw (alone a y.extent b h l, z) (ap (λ (k : ℕ). k % 2 ^ 64) (omega arith));
        reach = let z : y.count - 1 ≡ 0 = omega arith in rw z (omega arith);
        last = let z : y.extent - 1 ≡ 0 = omega arith in rw z (omega arith);
      }

  abbrev grown : Axis
  grown = record { extent = x.extent * y.extent; pre = x.pre * y.extent; count = x.count * y.extent; jump = y.jump; stride = y.stride }

  both_follows : Follows x y → Both x y grown
  unfolding axis_kept
  both_follows f =
      let e = y.extent in
      let w = v.within in
      let some : 0 < e = axis_some v in
      let all = f.all in
      record {
        good = record {
          some = mul-pos u.some some;
          within = omega (arith, add-mul x.pre x.count e, mul-le-mul_right e u.within);
          fits = v.fits;
        };
        extent = refl;
        kept = λ a b l. range_scaled x.pre a e b l x.count ∙ sym (ap (λ t. axis_kept x a && t) (all_kept all b l) ∙ and-true _);
        stride = λ a b l. rw (f.stride, add-mul (a * e) b y.stride, mul_assoc a e y.stride);
        jump = λ a b l g m.
            let z : b - y.pre ≡ b = omega arith in
            rw (past_scaled x.pre a e b l g, z, add-mul ((a - x.pre) * e) b y.jump, mul_assoc (a - x.pre) e y.jump)
            (sym (turned m (a - x.pre) (b * y.jump) e x.jump y.jump u.fits v.fits f.way f.jump));
        reach = rw (f.jump, all) (last_scaled x.count e (jump_length y.jump) u.some some);
        last = rw f.stride (last_scaled x.extent e y.stride (axis_some u) some);
      }

  one_both : Joins x y → Both x y (as_one x y)
  unfolding as_one
  one_both j = elim (dec_lt 1 y.extent) [
    | yes l ↦
        rw (ne_eqb y.extent 1 (λ e. omega arith))
        (⊎_elim (λ e. absurd (omega arith)) both_follows j)
    | no l ↦
        let h : y.extent ≡ 1 = omega (arith, axis_some v) in
        rw (eq-eqb y.extent 1 h) (both_alone h)
  ]

-- ---- a plan with other axes

abbrev pub with_axes : Plan → Axis → Axis → Axis → Axis → Plan
with_axes p a b c d = record { size = p.size; pad = p.pad; home = p.home; base = p.base; d0 = a; d1 = b; d2 = c; d3 = d }

-- the element of r at the coordinates k is that of p at c
record Twin (p r : Plan) (c0 c1 c2 c3 k0 k1 k2 k3 : ℕ) : Type 0 where
  pub number : number_of r k0 k1 k2 k3 ≡ number_of p c0 c1 c2 c3
  pub within : InExtents r k0 k1 k2 k3
  pub place : place_of r k0 k1 k2 k3 ≡ place_of p c0 c1 c2 c3
  pub kept : plan_kept r k0 k1 k2 k3 ≡ plan_kept p c0 c1 c2 c3
  pub home : plan_kept p c0 c1 c2 c3 ≡ true → home_of r k0 k1 k2 k3 ≡ home_of p c0 c1 c2 c3

module _ {p r : Plan} (g : GoodAxes p) (q : ℕ) {k0 k1 k2 k3 : ℕ} (t : Twin p r (co0 p q) (co1 p q) (co2 p q) (co3 p q) k0 k1 k2 k3) where
  twin_place : place_by r q ≡ place_by p q
  unfolding place_by
  twin_place =
      let c = coords r (t.number ∙ (spread_good p g q).back) t.within in
      rw (c.at0, c.at1, c.at2, c.at3) t.place

  twin_kept : kept_by r q ≡ kept_by p q
  unfolding kept_by
  twin_kept =
      let c = coords r (t.number ∙ (spread_good p g q).back) t.within in
      rw (c.at0, c.at1, c.at2, c.at3) t.kept

  twin_home : kept_by p q ≡ true → home_by r q ≡ home_by p q
  unfolding kept_by home_by
  twin_home k =
      let c = coords r (t.number ∙ (spread_good p g q).back) t.within in
      rw (c.at0, c.at1, c.at2, c.at3) (t.home k)

-- an outer number, and two coordinates as one
nest : (a e f b c : ℕ) → a * (e * f) + (b * f + c) ≡ (a * e + b) * f + c
nest a e f b c = rw (add-mul (a * e) b f, mul_assoc a e f) (omega arith)

lone_good : GoodAxis lone
lone_good = record { some = omega arith; within = omega arith; fits = omega arith }

module _ (p : Plan) (a b c d z : Axis) (g : GoodAxes (with_axes p a b c d)) where
  abbrev old : Plan
  old = with_axes p a b c d

  -- the first two
  module _ (w : Both a b z) where
    first_twin : {c0 c1 c2 c3 : ℕ} → InExtents old c0 c1 c2 c3 → Twin old (with_axes p lone z c d) c0 c1 c2 c3 0 (c0 * b.extent + c1) c2 c3
    unfolding place_of home_of summed plan_kept axis_kept
    first_twin {c0} {c1} {c2} {c3} i = record {
      number = rw (zero-mul, zero-add);
      within = record { in0 = omega arith; in1 = rw w.extent (digits_lt i.in0 i.in1); in2 = i.in2; in3 = i.in3 };
      place = omega (arith, w.stride c0 c1 i.in1);
      kept = rw (w.kept c0 c1 i.in1);
      home = λ h. omega (arith, w.jump c0 c1 i.in1 (all_kept_of old c0 c1 c2 c3 h).k0.past (p.home + ((c2 - c.pre) * c.jump + (c3 - d.pre) * d.jump)));
    }

    first_folds : Folds old (with_axes p lone z c d)
    unfolding plan_total reach_of place_end summed
    first_folds = record {
      axes = record { in0 = lone_good; in1 = w.good; in2 = g.in2; in3 = g.in3 };
      total = rw (w.extent, one-mul);
      size = refl;
      pad = refl;
      base = refl;
      place = λ q l. twin_place g q (first_twin (within_good old g q l));
      kept = λ q l. twin_kept g q (first_twin (within_good old g q l));
      home = λ q l. twin_home g q (first_twin (within_good old g q l));
      reach = omega (arith, w.reach);
      place_end_lem = omega (arith, w.last);
    }

  -- the middle two
  module _ (w : Both b c z) where
    middle_twin : {c0 c1 c2 c3 : ℕ} → InExtents old c0 c1 c2 c3 → Twin old (with_axes p lone a z d) c0 c1 c2 c3 0 c0 (c1 * c.extent + c2) c3
    unfolding place_of home_of summed plan_kept axis_kept
    middle_twin {c0} {c1} {c2} {c3} i = record {
      number = rw (zero-mul, zero-add, w.extent, nest c0 b.extent c.extent c1 c2);
      within = record { in0 = omega arith; in1 = i.in0; in2 = rw w.extent (digits_lt i.in1 i.in2); in3 = i.in3 };
      place = omega (arith, w.stride c1 c2 i.in2);
      kept = rw (w.kept c1 c2 i.in2, and_assoc (axis_kept a c0) (axis_kept b c1) (axis_kept c c2));
      home = λ h. omega (arith, w.jump c1 c2 i.in2 (all_kept_of old c0 c1 c2 c3 h).k1.past (p.home + ((c0 - a.pre) * a.jump + (c3 - d.pre) * d.jump)));
    }

    middle_folds : Folds old (with_axes p lone a z d)
    unfolding plan_total reach_of place_end summed
    middle_folds = record {
      axes = record { in0 = lone_good; in1 = g.in0; in2 = w.good; in3 = g.in3 };
      total = rw (w.extent, one-mul, mul_assoc a.extent b.extent c.extent);
      size = refl;
      pad = refl;
      base = refl;
      place = λ q l. twin_place g q (middle_twin (within_good old g q l));
      kept = λ q l. twin_kept g q (middle_twin (within_good old g q l));
      home = λ q l. twin_home g q (middle_twin (within_good old g q l));
      reach = omega (arith, w.reach);
      place_end_lem = omega (arith, w.last);
    }

  -- the last two
  module _ (w : Both c d z) where
    last_twin : {c0 c1 c2 c3 : ℕ} → InExtents old c0 c1 c2 c3 → Twin old (with_axes p lone a b z) c0 c1 c2 c3 0 c0 c1 (c2 * d.extent + c3)
    unfolding place_of home_of summed plan_kept axis_kept
    last_twin {c0} {c1} {c2} {c3} i = record {
      number = rw (zero-mul, zero-add, w.extent, nest (c0 * b.extent + c1) c.extent d.extent c2 c3);
      within = record { in0 = omega arith; in1 = i.in0; in2 = i.in1; in3 = rw w.extent (digits_lt i.in2 i.in3) };
      place = omega (arith, w.stride c2 c3 i.in3);
      kept = rw (w.kept c2 c3 i.in3, and_assoc (axis_kept a c0 && axis_kept b c1) (axis_kept c c2) (axis_kept d c3));
      home = λ h. omega (arith, w.jump c2 c3 i.in3 (all_kept_of old c0 c1 c2 c3 h).k2.past (p.home + ((c0 - a.pre) * a.jump + (c1 - b.pre) * b.jump)));
    }

    last_folds : Folds old (with_axes p lone a b z)
    unfolding plan_total reach_of place_end summed
    last_folds = record {
      axes = record { in0 = lone_good; in1 = g.in0; in2 = g.in1; in3 = w.good };
      total = rw (w.extent, one-mul, mul_assoc (a.extent * b.extent) c.extent d.extent);
      size = refl;
      pad = refl;
      base = refl;
      place = λ q l. twin_place g q (last_twin (within_good old g q l));
      kept = λ q l. twin_kept g q (last_twin (within_good old g q l));
      home = λ q l. twin_home g q (last_twin (within_good old g q l));
      reach = omega (arith, w.reach);
      place_end_lem = omega (arith, w.last);
    }

-- ---- one after the other

pub folds_same : {p : Plan} → GoodAxes p → Folds p p
folds_same g = record {
  axes = g;
  total = refl;
  size = refl;
  pad = refl;
  base = refl;
  place = λ q l. refl;
  kept = λ q l. refl;
  home = λ q l k. refl;
  reach = refl;
  place_end_lem = refl;
}

folds_then : {p r t : Plan} → Folds p r → Folds r t → Folds p t
folds_then f h = let e = f.total in record {
  axes = h.axes;
  total = h.total ∙ f.total;
  size = h.size ∙ f.size;
  pad = h.pad ∙ f.pad;
  base = h.base ∙ f.base;
  place = λ q l. h.place q (omega arith) ∙ f.place q l;
  kept = λ q l. h.kept q (omega arith) ∙ f.kept q l;
  home = λ q l k. h.home q (omega arith) (f.kept q l ∙ k) ∙ f.home q l k;
  reach = h.reach ∙ f.reach;
  place_end_lem = h.place_end_lem ∙ f.place_end_lem;
}

-- from p on, with the axes a, b, c and d so far
module _ {p : Plan} {a b c d : Axis} (f : Folds p (with_axes p a b c d)) where
  pub fold_first : {x y : Axis} → Joins a b → x ≡ lone → y ≡ as_one a b → Folds p (with_axes p x y c d)
  fold_first j ex ey =
      let g = f.axes in
      rw (ex, ey) (folds_then f (first_folds p a b c d (as_one a b) g (one_both g.in0 g.in1 j)))

  pub fold_middle : {x y z : Axis} → Joins b c → x ≡ lone → y ≡ a → z ≡ as_one b c → Folds p (with_axes p x y z d)
  fold_middle j ex ey ez =
      let g = f.axes in
      rw (ex, ey, ez) (folds_then f (middle_folds p a b c d (as_one b c) g (one_both g.in1 g.in2 j)))

  pub fold_last : {x y z w : Axis} → Joins c d → x ≡ lone → y ≡ a → z ≡ b → w ≡ as_one c d → Folds p (with_axes p x y z w)
  fold_last j ex ey ez ew =
      let g = f.axes in
      rw (ex, ey, ez, ew) (folds_then f (last_folds p a b c d (as_one c d) g (one_both g.in2 g.in3 j)))

  pub fold_not : {x y z w : Axis} → x ≡ a → y ≡ b → z ≡ c → w ≡ d → Folds p (with_axes p x y z w)
  fold_not ex ey ez ew = rw (ex, ey, ez, ew) f

-- ---- numbers fit

pub record PairFits (x y : Axis) : Type 0 where
  pub extent : x.extent * y.extent < 2 ^ 64
  pub rest : (x.pre * y.extent < 2 ^ 64) × (x.count * y.extent < 2 ^ 64)

pair_fits : {x : Axis} (y : Axis) → GoodAxis x → x.extent * y.extent < 2 ^ 64 → PairFits x y
pair_fits {x} y g h =
    let w = g.within in
    let u : x.pre ≤ x.extent = omega arith in
    let v : x.count ≤ x.extent = omega arith in
    record { extent = h; rest = (omega (arith, mul-le-mul_right y.extent u), omega (arith, mul-le-mul_right y.extent v)) }

times_more : (m n : ℕ) → 0 < n → m ≤ m * n
times_more m n h = omega (arith, mul-one m, mul-le-mul_left m h)

module _ {p : Plan} {a b c d : Axis} (k : Foldable p) (f : Folds p (with_axes p a b c d)) where
  few_so : a.extent * b.extent * c.extent * d.extent < 2 ^ 64
  unfolding plan_total
  few_so = omega (arith, f.total, k.few)

  pub fits_first : PairFits a b
  fits_first =
      let g = f.axes in
      pair_fits b g.in0
      (omega (
        arith,
        few_so,
        times_more (a.extent * b.extent) c.extent (axis_some g.in2),
        times_more (a.extent * b.extent * c.extent) d.extent (axis_some g.in3),
      ))

  pub fits_middle : PairFits b c
  fits_middle =
      let g = f.axes in
      pair_fits c g.in1
      (omega (
        arith,
        few_so,
        mul_assoc a.extent b.extent c.extent,
        mul_comm a.extent (b.extent * c.extent),
        times_more (b.extent * c.extent) a.extent (axis_some g.in0),
        times_more (a.extent * b.extent * c.extent) d.extent (axis_some g.in3),
      ))

  pub fits_last : PairFits c d
  fits_last =
      let g = f.axes in
      pair_fits d g.in2
      (omega (
        arith,
        few_so,
        mul_assoc (a.extent * b.extent) c.extent d.extent,
        mul_comm (a.extent * b.extent) (c.extent * d.extent),
        times_more (c.extent * d.extent) (a.extent * b.extent) (mul-pos (axis_some g.in0) (axis_some g.in1)),
      ))

-- ---- for who folds

-- a plan that is ready can be folded
pub ready_foldable : {o : Origin} {p : Plan} {d : List ℕ} → Ready o p d → Foldable p
ready_foldable r = record { axes = r.axes; few = r.few }

-- what is kept of the folded plan is kept of the plan, and its source element is the same
folded_home : {o : Origin} {p r : Plan} {d : List ℕ} → Folds p r → Ready o p d → (c0 c1 c2 c3 : ℕ) → plan_kept r c0 c1 c2 c3 ≡ true
    → let q = number_of r c0 c1 c2 c3 in (plan_kept p (co0 p q) (co1 p q) (co2 p q) (co3 p q) ≡ true) × (home_of r c0 c1 c2 c3 ≡ home_of p (co0 p q) (co1 p q) (co2 p q) (co3 p q))
unfolding kept_by home_by
folded_home {o} {p} {r} f w c0 c1 c2 c3 k =
    let i = kept_in r c0 c1 c2 c3 f.axes k in
    let q = number_of r c0 c1 c2 c3 in
    let l : q < plan_total p = omega (arith, number_lt r i, f.total) in
    let e = coords r {q = q} refl i in
    let g : kept_by r q ≡ true = rw (e.at0, e.at1, e.at2, e.at3) k in
    let h : kept_by p q ≡ true = sym (f.kept q l) ∙ g in
    (h, sym (rw (e.at0, e.at1, e.at2, e.at3) at (sym (f.home q l h))))

apart_same : (o : Origin) {a a' z z' b b' e e' : ℕ} → a ≡ a' → z ≡ z' → b ≡ b' → e ≡ e' → BytesApart o a' (a' + z') b' e' → BytesApart o a (a + z) b e
apart_same o p q r s h = rw (p, q, r, s) h

-- and so folded it is ready too
pub folds_ready : {o : Origin} {p r : Plan} {d : List ℕ} → Folds p r → Ready o p d → Ready o r d
folds_ready {o} {p} {r} f w =
    let e = f.total in
    let z = f.size in
    record {
      short = w.short;
      sized = rw z w.sized;
      axes = f.axes;
      few = rw e w.few;
      rising = λ a b l m.
          let k : b < plan_total p = omega arith in
          rw (f.place a (omega arith), f.place b k, z) (w.rising a b l k);
      reach = rw f.reach w.reach;
      need = rw f.place_end_lem w.need;
      span = λ c0 c1 c2 c3 k. let n = folded_home f w c0 c1 c2 c3 k in rw (n.1, z) (w.span _ _ _ _ n.0);
      apart = λ c0 c1 c2 c3 k. let n = folded_home f w c0 c1 c2 c3 k in apart_same o n.1 z f.base f.place_end_lem (w.apart _ _ _ _ n.0);
    }

pub folds_from : {p r : Plan} → Folds p r → {from : ℕ} → from < plan_total p → from < plan_total r
folds_from f l = rw f.total l

-- an element has the same bytes
folds_bytes : {p r : Plan} → Folds p r → (s : List ℕ) (q : ℕ) → q < plan_total p
    → plan_bytes r s (co0 r q) (co1 r q) (co2 r q) (co3 r q) ≡ plan_bytes p s (co0 p q) (co1 p q) (co2 p q) (co3 p q)
unfolding plan_bytes kept_by home_by home_of
folds_bytes {p} {r} f s q l =
    rw (f.kept q l, f.size, f.pad)
    (pick_same (plan_kept p (co0 p q) (co1 p q) (co2 p q) (co3 p q)) (padding p.size p.pad)
    (λ h. ap (λ (n : ℕ). take p.size (drop n s)) (f.home q l h)))

-- the same elements are written
pub folds_moved : {p r : Plan} → Folds p r → (s : List ℕ) (from n : ℕ) (d : List ℕ) → from + n ≤ plan_total p → moved_by r s from n d ≡ moved_by p s from n d
unfolding moved_by put_number put_at place_by
folds_moved f s from zero d h = refl
folds_moved {p} f s from (suc n) d h =
    let l : from + n < plan_total p = omega arith in
    rw (folds_moved f s from n d (omega arith), f.place (from + n) l, folds_bytes f s (from + n) l)

-- what a stretch of the folded plan leaves is what the same stretch of the plan does
pub folds_written : (o : Origin) {p r : Plan} (f : Folds p r) (d : List ℕ) (from budget : ℕ) {n : ℕ} {e : List ℕ} → from < plan_total p
    → n ≡ min budget (plan_total r - from) → e ≡ moved_from o r d from n
    → (n ≡ min budget (plan_total p - from)) × (e ≡ moved_from o p d from n)
folds_written o {p} {r} f d from budget {n} l h w =
    let k : n ≡ min budget (plan_total p - from) = h ∙ ap (λ (m : ℕ). min budget (m - from)) f.total in
    (k, w ∙ folds_moved f (source_bytes o d) from n d (omega (arith, min-le_right budget (plan_total p - from))))
