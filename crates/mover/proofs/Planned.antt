-- The plan of an accepted move has four coordinates: the paper's, with zeros in front for the dimensions that the rank lacks. So the
-- engine's fold over the plan is the paper's. Assumes nothing.
use Rattle.std.proofs.Common.{◌≡◌, ℕ, zero, suc, ◌+◌, ◌-◌, ◌*◌, ◌/◌, ◌%◌, ◌^◌, ◌<◌, ◌≤◌, Bool, true, false, cond, ltb, List, length, take, drop, sym, refl, ap, ◌∙◌, le_of_suc-le-suc, not-suc-le-zero, mod-eq_of_lt, mul_assoc, mul_comm, add-mul, mul-le-mul, mul-pos, one-mul, div-one, arith, le-ltb, lt-ltb}
use native.Mathlib.Nat.{mod-one, div-div-eq-div-mul}
use native.Mathlib.Decide.{dec_lt}
use Rattle.plane.specs.declared.Tensor.{Tensor}
use Rattle.plane.specs.declared.Config.{Config}
use Rattle.plane.specs.Arrays.{at, sum, product, every}
use Rattle.plane.specs.Numbers.{little}
use Rattle.plane.specs.Planes.{shape_at, stride_at, down_at, up, src_strides, span}
use Rattle.plane.specs.Moves.{count, dst_strides, need}
use Rattle.plane.specs.Good.{GoodSource, GoodConfig, GoodDst}
use Rattle.plane.proofs.Rules.{count_positive, dst_extent}
use Rattle.plane.proofs.Numbers.{take_little}
use Rattle.plane.proofs.Arrays.{sum_same, every_each}
use Rattle.plane.proofs.Falling.{strides_within}
use Rattle.plane.proofs.Bounds.{element_small, product_most, span_fits}
use Rattle.mover.specs.declared.elements.Origin.TheVariants.{Lent}
use Rattle.mover.specs.declared.plan.Axis.{Axis}
use Rattle.mover.specs.declared.plan.Plan.{Plan}
use Rattle.mover.specs.Element.{dim_of, k_of, is_kept, are_kept, source_place, place, padded, element}
use Rattle.mover.specs.Moved.{extent_at, total, per_step, coord_of, stored, moved}
use Rattle.mover.specs.Private.Plans.{jump_by, jump_length, axis_of, lone, plan_of}
use Rattle.mover.specs.Private.Elements.{axis_kept, plan_kept, summed, place_of, home_of, padding, plan_bytes, put_at, plan_total, co0, co1, co2, co3, put_number, moved_by}
use Rattle.mover.specs.Private.Ready.{reach_of, place_end, GoodAxis, GoodAxes, place_by, Rising, Ready}
use Rattle.mover.proofs.Numbers.{digit}
use Rattle.mover.proofs.Sums.{sum_bytes, sum_turned, sum_scaled}
use Rattle.mover.proofs.Fitting.{kept_within, home_fits, reach_fits, place_fits}
use Rattle.mover.proofs.Making.{extent_is}
use Rattle.mover.proofs.ByNumber.{spread_within, number_of, number_lt, coords}
use Rattle.mover.proofs.Bytes.{pick_same}
use Rattle.mover.proofs.Keeping.{test_range}
use Rattle.mover.proofs.Places.{kept_in}
use Rattle.mover.proofs.Adding.{rounds, jump_length_lem, jump_fits_64}
use Rattle.mover.proofs.Spacing.{bytes_rise}

-- ---- a plan of n axes, widened to four

-- entry j of four: those that the rank n lacks stand first
abbrev pub wide : {A : Type 0} → ℕ → A → (ℕ → A) → ℕ → A
wide n z f j = cond (ltb j (4 - n)) z (f (j - (4 - n)))

-- what holds of the lacking and of the others holds of each
wide_each : {A : Type 0} (P : A → Type 0) (n : ℕ) (z : A) (f : ℕ → A) (j : ℕ) → n ≤ 4 → j < 4 → P z → ((i : ℕ) → i < n → P (f i)) → P (wide n z f j)
wide_each P n z f j m l p h = elim (dec_lt j (4 - n)) [
  | yes q ↦ rw (lt-ltb j (4 - n) q) p
  | no q ↦ rw (le-ltb j (4 - n) (omega arith)) (h (j - (4 - n)) (omega arith))
]

abbrev widened : ℕ → List ℕ → ℕ → ℕ → (ℕ → Axis) → ℕ → Plan
widened z pad h b x n = record {
  size = z;
  pad = pad;
  home = h;
  base = b;
  d0 = wide n lone x 0;
  d1 = wide n lone x 1;
  d2 = wide n lone x 2;
  d3 = wide n lone x 3;
}

-- what it comes to over n dimensions
record Widened (z : ℕ) (pad : List ℕ) (h b : ℕ) (x : ℕ → Axis) (n : ℕ) : Type 0 where
  pub all : plan_total (widened z pad h b x n) ≡ product n (λ i. (x i).extent)
  pub place : (c : ℕ → ℕ) → place_of (widened z pad h b x n) (wide n 0 c 0) (wide n 0 c 1) (wide n 0 c 2) (wide n 0 c 3) ≡ b + sum n (λ i. c i * (x i).stride)
  pub home : (c : ℕ → ℕ) → home_of (widened z pad h b x n) (wide n 0 c 0) (wide n 0 c 1) (wide n 0 c 2) (wide n 0 c 3) ≡ (h + sum n (λ i. (c i - (x i).pre) * (x i).jump)) % 2 ^ 64
  pub kept : (c : ℕ → ℕ) → plan_kept (widened z pad h b x n) (wide n 0 c 0) (wide n 0 c 1) (wide n 0 c 2) (wide n 0 c 3) ≡ every n (λ i. axis_kept (x i) (c i))
  pub reach : reach_of (widened z pad h b x n) ≡ sum n (λ i. ((x i).count - 1) * jump_length (x i).jump)
  pub place_end_lem : place_end (widened z pad h b x n) ≡ b + sum n (λ i. ((x i).extent - 1) * (x i).stride) + z

by_rank : (P : ℕ → Type 0) → P 1 → P 2 → P 3 → P 4 → (n : ℕ) → 1 ≤ n → n ≤ 4 → P n
by_rank P p1 p2 p3 p4 zero l m = absurd (not-suc-le-zero l)
by_rank P p1 p2 p3 p4 (suc zero) l m = p1
by_rank P p1 p2 p3 p4 (suc (suc zero)) l m = p2
by_rank P p1 p2 p3 p4 (suc (suc (suc zero))) l m = p3
by_rank P p1 p2 p3 p4 (suc (suc (suc (suc zero)))) l m = p4
by_rank P p1 p2 p3 p4 (suc (suc (suc (suc (suc n))))) l m = absurd (not-suc-le-zero (le_of_suc-le-suc (le_of_suc-le-suc (le_of_suc-le-suc (le_of_suc-le-suc m)))))

by_three : (q a b c : ℕ) → q / c / b / a ≡ q / (1 * a * b * c)
by_three q a b c =
    rw (one-mul, div-div-eq-div-mul (q / c) b a, div-div-eq-div-mul q c (b * a))
    (ap (λ (y : ℕ). q / y) (mul_comm c (b * a) ∙ ap (λ (y : ℕ). y * c) (mul_comm b a)))

module _ (z : ℕ) (pad : List ℕ) (h b : ℕ) (x : ℕ → Axis) where
  widens : (n : ℕ) → 1 ≤ n → n ≤ 4 → Widened z pad h b x n
  unfolding plan_total product place_of home_of summed sum plan_kept axis_kept every reach_of place_end
  widens =
      by_rank (λ n. Widened z pad h b x n)
      (record {
        all = simp one-mul;
        place = λ c. omega arith;
        home = λ c. omega arith;
        kept = λ c. refl;
        reach = omega arith;
        place_end_lem = omega arith;
      })
      (record {
        all = simp one-mul;
        place = λ c. omega arith;
        home = λ c. omega arith;
        kept = λ c. refl;
        reach = omega arith;
        place_end_lem = omega arith;
      })
      (record {
        all = simp one-mul;
        place = λ c. omega arith;
        home = λ c. omega arith;
        kept = λ c. refl;
        reach = omega arith;
        place_end_lem = omega arith;
      })
      (record {
        all = simp one-mul;
        place = λ c. omega arith;
        home = λ c. omega arith;
        kept = λ c. refl;
        reach = omega arith;
        place_end_lem = omega arith;
      })

  -- the plan's coordinates of a number are the paper's
  record Digits (q n : ℕ) : Type 0 where
    pub at0 : co0 (widened z pad h b x n) q ≡ wide n 0 (digit n (λ i. (x i).extent) q) 0
    pub at1 : co1 (widened z pad h b x n) q ≡ wide n 0 (digit n (λ i. (x i).extent) q) 1
    pub at2 : co2 (widened z pad h b x n) q ≡ wide n 0 (digit n (λ i. (x i).extent) q) 2
    pub at3 : co3 (widened z pad h b x n) q ≡ wide n 0 (digit n (λ i. (x i).extent) q) 3

  digits : (q n : ℕ) → 1 ≤ n → n ≤ 4 → ((i : ℕ) → i < n → 0 < (x i).extent) → q < product n (λ i. (x i).extent) → Digits q n
  unfolding plan_total product
  digits q =
      by_rank (λ n. ((i : ℕ) → i < n → 0 < (x i).extent) → q < product n (λ i. (x i).extent) → Digits q n)
      (λ p l.
      let w = spread_within (widened z pad h b x 1) (omega arith) (omega arith) (p 0 (omega arith)) q (rw (widens 1 (omega arith) (omega arith)).all l) in
      record { at0 = omega (arith, w.in0); at1 = simp (div-one, mod-one); at2 = simp (mod-one); at3 = simp (div-one) })
      (λ p l.
      let w = spread_within (widened z pad h b x 2) (omega arith) (p 0 (omega arith)) (p 1 (omega arith)) q (rw (widens 2 (omega arith) (omega arith)).all l) in
      record { at0 = omega (arith, w.in0); at1 = simp (mod-one); at2 = simp (one-mul); at3 = simp (div-one) })
      (λ p l.
      let w = spread_within (widened z pad h b x 3) (p 0 (omega arith)) (p 1 (omega arith)) (p 2 (omega arith)) q (rw (widens 3 (omega arith) (omega arith)).all l) in
      record { at0 = omega (arith, w.in0); at1 = simp (one-mul, div-div-eq-div-mul, mul_comm (x 2).extent); at2 = simp (one-mul); at3 = simp (div-one) })
      (λ p l.
      let w = spread_within (widened z pad h b x 4) (p 1 (omega arith)) (p 2 (omega arith)) (p 3 (omega arith)) q (rw (widens 4 (omega arith) (omega arith)).all l) in
      record { at0 = sym (mod-eq_of_lt w.in0) ∙ ap (λ (y : ℕ). y % (x 0).extent) (by_three q (x 1).extent (x 2).extent (x 3).extent); at1 = simp (one-mul, div-div-eq-div-mul, mul_comm (x 3).extent); at2 = simp (one-mul); at3 = simp (div-one) })

-- ---- the plan of a move

-- where an element at s elements ends, in bytes
ended : {m : ℕ} (s z : ℕ) → m ≡ s * z → m + z ≡ (1 + s) * z
ended s z e = rw (e, add-mul, one-mul) (omega arith)

-- coordinate j of four
abbrev pub front : Tensor → (ℕ → ℕ) → ℕ → ℕ
front t x j = wide t.rank 0 x j

-- the plan's coordinates of element number q are the paper's
pub record Planned (t : Tensor) (c : Config) (q : ℕ) : Type 0 where
  pub at0 : co0 (plan_of t c) q ≡ front t (coord_of t c q) 0
  pub at1 : co1 (plan_of t c) q ≡ front t (coord_of t c q) 1
  pub at2 : co2 (plan_of t c) q ≡ front t (coord_of t c q) 2
  pub at3 : co3 (plan_of t c) q ≡ front t (coord_of t c q) 3

-- the offset and k coordinates further, in bytes; and k steps further, up
further : (o k s z : ℕ) → o * s * z + k * (s * z) ≡ (o + k) * s * z
further o k s z = rw (add-mul o k s, add-mul (o * s) (k * s) z, mul_assoc k s z)

step_joined : (o k m s z : ℕ) → o * s * z + k * (m * s * z) ≡ (o + k * m) * s * z
step_joined o k m s z = rw (add-mul o (k * m) s, add-mul (o * s) (k * m * s) z, mul_assoc k m s, mul_assoc k (m * s) z)

-- or either way, by a jump over m s z bytes, where the coordinate is one of the shape
module _ (shape o k m s z : ℕ) (some : 0 < m * s * z) (few : m * s * z < 2 ^ 63) (h : o + k * m ≤ shape - 1) where
  stepped : (down : Bool) (a : ℕ) → (a + (up down shape o * s * z + k * jump_by down (m * s * z))) % 2 ^ 64 ≡ (a + up down shape (o + k * m) * s * z) % 2 ^ 64
  stepped false a = rw (step_joined o k m s z)
  stepped true a =
      let n = m * s * z in
      let j : (2 ^ 64 - n) % 2 ^ 64 ≡ 2 ^ 64 - n = mod-eq_of_lt (omega arith) in
      let e : shape - 1 - o ≡ shape - 1 - (o + k * m) + k * m = omega arith in
      let r = rounds k n (omega arith) in
      let w = step_joined (shape - 1 - (o + k * m)) k m s z in
      rw (j, e) (omega arith)

module _ {t : Tensor} (c : Config) (g : GoodSource t) where
  its : (z : ℕ) (pad : List ℕ) (h b : ℕ) → Widened z pad h b (axis_of t c) t.rank
  its z pad h b = widens z pad h b (axis_of t c) t.rank g.rank.0 g.rank.1

  pub planned_size : (plan_of t c).size ≡ t.element_size
  unfolding plan_of
  planned_size = refl

  planned_pad : padding t.element_size (plan_of t c).pad ≡ padded t c
  unfolding plan_of padded little
  planned_pad = take_little t.element_size 4 c.fill (element_small t.element_size g.element).1

  pub planned_total : plan_total (plan_of t c) ≡ total t c
  unfolding plan_of total
  planned_total = (its _ _ _ _).all

  module _ (x : ℕ → ℕ) where
    pub planned_place : place_of (plan_of t c) (front t x 0) (front t x 1) (front t x 2) (front t x 3) ≡ place t c x * t.element_size
    unfolding plan_of place
    planned_place = (its _ _ _ _).place x ∙ sum_bytes t.rank _ _ _ t.element_size (λ i _. further (at c.dst_offset i) (x i) (at (dst_strides t c) i) t.element_size)

    pub planned_kept : plan_kept (plan_of t c) (front t x 0) (front t x 1) (front t x 2) (front t x 3) ≡ are_kept t c x
    unfolding plan_of are_kept is_kept axis_kept
    planned_kept = (its _ _ _ _).kept x

  module _ (k : GoodConfig t c) where
    -- the bytes that the source's jumps go over
    abbrev over : ℕ → ℕ
    over i = at c.step (dim_of c i) * at (src_strides t) (dim_of c i) * t.element_size

    over_some : (i : ℕ) → i < t.rank → 0 < over i
    over_some i h =
        let w = strides_within t.rank (shape_at t) (stride_at t) g.rank.1 (λ d l. (g.shape d l).0) g.strides (dim_of c i) (k.perm i h) in
        mul-pos (mul-pos (k.step (dim_of c i) (k.perm i h)).0 w.0) (element_small t.element_size g.element).0

    over_few : (i : ℕ) → i < t.rank → over i < 2 ^ 63
    over_few i h =
        let w = strides_within t.rank (shape_at t) (stride_at t) g.rank.1 (λ d l. (g.shape d l).0) g.strides (dim_of c i) (k.perm i h) in
        let m = mul-le-mul (mul-le-mul (k.step (dim_of c i) (k.perm i h)).1 w.1) (element_small t.element_size g.element).1 in
        omega arith

    -- where the source element of a kept one stands
    module _ (x : ℕ → ℕ) (h : are_kept t c x ≡ true) where
      kept_most : (i : ℕ) → i < t.rank → k_of c i (x i) ≤ count t c (dim_of c i) - 1
      unfolding are_kept is_kept
      kept_most i l = let r = test_range (at c.pre (dim_of c i)) (x i) (count t c (dim_of c i)) (every_each (λ i. is_kept t c i (x i)) t.rank h i l) in omega (arith, r.1)

      planned_fits : source_place t c x * t.element_size + t.element_size ≤ span t
      unfolding source_place
      planned_fits = let w = home_fits k (λ i. k_of c i (x i)) kept_most in omega (arith, rw (add-mul, one-mul) at w)

      planned_home : home_of (plan_of t c) (front t x 0) (front t x 1) (front t x 2) (front t x 3) ≡ source_place t c x * t.element_size
      unfolding plan_of source_place
      planned_home =
          (its _ _ _ _).home x
          ∙ sum_turned t.rank _ _ _ t.element_size
          (λ i l m.
          let d = dim_of c i in
          stepped (shape_at t d) (at c.offset d) (k_of c i (x i)) (at c.step d) (at (src_strides t) d) t.element_size (over_some i l) (over_few i l)
          (kept_within k d (k_of c i (x i)) (k.perm i l) (kept_most i l)) (down_at t d) m)
          ∙ mod-eq_of_lt (omega (arith, planned_fits, span_fits t g))

    pub planned_bytes : (x : ℕ → ℕ) (src : List ℕ) → plan_bytes (plan_of t c) src (front t x 0) (front t x 1) (front t x 2) (front t x 3) ≡ element t c src x
    unfolding plan_bytes element plan_of
    planned_bytes x src =
        rw (planned_kept x, planned_size, planned_pad)
        (pick_same (are_kept t c x) (padded t c) (λ h. ap (λ (n : ℕ). take t.element_size (drop n src)) (planned_home x h)))

    pub planned_coords : (q : ℕ) → q < total t c → Planned t c q
    unfolding plan_of coord_of per_step total
    planned_coords q l =
        let d = digits t.element_size (plan_of t c).pad (plan_of t c).home (plan_of t c).base (axis_of t c) q t.rank g.rank.0 g.rank.1 (λ i h. (dst_extent k i g.rank.1 h).0) l in
        record { at0 = d.at0; at1 = d.at1; at2 = d.at2; at3 = d.at3 }

    pub stored_planned : (src : List ℕ) (q : ℕ) (dst : List ℕ) → q < total t c → stored t c src q dst ≡ put_number (plan_of t c) src q dst
    unfolding stored put_number put_at
    stored_planned src q dst l =
        let e = planned_coords q l in
        rw (e.at0, e.at1, e.at2, e.at3, planned_place (coord_of t c q), planned_bytes (coord_of t c q) src)

    pub moved_planned : (src : List ℕ) (from n : ℕ) (dst : List ℕ) → from + n ≤ total t c → moved t c src from n dst ≡ moved_by (plan_of t c) src from n dst
    unfolding moved moved_by
    moved_planned src from zero dst h = refl
    moved_planned src from (suc n) dst h =
        stored_planned src (from + n) (moved t c src from n dst) (omega arith) ∙
        ap (λ (d : List ℕ). put_number (plan_of t c) src (from + n) d) (moved_planned src from n dst (omega arith))

    -- ---- what the engine asks of an accepted move

    planned_reach : reach_of (plan_of t c) < 2 ^ 64
    unfolding plan_of
    planned_reach =
        let l : ℕ → ℕ = λ i. count t c (dim_of c i) - 1 in
        let z = t.element_size in
        let e : reach_of (plan_of t c) ≡ sum t.rank (λ i. l i * at c.step (dim_of c i) * at (src_strides t) (dim_of c i)) * z =
        (its _ _ _ _).reach
        ∙ sum_same t.rank _ _ (λ i h. ap (λ (n : ℕ). l i * n) (jump_length_lem (over i) (over_some i h) (over_few i h) (down_at t (dim_of c i))))
        ∙ sym (sum_scaled t.rank _ _ z (λ i h. rw (mul_assoc (l i) (at c.step (dim_of c i)) (at (src_strides t) (dim_of c i)), mul_assoc (l i) (at c.step (dim_of c i) * at (src_strides t) (dim_of c i)) z))) in
        let w = reach_fits k in
        omega (arith, rw (add-mul, one-mul) at w, span_fits t g)

    pub planned_place_end : place_end (plan_of t c) ≤ need t c
    unfolding plan_of place
    planned_place_end =
        let x : ℕ → ℕ = λ i. extent_at t c i - 1 in
        let e : place_end (plan_of t c) ≡ (1 + place t c x) * t.element_size =
        (its _ _ _ _).place_end_lem ∙ ended _ t.element_size (sum_bytes t.rank _ _ _ t.element_size (λ i _. further (at c.dst_offset i) (x i) (at (dst_strides t c) i) t.element_size)) in
        rw e (place_fits k x (λ i h. omega (arith, (dst_extent k i g.rank.1 h).0)))

    pub planned_few : plan_total (plan_of t c) < 2 ^ 64
    unfolding total
    planned_few =
        let e = planned_total in
        let w = product_most t.rank (extent_at t c) g.rank.1 (λ i h. (dst_extent k i g.rank.1 h).1) in
        omega arith

    -- the place of element number q
    pub planned_place_by : (q : ℕ) → q < total t c → place_by (plan_of t c) q ≡ place t c (coord_of t c q) * t.element_size
    unfolding place_by
    planned_place_by q l =
        let e = planned_coords q l in
        rw (e.at0, e.at1, e.at2, e.at3) (planned_place (coord_of t c q))

    pub planned_rising : GoodDst t c → Rising (plan_of t c)
    planned_rising p q r l m =
        let e = planned_total in
        let s = planned_size in
        let a = planned_place_by q (omega arith) in
        let b = planned_place_by r (omega arith) in
        omega (arith, bytes_rise g k p q r l (omega arith))

    planned_axes : GoodAxes (plan_of t c)
    unfolding plan_of
    planned_axes =
        record { in0 = good 0 (omega arith); in1 = good 1 (omega arith); in2 = good 2 (omega arith); in3 = good 3 (omega arith) }
      where
        good : (j : ℕ) → j < 4 → GoodAxis (wide t.rank lone (axis_of t c) j)
        good j h =
            wide_each GoodAxis t.rank lone (axis_of t c) j g.rank.1 h (record { some = omega arith; within = omega arith; fits = omega arith })
            (λ i l. record {
              some = count_positive k (dim_of c i) (k.perm i l);
              within = omega (arith, extent_is c g i l);
              fits = jump_fits_64 (over i) (down_at t (dim_of c i)) (omega (arith, over_few i l));
            })

    -- a source element that is kept lies in the span
    planned_span : (c0 c1 c2 c3 : ℕ) → plan_kept (plan_of t c) c0 c1 c2 c3 ≡ true → home_of (plan_of t c) c0 c1 c2 c3 + (plan_of t c).size ≤ span t
    planned_span c0 c1 c2 c3 h =
        let p = plan_of t c in
        let i = kept_in p c0 c1 c2 c3 planned_axes h in
        let q = number_of p c0 c1 c2 c3 in
        let l : q < total t c = omega (arith, number_lt p i, planned_total) in
        let e = coords p {q = q} refl i in
        let n = planned_coords q l in
        let x = coord_of t c q in
        let e0 : c0 ≡ front t x 0 = sym e.at0 ∙ n.at0 in
        let e1 : c1 ≡ front t x 1 = sym e.at1 ∙ n.at1 in
        let e2 : c2 ≡ front t x 2 = sym e.at2 ∙ n.at2 in
        let e3 : c3 ≡ front t x 3 = sym e.at3 ∙ n.at3 in
        let kept : are_kept t c x ≡ true = sym ((λ y. plan_kept p (e0 y) (e1 y) (e2 y) (e3 y)) ∙ planned_kept x) ∙ h in
        let home : home_of p c0 c1 c2 c3 ≡ source_place t c x * t.element_size = (λ y. home_of p (e0 y) (e1 y) (e2 y) (e3 y)) ∙ planned_home x kept in
        omega (arith, planned_fits x kept, planned_size)

    -- between two lent slices
    pub planned_ready : GoodDst t c → (at : ℕ × ℕ) (src dst : List ℕ) → length src < 2 ^ 63 → span t ≤ length src → need t c ≤ length dst
        → Ready (Lent (record { ref_ptr = at; now = src })) (plan_of t c) dst
    unfolding plan_of
    planned_ready p at src dst few l m =
        record {
          short = few;
          sized = g.element;
          axes = planned_axes;
          few = planned_few;
          rising = planned_rising p;
          reach = planned_reach;
          need = omega (arith, planned_place_end);
          span = λ c0 c1 c2 c3 h. omega (arith, planned_span c0 c1 c2 c3 h);
          apart = λ c0 c1 c2 c3 h. tt;
        }
