-- Where elements stand: every place is within the bounds that the checks worked out. Assumes nothing.
use Rattle.std.proofs.Common.{◌≡◌, ℕ, ◌+◌, ◌-◌, ◌<◌, ◌≤◌, true, ◌&&◌, List, length, inl, inr, ⊎_elim, mul-le-mul_right, arith}
use Rattle.faults.proofs.Bools.{both_first, both_second}
use Rattle.mover.specs.declared.plan.Axis.{Axis}
use Rattle.mover.specs.declared.plan.Plan.{Plan}
use Rattle.mover.specs.declared.elements.Origin.{Origin}
use Rattle.mover.specs.declared.elements.Origin.TheVariants.{Lent, Inside}
use Rattle.mover.specs.Private.Elements.{axis_kept, plan_kept, summed, place_of, source_bytes}
use Rattle.mover.specs.Private.Runs.{BytesApart}
use Rattle.mover.specs.Private.Ready.{place_end, GoodAxis, GoodAxes, Ready, InExtents}
use Rattle.mover.proofs.Keeping.{test_range}

-- a place grows with each of its counts
pub summed_most : (b : ℕ) {k0 m0 k1 m1 k2 m2 k3 m3 : ℕ} (t0 t1 t2 t3 : ℕ) → k0 ≤ m0 → k1 ≤ m1 → k2 ≤ m2 → k3 ≤ m3
    → summed b k0 t0 k1 t1 k2 t2 k3 t3 ≤ summed b m0 t0 m1 t1 m2 t2 m3 t3
unfolding summed
summed_most b {k0} {m0} {k1} {m1} {k2} {m2} {k3} {m3} t0 t1 t2 t3 h0 h1 h2 h3 =
    let p0 = mul-le-mul_right t0 h0 in
    let p1 = mul-le-mul_right t1 h1 in
    let p2 = mul-le-mul_right t2 h2 in
    let p3 = mul-le-mul_right t3 h3 in
    omega arith

summed_least : (b k0 t0 k1 t1 k2 t2 k3 t3 : ℕ) → b ≤ summed b k0 t0 k1 t1 k2 t2 k3 t3
unfolding summed
summed_least b k0 t0 k1 t1 k2 t2 k3 t3 = omega arith

-- a dimension of which something is kept has an extent
pub axis_some : {x : Axis} → GoodAxis x → 0 < x.extent
axis_some {x} s = omega (arith, s.some, s.within)

-- a coordinate that is kept
pub record Kept (x : Axis) (c : ℕ) : Type 0 where
  pub past : x.pre ≤ c
  pub most : c - x.pre ≤ x.count - 1

kept_of : (x : Axis) (c : ℕ) → axis_kept x c ≡ true → Kept x c
unfolding axis_kept
kept_of x c h =
    let r = test_range x.pre c x.count h in
    record { past = r.0; most = omega (arith, r.1) }

pub record AllKept (p : Plan) (c0 c1 c2 c3 : ℕ) : Type 0 where
  pub k0 : Kept p.d0 c0
  pub k1 : Kept p.d1 c1
  pub k2 : Kept p.d2 c2
  pub k3 : Kept p.d3 c3

module _ (p : Plan) (c0 c1 c2 c3 : ℕ) where
  pub all_kept_of : plan_kept p c0 c1 c2 c3 ≡ true → AllKept p c0 c1 c2 c3
  unfolding plan_kept
  all_kept_of h =
      let b0 = axis_kept p.d0 c0 in
      let b1 = axis_kept p.d1 c1 in
      let b2 = axis_kept p.d2 c2 in
      let b3 = axis_kept p.d3 c3 in
      let l2 = both_first (b0 && b1 && b2) b3 h in
      let l1 = both_first (b0 && b1) b2 l2 in
      record {
        k0 = kept_of p.d0 c0 (both_first b0 b1 l1);
        k1 = kept_of p.d1 c1 (both_second b0 b1 l1);
        k2 = kept_of p.d2 c2 (both_second (b0 && b1) b2 l2);
        k3 = kept_of p.d3 c3 (both_second (b0 && b1 && b2) b3 h);
      }

  -- what is kept lies in the extents
  pub kept_in : GoodAxes p → plan_kept p c0 c1 c2 c3 ≡ true → InExtents p c0 c1 c2 c3
  kept_in g h =
      let k = all_kept_of h in
      record {
        in0 = omega (arith, k.k0.past, k.k0.most, g.in0.some, g.in0.within);
        in1 = omega (arith, k.k1.past, k.k1.most, g.in1.some, g.in1.within);
        in2 = omega (arith, k.k2.past, k.k2.most, g.in2.some, g.in2.within);
        in3 = omega (arith, k.k3.past, k.k3.most, g.in3.some, g.in3.within);
      }

  pub place_least : p.base ≤ place_of p c0 c1 c2 c3
  unfolding place_of
  place_least = summed_least p.base c0 p.d0.stride c1 p.d1.stride c2 p.d2.stride c3 p.d3.stride

  pub place_most : InExtents p c0 c1 c2 c3 → place_of p c0 c1 c2 c3 + p.size ≤ place_end p
  unfolding place_of place_end
  place_most w =
      let h0 : c0 ≤ p.d0.extent - 1 = omega (arith, w.in0) in
      let h1 : c1 ≤ p.d1.extent - 1 = omega (arith, w.in1) in
      let h2 : c2 ≤ p.d2.extent - 1 = omega (arith, w.in2) in
      let h3 : c3 ≤ p.d3.extent - 1 = omega (arith, w.in3) in
      omega (arith, summed_most p.base p.d0.stride p.d1.stride p.d2.stride p.d3.stride h0 h1 h2 h3)

-- what lies within bytes that are apart is apart
pub apart_part : (o : Origin) {a a' b b' x x' y y' : ℕ} → BytesApart o a a' b b' → a ≤ x → x' ≤ a' → b ≤ y → y' ≤ b' → BytesApart o x x' y y'
apart_part (Lent _) h p q r s = tt
apart_part Inside h p q r s = ⊎_elim (λ u. inl (omega arith)) (λ v. inr (omega arith)) h

-- a source of the same length
pub still_held : (o : Origin) (d e : List ℕ) {m : ℕ} → length e ≡ length d → m ≤ length (source_bytes o d) → m ≤ length (source_bytes o e)
still_held (Lent s) d e h l = l
still_held Inside d e h l = rw h l

-- what is asked speaks of the destination by its length alone
pub still_ready : (o : Origin) (p : Plan) (d e : List ℕ) → length e ≡ length d → Ready o p d → Ready o p e
still_ready o p d e h r =
    record {
      short = r.short;
      sized = r.sized;
      axes = r.axes;
      few = r.few;
      rising = r.rising;
      reach = r.reach;
      need = rw h r.need;
      span = λ c0 c1 c2 c3 k. still_held o d e h (r.span c0 c1 c2 c3 k);
      apart = r.apart;
    }
