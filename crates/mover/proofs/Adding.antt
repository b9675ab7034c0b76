-- Places by adding, as 64 bits count, and spots: one stride further, and where the sums fit; jumps up and down. Assumes nothing.
use Rattle.std.proofs.Common.{◌≡◌, ℕ, ◌+◌, ◌-◌, ◌*◌, ◌%◌, ◌^◌, ◌<◌, ◌≤◌, Bool, true, false, cond, ◌&&◌, ltb, sym, ap, ◌∙◌, add-zero, add_assoc, mul-le-mul_right, mod-lt, mod-eq_of_lt, add-mul, one-mul, zero-mul, mul-add, arith, le-ltb, lt-ltb, le-leb}
use native.Mathlib.Nat.{zero-sub, zero-min, mod-add-mod, min-eq_left, min-le_right}
use native.Mathlib.Decide.{dec_lt}
use borrow.Author.Tests.{lt-leb}
use Rattle.mover.specs.declared.plan.Axis.{Axis}
use Rattle.mover.specs.declared.plan.Plan.{Plan}
use Rattle.mover.specs.declared.spots.Spot.{Spot}
use Rattle.mover.specs.Private.Elements.{plan_kept, summed, place_of, home_of}
use Rattle.mover.specs.Private.Adding.{along, jumps_of, spot_at, onward_of, first_spot}
use Rattle.mover.specs.Private.Plans.{jump_by, goes_down, jump_length}
use Rattle.mover.specs.Private.Ready.{reach_of, place_end, InExtents}
use Rattle.mover.proofs.Places.{all_kept_of, place_most}

module _ (a j : ℕ) where
  pub along_fits : (k : ℕ) → along a j k < 2 ^ 64
  unfolding along
  along_fits k = mod-lt (a + k * j) (omega arith)

  -- nothing added, once more, and n times more
  pub along_none : a < 2 ^ 64 → along a j 0 ≡ a
  unfolding along
  along_none h = rw (zero-mul, add-zero) (mod-eq_of_lt h)

  pub along_next : (k : ℕ) → (along a j k + j) % 2 ^ 64 ≡ along a j (k + 1)
  unfolding along
  along_next k = mod-add-mod (a + k * j) (2 ^ 64) j ∙ ap (λ (y : ℕ). y % 2 ^ 64) (rw (add-mul k 1 j, one-mul) (add_assoc a (k * j) j))

  pub along_on : (k n : ℕ) → along (along a j k) j n ≡ along a j (k + n)
  unfolding along
  along_on k n = mod-add-mod (a + k * j) (2 ^ 64) (n * j) ∙ ap (λ (y : ℕ). y % 2 ^ 64) (rw (add-mul k n j) (add_assoc a (k * j) (n * j)))

-- where the sum fits
pub along_is : (a j k : ℕ) → a + k * j < 2 ^ 64 → along a j k ≡ a + k * j
unfolding along
along_is a j k h = mod-eq_of_lt h

-- ---- jumps up and down

-- k jumps down, and k times their length up: as many rounds of 64 bits
pub rounds : (k j : ℕ) → j ≤ 2 ^ 64 → k * j + k * (2 ^ 64 - j) ≡ k * 2 ^ 64
rounds k j h = let e : j + (2 ^ 64 - j) ≡ 2 ^ 64 = omega arith in sym (mul-add k j (2 ^ 64 - j)) ∙ ap (λ (y : ℕ). k * y) e

module _ (j : ℕ) where
  pub length_up : goes_down j ≡ false → jump_length j ≡ j
  length_up e = rw e

  pub length_down : goes_down j ≡ true → jump_length j ≡ 2 ^ 64 - j
  length_down e = rw e

-- n bytes up or down, as a jump: its length is n
module _ (n : ℕ) (some : 0 < n) (few : n < 2 ^ 63) where
  pub jump_length_lem : (down : Bool) → jump_length (jump_by down n) ≡ n
  jump_length_lem true = let e : (2 ^ 64 - n) % 2 ^ 64 ≡ 2 ^ 64 - n = mod-eq_of_lt (omega arith) in rw (e, le-leb (2 ^ 63) (2 ^ 64 - n) (omega arith)) (omega arith)
  jump_length_lem false = rw (lt-leb (2 ^ 63) n few)

-- a jump is a number of 64 bits
pub jump_fits_64 : (n : ℕ) (down : Bool) → n < 2 ^ 64 → jump_by down n < 2 ^ 64
jump_fits_64 n true h = mod-lt (2 ^ 64 - n) (omega arith)
jump_fits_64 n false h = h

-- where a jump down ends, as a difference
module _ (a j n : ℕ) (fj : j < 2 ^ 64) where
  pub after_up : goes_down j ≡ false → (a + n * jump_length j) % 2 ^ 64 ≡ along a j n
  unfolding along
  after_up e = rw (length_up j e)

  pub after_down : goes_down j ≡ true → n * jump_length j < 2 ^ 64 → (a + (2 ^ 64 - n * jump_length j)) % 2 ^ 64 ≡ along a j n
  unfolding along
  after_down e f =
      let k = rounds n j (omega arith) in
      let v = rw (length_down j e) at f in
      rw (length_down j e) (omega arith)

-- ---- the spot at a coordinate

module _ (x : Axis) (c : ℕ) where
  jumps_on : x.pre < c + 1 → c + 1 - x.pre < x.count → jumps_of x c + 1 ≡ jumps_of x (c + 1)
  unfolding jumps_of
  jumps_on h l = omega arith

  jumps_stay : (x.pre < c + 1 → c + 1 - x.pre < x.count → ⊥) → jumps_of x c ≡ jumps_of x (c + 1)
  unfolding jumps_of
  jumps_stay h = elim (dec_lt x.pre (c + 1)) [
    | yes p ↦ elim (dec_lt (c + 1 - x.pre) x.count) [
      | yes q ↦ absurd (h p q)
      | no q ↦ omega arith
    ]
    | no p ↦ omega arith
  ]

  pub jumps_kept : c - x.pre ≤ x.count - 1 → jumps_of x c ≡ c - x.pre
  unfolding jumps_of
  jumps_kept h = min-eq_left h

module _ (s : Spot) (x : Axis) where
  pub spot_fits : (c : ℕ) {r : Spot} → r ≡ spot_at s x c → (r.to < 2 ^ 64) × (r.at < 2 ^ 64)
  unfolding spot_at
  spot_fits c e = rw e (along_fits s.to x.stride c, along_fits s.at x.jump (jumps_of x c))

  pub spot_none : s.to < 2 ^ 64 → s.at < 2 ^ 64 → spot_at s x 0 ≡ s
  unfolding spot_at jumps_of
  spot_none h l =
      let t = along_none s.to x.stride h in
      let e : along s.at x.jump (jumps_of x 0) ≡ s.at = rw (zero-sub, zero-min) (along_none s.at x.jump l) in
      λ i. record { to = t i; at = e i }

  -- from one coordinate to the next
  pub spot_on : (c : ℕ) → onward_of (spot_at s x c) x (c + 1) ≡ spot_at s x (c + 1)
  unfolding spot_at onward_of
  spot_on c =
      let t = along_next s.to x.stride c in
      let k = jumps_of x c in
      let a = along s.at x.jump k in
      let e : cond (ltb x.pre (c + 1) && ltb (c + 1 - x.pre) x.count) ((a + x.jump) % 2 ^ 64) a ≡ along s.at x.jump (jumps_of x (c + 1)) =
      elim (dec_lt x.pre (c + 1)) [
        | yes p ↦ elim (dec_lt (c + 1 - x.pre) x.count) [
          | yes q ↦ rw (lt-ltb x.pre (c + 1) p, lt-ltb (c + 1 - x.pre) x.count q) (along_next s.at x.jump k ∙ ap (along s.at x.jump) (jumps_on x c p q))
          | no q ↦ rw (lt-ltb x.pre (c + 1) p, le-ltb (c + 1 - x.pre) x.count (omega arith)) (ap (along s.at x.jump) (jumps_stay x c (λ _ l. q l)))
        ]
        | no p ↦ rw (le-ltb x.pre (c + 1) (omega arith)) (ap (along s.at x.jump) (jumps_stay x c (λ l _. p l)))
      ] in
      λ i. record { to = t i; at = e i }

-- ---- an element's places, by the starts of its slab, layer and row

module _ (p : Plan) (c0 c1 c2 : ℕ) {slab layer row : Spot} (e0 : slab ≡ spot_at (first_spot p) p.d0 c0) (e1 : layer ≡ spot_at slab p.d1 c1) (e2 : row ≡ spot_at layer p.d2 c2) where
  pub row_place : (c3 : ℕ) → along row.to p.d3.stride c3 ≡ place_of p c0 c1 c2 c3 % 2 ^ 64
  unfolding spot_at along place_of summed
  row_place c3 = rw (e2, e1, e0) (simp mod-add-mod (ap (λ (y : ℕ). y % 2 ^ 64) (omega arith)))

  pub row_home : (c3 : ℕ) → plan_kept p c0 c1 c2 c3 ≡ true → along row.at p.d3.jump (c3 - p.d3.pre) ≡ home_of p c0 c1 c2 c3
  unfolding spot_at along home_of summed
  row_home c3 h =
      let k = all_kept_of p c0 c1 c2 c3 h in
      rw (e2, e1, e0, jumps_kept p.d0 c0 k.k0.most, jumps_kept p.d1 c1 k.k1.most, jumps_kept p.d2 c2 k.k2.most)
      (simp mod-add-mod (ap (λ (y : ℕ). y % 2 ^ 64) (omega arith)))

-- ---- where a step begins: no part of the sums is larger than the whole, which fits

module _ (s : Spot) (x : Axis) (c : ℕ) (t : s.to + c * x.stride < 2 ^ 64) where
  pub spot_made : {a : ℕ} → a ≡ along s.at x.jump (jumps_of x c) → record { to = s.to + c * x.stride; at = a } ≡ spot_at s x c
  unfolding spot_at along
  spot_made e =
      let u = sym (mod-eq_of_lt t) in
      λ i. record { to = u i; at = e i }

  pub spot_to : {r : Spot} → r ≡ spot_at s x c → r.to ≡ s.to + c * x.stride
  unfolding spot_at along
  spot_to e = ap (λ (y : Spot). y.to) e ∙ mod-eq_of_lt t

-- the source goes no further than from the first kept coordinate to the last
pub jumps_fit : (x : Axis) (c : ℕ) → (x.count - 1) * jump_length x.jump < 2 ^ 64 → jumps_of x c * jump_length x.jump < 2 ^ 64
unfolding jumps_of
jumps_fit x c h = let m = mul-le-mul_right (jump_length x.jump) (min-le_right (c - x.pre) (x.count - 1)) in omega arith

-- in each dimension that fits
pub record Reaches (p : Plan) : Type 0 where
  pub far0 : (p.d0.count - 1) * jump_length p.d0.jump < 2 ^ 64
  pub far1 : (p.d1.count - 1) * jump_length p.d1.jump < 2 ^ 64
  pub far2 : (p.d2.count - 1) * jump_length p.d2.jump < 2 ^ 64
  pub far3 : (p.d3.count - 1) * jump_length p.d3.jump < 2 ^ 64

pub reaches : (p : Plan) → reach_of p < 2 ^ 64 → Reaches p
unfolding reach_of summed
reaches p h = record { far0 = omega arith; far1 = omega arith; far2 = omega arith; far3 = omega arith }

module _ (p : Plan) {c0 c1 c2 c3 : ℕ} (w : InExtents p c0 c1 c2 c3) where
  pub begin_to : place_end p < 2 ^ 64 → p.base + c0 * p.d0.stride + c1 * p.d1.stride + c2 * p.d2.stride + c3 * p.d3.stride < 2 ^ 64
  unfolding place_of summed
  begin_to h = let m = place_most p c0 c1 c2 c3 w in omega arith
