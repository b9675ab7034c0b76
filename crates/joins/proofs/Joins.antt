-- Two planes joined along a dimension: set side by side into one destination, they leave the joined plane. Assumes nothing.
use Prim.Native.Nat.{ℕ, ◌+◌, ◌-◌, ◌≤◌, ◌<◌}
use native.Mathlib.Nat.{le_trans}
use native.Mathlib.Decide.{ℕ_discrete, dec_lt}
use native.Mathlib.Omega.{arith}
use mathlib.Core.Path.{◌≡◌, refl, sym, ap, subst, ◌∙◌}
use mathlib.Core.Logic.{◌⊎◌, ⊎_elim, inl, inr}
use mathlib.Core.Bool.{cond}
use mathlib.Core.List.{List}
use borrow.Author.Tests.{eq-eqb, ne_eqb}
use lib.Dec.{eqb}
use lib.IntN.{pos}
use lib.ListN.{length, get_or-map}
use Rattle.plane.specs.declared.Tensor.{Tensor}
use Rattle.plane.specs.Arrays.{at, zeros}
use Rattle.plane.specs.Signs.{is_down}
use Rattle.plane.specs.Planes.{shape_at, stride_at}
use Rattle.plane.proofs.Arrays.{array_at, zeros_at}
use Rattle.plane.proofs.Falling.{strides_at}
use Rattle.plane.specs.Good.{FromTo, GoodSource}
use Rattle.plane.proofs.Good.{source_good, source_clear}
use Rattle.mover.specs.Demand2.{Accepted}
use Rattle.slices.proofs.Compact.{resolved_inner}
use Rattle.joins.specs.Claims.{IsIn, CountsUp, set_config, Settable, IsSet, joined_of, behind, Joinable, IsJoined, after_first, after_both, JoinedPlane, JoinedCoordinates, CompactFalls, JoinedTaken}
use Rattle.joins.proofs.Elements.{byte_same, element_within}
use Rattle.joins.proofs.Setting.{set_into, set_inside}

module _ {a b : Tensor} {d : ℕ} {stride srcA srcB dst : List ℕ} (p : Joinable a b d stride srcA srcB dst) where
  abbrev w : Tensor
  w = joined_of a b d stride

  good : GoodSource a
  good = source_good a p.first.0

  few : a.rank ≤ 4
  few = good.rank.1

  -- ---- the shapes of the joined plane, and where b starts: along d, and in the other dimensions

  shape_along : shape_at w d ≡ shape_at a d + shape_at b d
  shape_along =
      array_at (λ i. shape_at a i + cond (eqb i d) (shape_at b i) 0) 0 d (omega (arith, p.along, few)) ∙
      rw (eq-eqb d d refl)

  behind_along : at (behind a d) d ≡ shape_at a d
  behind_along = array_at (λ i. cond (eqb i d) (shape_at a i) 0) 0 d (omega (arith, p.along, few)) ∙ rw (eq-eqb d d refl)

  module _ (i : ℕ) (h : i < a.rank) (n : i ≡ d → ⊥) where
    shape_aside : shape_at w i ≡ shape_at a i
    shape_aside =
        array_at (λ i. shape_at a i + cond (eqb i d) (shape_at b i) 0) 0 i (omega (arith, few)) ∙
        rw (ne_eqb i d n) (omega arith)

    behind_aside : at (behind a d) i ≡ 0
    behind_aside = array_at (λ i. cond (eqb i d) (shape_at a i) 0) 0 i (omega (arith, few)) ∙ rw (ne_eqb i d n)

  -- what holds along d, and in any other dimension, holds in all
  each : (P : ℕ → Type 0) → P d → ((i : ℕ) → i < a.rank → (i ≡ d → ⊥) → P i) → (i : ℕ) → i < a.rank → P i
  each P z f i h = elim (ℕ_discrete i d) [
    | yes e ↦ subst P (sym e) z
    | no e ↦ f i h e
  ]

  -- no stride of it is below 0
  counts_up : CountsUp w
  counts_up i h = ap is_down (get_or-map pos stride i 0)

  -- ---- a is set in from coordinate 0 on, and then b behind it

  first_settable : Settable w a zeros srcA dst
  first_settable = record {
    rank = refl;
    element = refl;
    source = p.first;
    strides = p.strides;
    up = counts_up;
    fits = each (λ i. at zeros i + shape_at a i ≤ shape_at w i)
        (omega (arith, zeros_at d, shape_along))
        (λ i h n. omega (arith, zeros_at i, shape_aside i h n));
    limit = λ i h. omega (arith, zeros_at i);
    room = p.room;
  }

  abbrev half : List ℕ
  half = after_first a b d stride srcA dst

  first : Accepted a (set_config w zeros) srcA dst × IsSet w a zeros srcA dst half
  first = set_into w a zeros srcA dst first_settable

  second_settable : Settable w b (behind a d) srcB half
  second_settable = record {
    rank = p.rank;
    element = p.element;
    source = p.second;
    strides = p.strides;
    up = counts_up;
    fits = each (λ i. at (behind a d) i + shape_at b i ≤ shape_at w i)
        (omega (arith, behind_along, shape_along))
        (λ i h n. omega (arith, behind_aside i h n, shape_aside i h n, p.shape i h n));
    limit = each (λ i. at (behind a d) i ≤ 65535)
        (omega (arith, behind_along, (good.shape d p.along).1))
        (λ i h n. omega (arith, behind_aside i h n));
    room = rw first.1.long p.room;
  }

  abbrev whole : List ℕ
  whole = after_both a b d stride srcA srcB dst

  second : Accepted b (set_config w (behind a d)) srcB half × IsSet w b (behind a d) srcB half whole
  second = set_into w b (behind a d) srcB half second_settable

  -- ---- the joined plane's elements

  module _ (y : ℕ → ℕ) (v : IsIn w y) where
    -- as far as a reaches along d: a's coordinate
    in_first : y d < shape_at a d → IsIn a y
    in_first l = each (λ i. y i < shape_at a i) l (λ i h n. omega (arith, v i h, shape_aside i h n))

    -- past it: b's coordinate
    module _ (l : shape_at a d ≤ y d) where
      abbrev back : ℕ → ℕ
      back i = y i - at (behind a d) i

      back_there : (i : ℕ) → i < a.rank → at (behind a d) i + back i ≡ y i
      back_there =
          each (λ i. at (behind a d) i + back i ≡ y i)
          (omega (arith, behind_along))
          (λ i h n. omega (arith, behind_aside i h n))

      in_second : IsIn b back
      in_second i h =
          each (λ i. back i < shape_at b i)
          (omega (arith, behind_along, v d p.along, shape_along))
          (λ i h n. omega (arith, v i h, shape_aside i h n, p.shape i h n))
          i (rw (← p.rank) h)

  long : length whole ≡ length dst
  long = second.1.long ∙ first.1.long

  both : IsJoined w a b d srcA srcB dst whole
  both = record {
    long = long;
    inside = λ y v. rw long (le_trans (element_within w y v) p.room);
    of_first = λ y v l k h.
        second.1.others y v d p.along (inl (rw behind_along l)) k h ∙
        rw (byte_same w (λ i. at zeros i + y i) y (λ i q. omega (arith, zeros_at i))) at (first.1.placed y (in_first y v l) k h);
    of_second = λ y v l k h.
        rw (byte_same w (λ i. at (behind a d) i + back y v l i) y (back_there y v l)) at
        (second.1.placed (back y v l) (in_second y v l) k h);
    rest = λ k m.
        second.1.rest k (λ x u. m (λ i. at (behind a d) i + x i) (set_inside second_settable x u)) ∙
        first.1.rest k (λ x u. m (λ i. at zeros i + x i) (set_inside first_settable x u));
  }

  -- ---- its coordinates

  split : (y : ℕ → ℕ) → IsIn w y → IsIn a y ⊎ ((shape_at a d ≤ y d) × IsIn b (λ i. y i - at (behind a d) i))
  split y v = elim (dec_lt (y d) (shape_at a d)) [
    | yes l ↦ inl (in_first y v l)
    | no l ↦ let m : shape_at a d ≤ y d = omega arith in inr (m, in_second y v m)
  ]

  -- b's, from a's end on, and a's are w's
  from_second : (y : ℕ → ℕ) → shape_at a d ≤ y d → IsIn b (λ i. y i - at (behind a d) i) → IsIn w y
  from_second y l u i h =
      let k = set_inside second_settable (λ i. y i - at (behind a d) i) u i h in
      each (λ i. at (behind a d) i + (y i - at (behind a d) i) < shape_at w i → y i < shape_at w i)
      (λ q. omega (arith, behind_along))
      (λ i h n q. omega (arith, behind_aside i h n))
      i h k

  from_first_lem : (y : ℕ → ℕ) → IsIn a y → IsIn w y
  from_first_lem y u i h = let k = set_inside first_settable y u i h in omega (arith, zeros_at i)

  joined_good : shape_at a d + shape_at b d ≤ 65535 → GoodSource w
  joined_good l = record {
    rank = good.rank;
    element = good.element;
    shape = each (λ i. FromTo 1 65535 (shape_at w i))
        (rw shape_along (omega (arith, (good.shape d p.along).0), l))
        (λ i h n. rw (shape_aside i h n) (good.shape i h));
    strides = p.strides;
  }

-- ---- the theorems

pub joined_plane : JoinedPlane
joined_plane a b d stride srcA srcB dst p = ((first p).0, (second p).0, both p)

pub joined_coordinates : JoinedCoordinates
joined_coordinates a b d stride srcA srcB dst p y = (split p y, ⊎_elim (from_first_lem p y) (λ u. from_second p y u.0 u.1))

pub compact_falls : CompactFalls
compact_falls t few none most = record {
  least = λ i h. rw (resolved_inner t.rank (shape_at t) (stride_at t) none i h) (omega arith);
  most = λ i h. rw (← strides_at t.rank (shape_at t) (stride_at t) few i h) (most i h);
}

pub joined_taken : JoinedTaken
joined_taken a b d stride srcA srcB dst p l = (source_clear (joined_of a b d stride) (joined_good p l), rw (long p) p.room)
