-- What is claimed of a plane that is set into a larger one, and of two planes that are joined along a dimension by two moves, one after
-- the other. The larger plane is written as a tensor record too: so its strides, its span and the bytes of its elements are those of
-- any plane. Its shape may be above 65,535, since a joined plane may be.
use Rattle.std.specs.Prelude.{ℕ, ◌+◌, ◌-◌, ◌≤◌, ◌<◌, ◌≡◌, false, cond, ◌⊎◌, ◌↔◌, List, map, eqb, pos, length, get_or}
use Rattle.plane.specs.declared.Tensor.{Tensor}
use Rattle.plane.specs.declared.Config.{Config}
use Rattle.plane.specs.Arrays.{at, array, zeros}
use Rattle.plane.specs.Planes.{shape_at, stride_at, down_at, src_strides, span, source_fault}
use Rattle.plane.specs.Good.{GoodStrides}
use Rattle.ready_made.specs.ReadyMade.{concatenate_of}
use Rattle.mover.specs.Moved.{move_memory}
use Rattle.mover.specs.Demand2.{Accepted}
use Rattle.slices.specs.Claims.{element_byte}

-- ---- a plane

-- y is a coordinate of it
abbrev pub IsIn : Tensor → (ℕ → ℕ) → Type 0
IsIn t y = (i : ℕ) → i < t.rank → y i < shape_at t i

-- byte k is none of the element's at y
abbrev pub Misses : Tensor → (ℕ → ℕ) → ℕ → Type 0
Misses t y k = (k < element_byte t y) ⊎ (element_byte t y + t.element_size ≤ k)

-- 4 does not refuse its strides
abbrev pub Falls : Tensor → Type 0
Falls t = GoodStrides t.rank (shape_at t) (stride_at t)

-- none of its dimensions counts down
abbrev pub CountsUp : Tensor → Type 0
CountsUp t = (i : ℕ) → i < t.rank → down_at t i ≡ false

-- 1 to 5 do not refuse it with the source src
abbrev pub TakenFrom : Tensor → List ℕ → Type 0
TakenFrom t src = ((source_fault t).status ≡ 0) × (span t ≤ length src)

-- its elements lie in its span
abbrev pub ElementWithin : Type 0
ElementWithin = (t : Tensor) (y : ℕ → ℕ) → IsIn t y → element_byte t y + t.element_size ≤ span t

-- those of coordinates that differ have no byte in common
abbrev pub ElementsApart : Type 0
ElementsApart =
    (t : Tensor) → t.rank ≤ 4 → Falls t → (x y : ℕ → ℕ) → IsIn t x → IsIn t y → (i : ℕ) → i < t.rank → (x i ≡ y i → ⊥) →
    (element_byte t x + t.element_size ≤ element_byte t y) ⊎ (element_byte t y + t.element_size ≤ element_byte t x)

-- ---- a plane t set into a larger plane w, from its coordinate o on

-- the strides are w's, written; all but offset and strides is default
abbrev pub set_config : Tensor → List ℕ → Config
set_config w o = (concatenate_of w.rank o (src_strides w)).config

-- what is asked for
pub record Settable (w t : Tensor) (o src dst : List ℕ) : Type 0 where
  pub rank : t.rank ≡ w.rank
  pub element : t.element_size ≡ w.element_size
  pub source : TakenFrom t src
  pub strides : Falls w
  -- a destination counts up in every dimension, so w is a plane that does; t may count down
  pub up : CountsUp w
  -- t lies in w, and no offset is too large
  pub fits : (i : ℕ) → i < w.rank → at o i + shape_at t i ≤ shape_at w i
  pub limit : (i : ℕ) → i < w.rank → at o i ≤ 65535
  -- the room holds w
  pub room : span w ≤ length dst

-- the destination dst has become e: t's elements are in it, and nothing else is changed
pub record IsSet (w t : Tensor) (o src dst e : List ℕ) : Type 0 where
  pub long : length e ≡ length dst
  -- t's element at x is w's at o + x, which lies in the destination
  pub inside : (x : ℕ → ℕ) → IsIn t x → element_byte w (λ i. at o i + x i) + w.element_size ≤ length e
  pub placed : (x : ℕ → ℕ) → IsIn t x → (k : ℕ) → k < w.element_size →
      get_or e (element_byte w (λ i. at o i + x i) + k) 0 ≡ get_or src (element_byte t x + k) 0
  -- w's other elements are as they were: those of coordinates before t or past it in some dimension
  pub others : (y : ℕ → ℕ) → IsIn w y → (i : ℕ) → i < w.rank → ((y i < at o i) ⊎ (at o i + shape_at t i ≤ y i)) →
      (k : ℕ) → k < w.element_size → get_or e (element_byte w y + k) 0 ≡ get_or dst (element_byte w y + k) 0
  -- and so is every byte of none of t's
  pub rest : (k : ℕ) → ((x : ℕ → ℕ) → IsIn t x → Misses w (λ i. at o i + x i) k) → get_or e k 0 ≡ get_or dst k 0

-- the move is accepted, and leaves that
abbrev pub SetInto : Type 0
SetInto =
    (w t : Tensor) (o src dst : List ℕ) → Settable w t o src dst →
    Accepted t (set_config w o) src dst × IsSet w t o src dst (move_memory t (set_config w o) src dst)

-- ---- two planes a and b joined along dimension d

-- the joined plane: along d both shapes together. Its strides are those asked for, 0 for compact ones; none of them counts down
abbrev pub joined_of : Tensor → Tensor → ℕ → List ℕ → Tensor
joined_of a b d stride = record {
  rank = a.rank;
  element_size = a.element_size;
  shape = array (λ i. shape_at a i + cond (eqb i d) (shape_at b i) 0);
  stride = map pos stride;
}

-- b starts where a ends: along d at a's shape, which is its extent, since all else is default
abbrev pub behind : Tensor → ℕ → List ℕ
behind a d = array (λ i. cond (eqb i d) (shape_at a i) 0)

-- what is asked for
pub record Joinable (a b : Tensor) (d : ℕ) (stride srcA srcB dst : List ℕ) : Type 0 where
  -- d is a dimension of a; rank, element size and, but for d, the shapes agree
  pub along : d < a.rank
  pub rank : b.rank ≡ a.rank
  pub element : b.element_size ≡ a.element_size
  pub shape : (i : ℕ) → i < a.rank → (i ≡ d → ⊥) → shape_at b i ≡ shape_at a i
  pub first : TakenFrom a srcA
  pub second : TakenFrom b srcB
  -- compact strides are so if they are within the limit (`CompactFalls`)
  pub strides : Falls (joined_of a b d stride)
  -- the room holds the joined plane
  pub room : span (joined_of a b d stride) ≤ length dst

-- the destination dst has become e: the joined plane w is in it, and nothing else is changed
pub record IsJoined (w a b : Tensor) (d : ℕ) (srcA srcB dst e : List ℕ) : Type 0 where
  pub long : length e ≡ length dst
  -- w's elements lie in it
  pub inside : (y : ℕ → ℕ) → IsIn w y → element_byte w y + w.element_size ≤ length e
  -- w's element at y is a's at y (which lies in srcA: `ElementWithin`), as far as a reaches along d: none of a is overwritten
  pub of_first : (y : ℕ → ℕ) → IsIn w y → y d < shape_at a d → (k : ℕ) → k < w.element_size →
      get_or e (element_byte w y + k) 0 ≡ get_or srcA (element_byte a y + k) 0
  -- and past it b's
  pub of_second : (y : ℕ → ℕ) → IsIn w y → shape_at a d ≤ y d → (k : ℕ) → k < w.element_size →
      get_or e (element_byte w y + k) 0 ≡ get_or srcB (element_byte b (λ i. y i - at (behind a d) i) + k) 0
  -- a byte of none of w's elements is as it was
  pub rest : (k : ℕ) → ((y : ℕ → ℕ) → IsIn w y → Misses w y k) → get_or e k 0 ≡ get_or dst k 0

-- the destination with a set in, and with both
abbrev pub after_first : Tensor → Tensor → ℕ → List ℕ → List ℕ → List ℕ → List ℕ
after_first a b d stride srcA dst = move_memory a (set_config (joined_of a b d stride) zeros) srcA dst

abbrev pub after_both : Tensor → Tensor → ℕ → List ℕ → List ℕ → List ℕ → List ℕ → List ℕ
after_both a b d stride srcA srcB dst =
    move_memory b (set_config (joined_of a b d stride) (behind a d)) srcB (after_first a b d stride srcA dst)

-- both moves are accepted, the second over what the first left, and they leave the joined plane
abbrev pub JoinedPlane : Type 0
JoinedPlane =
    (a b : Tensor) (d : ℕ) (stride srcA srcB dst : List ℕ) → Joinable a b d stride srcA srcB dst →
    Accepted a (set_config (joined_of a b d stride) zeros) srcA dst ×
    Accepted b (set_config (joined_of a b d stride) (behind a d)) srcB (after_first a b d stride srcA dst) ×
    IsJoined (joined_of a b d stride) a b d srcA srcB dst (after_both a b d stride srcA srcB dst)

-- every coordinate of the joined plane is one of a's or, behind a, one of b's; and each of these is one of its own
abbrev pub JoinedCoordinates : Type 0
JoinedCoordinates =
    (a b : Tensor) (d : ℕ) (stride srcA srcB dst : List ℕ) → Joinable a b d stride srcA srcB dst → (y : ℕ → ℕ) →
    IsIn (joined_of a b d stride) y ↔ (IsIn a y ⊎ ((shape_at a d ≤ y d) × IsIn b (λ i. y i - at (behind a d) i)))

-- where the strides asked for are 0, the limit alone is to be kept
abbrev pub CompactFalls : Type 0
CompactFalls =
    (t : Tensor) → t.rank ≤ 4 → ((i : ℕ) → i < t.rank → stride_at t i ≡ 0) →
    ((i : ℕ) → i < t.rank → at (src_strides t) i ≤ 2147483647) → Falls t

-- a joined plane of a shape within the limit can be moved on as a source: 1 to 5 do not refuse it with what the two moves left
abbrev pub JoinedTaken : Type 0
JoinedTaken =
    (a b : Tensor) (d : ℕ) (stride srcA srcB dst : List ℕ) → Joinable a b d stride srcA srcB dst → shape_at a d + shape_at b d ≤ 65535 →
    TakenFrom (joined_of a b d stride) (after_both a b d stride srcA srcB dst)
