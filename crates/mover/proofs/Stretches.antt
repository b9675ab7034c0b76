-- A stretch of elements stored row by row by the plain engine: those numbered from `first` to `last` - 1, as far as the rows have come.
-- Assumes nothing.
use Rattle.std.proofs.Common.{◌≡◌, ℕ, zero, suc, ◌+◌, ◌-◌, ◌*◌, ◌^◌, ◌<◌, ◌≤◌, min, Bool, true, false, cond, not, ltb, Some, None, List, ◌++◌, length, take, drop, sym, refl, ap, ◌∙◌, subst, ap₂, true≢false, append_assoc, add-zero, add_assoc, mul-le-mul_right, mul_assoc, add-mul, one-mul, mul-one, arith, length-drop, length-take-le, ltb-false, ltb-true, le-ltb, lt-ltb}
use native.Mathlib.Nat.{min-eq_left, min-eq_right, min-le_right}
use lib.Seq.{sets, sets-eq, length-sets}
use Rattle.plane.specs.declared.Tensor.{Tensor}
use Rattle.plane.specs.declared.Config.{Config}
use Rattle.plane.specs.declared.Answer.{Answer}
use Rattle.plane.specs.Arrays.{at, product}
use Rattle.plane.specs.Moves.{accepted}
use Rattle.plane.proofs.Arrays.{product_same}
use Rattle.plane.proofs.Bounds.{product_most}
use Rattle.plane.proofs.Rules.{dst_extent}
use Rattle.parts.specs.declared.Part.{Part}
use Rattle.parts.specs.Parts.{bytes_of}
use Rattle.mover.specs.declared.elements.Origin.{Origin}
use Rattle.mover.specs.declared.elements.Origin.TheVariants.{Lent, Inside}
use Rattle.mover.specs.declared.plain.Row.{Row}
use Rattle.mover.specs.Element.{are_kept, source_place, place, padded, element}
use Rattle.mover.specs.Moved.{extent_at, total, per_step, coord_of, stored, moved}
use Rattle.mover.specs.Private.Elements.{source_bytes}
use Rattle.mover.specs.Private.Runs.{BytesApart}
use Rattle.mover.specs.Private.Rows.{size_of, row_bytes, Storable, inward_of, elements_in, first_of, past_of, RowOf, Stands, stretch_in, Comes}
use Rattle.mover.proofs.Laws.{moved_length}
use Rattle.mover.proofs.Parts.{sets_middle, bytes_within, part_other}
use Rattle.mover.proofs.Places.{apart_part, still_held}
use Rattle.mover.proofs.Stored.{length_element}
use Rattle.mover.proofs.Rows.{its_extent, inward_row, if_some, to_fits, from_fits}

-- ---- how many elements a row has

product_front : (l : ℕ) (f : ℕ → ℕ) → product (suc l) f ≡ f 0 * product l (λ k. f (suc k))
unfolding product
product_front zero f = one-mul (f 0) ∙ sym (mul-one (f 0))
product_front (suc l) f =
    ap (λ (y : ℕ). y * f (suc l)) (product_front l f) ∙ mul_assoc (f 0) (product l (λ k. f (suc k))) (f (suc l))

elements_none : (w : Row) → elements_in w 0 ≡ 1
unfolding elements_in product
elements_none w = refl

-- a row with no dimension left is one element
one_element : (w : Row) (n : ℕ) {depth : ℕ} → depth ≡ 0 → n * elements_in w depth ≡ n
one_element w n z = ap (λ (l : ℕ). n * elements_in w l) z ∙ ap (λ (k : ℕ). n * k) (elements_none w) ∙ mul-one n

elements_more : (w : Row) (l : ℕ) → suc l ≤ w.tensor.rank → elements_in w (suc l) ≡ at w.answer.extent (w.tensor.rank - suc l) * elements_in w l
unfolding elements_in
elements_more w l h =
    product_front l (λ k. at w.answer.extent (w.tensor.rank - suc l + k)) ∙
    ap₂ (λ (x y : ℕ). x * y)
    (ap (at w.answer.extent) (add-zero (w.tensor.rank - suc l)))
    (product_same l _ _ (λ k m. let e : w.tensor.rank - suc l + suc k ≡ w.tensor.rank - l + k = omega arith in ap (at w.answer.extent) e))

pub elements_all : (w : Row) → w.answer ≡ accepted w.tensor w.config → elements_in w w.tensor.rank ≡ total w.tensor w.config
unfolding elements_in total
elements_all w h =
    product_same w.tensor.rank _ _
    (λ k m. let e : w.tensor.rank - w.tensor.rank + k ≡ k = omega arith in ap₂ (λ (a : Answer) (i : ℕ). at a.extent i) h e)

-- a row starts with its first row of one dimension fewer, and ends with its last
module _ (w : Row) (depth q : ℕ) (z : depth ≡ 0 → ⊥) (m : depth ≤ w.tensor.rank) where
  its : elements_in w depth ≡ at w.answer.extent (w.tensor.rank - depth) * elements_in w (depth - 1)
  its =
      let e : suc (depth - 1) ≡ depth = omega arith in
      subst (λ (l : ℕ). elements_in w l ≡ at w.answer.extent (w.tensor.rank - l) * elements_in w (depth - 1)) e (elements_more w (depth - 1) (omega arith))

  starts : q * elements_in w depth ≡ (q * at w.answer.extent (w.tensor.rank - depth) + 0) * elements_in w (depth - 1)
  starts = rw (its, add-zero) (sym (mul_assoc q (at w.answer.extent (w.tensor.rank - depth)) (elements_in w (depth - 1))))

  ends : (q + 1) * elements_in w depth ≡ (q * at w.answer.extent (w.tensor.rank - depth) + at w.answer.extent (w.tensor.rank - depth)) * elements_in w (depth - 1)
  ends =
      let e = at w.answer.extent (w.tensor.rank - depth) in
      let n : (q + 1) * e ≡ q * e + e = add-mul q 1 e ∙ ap (λ (y : ℕ). q * e + y) (one-mul e) in
      rw its (sym (mul_assoc (q + 1) e (elements_in w (depth - 1))) ∙ ap (λ (y : ℕ). y * elements_in w (depth - 1)) n)

-- where the row at coordinate x of a row's first dimension starts
abbrev pub come_to : Row → ℕ → ℕ → ℕ
come_to w depth x = (w.number * at w.answer.extent (w.tensor.rank - depth) + x) * elements_in w (depth - 1)

-- ---- one element more

module _ (t : Tensor) (c : Config) (src : List ℕ) (first last q : ℕ) (d : List ℕ) where
  moved_one : first ≤ q → q < last → stored t c src q (moved t c src first (min last q - first) d) ≡ moved t c src first (min last (q + 1) - first) d
  unfolding moved
  moved_one l h =
      let a : min last q ≡ q = min-eq_right (omega arith) in
      let b : min last (q + 1) ≡ q + 1 = min-eq_right (omega arith) in
      let e : q + 1 - first ≡ suc (q - first) = omega arith in
      let f : first + (q - first) ≡ q = omega arith in
      rw (a, b, e, f)

-- an element before the stretch
before_it : (first last q : ℕ) → q < first → min last q - first ≡ min last (q + 1) - first
before_it first last q h = omega (arith, min-le_right last q, min-le_right last (q + 1))

-- ---- within a memory

-- what is stored into a part is stored into the memory
within_sets : (m u e : List ℕ) (b i : ℕ) → b + length u ≤ length m → i + length e ≤ length u → sets (sets m b u) (b + i) e ≡ sets m b (sets u i e)
within_sets m u e b i h k =
    let x = take b m in
    let y = drop (b + length u) m in
    let lx : length x ≡ b = length-take-le b m (omega arith) in
    ap (λ (z : List ℕ). sets z (b + i) e) (sets-eq u m b h ∙ append_assoc x u y) ∙
    ap (λ (n : ℕ). sets (x ++ (u ++ y)) (n + i) e) (sym lx) ∙ sets_middle e x u y i k ∙
    sym (sets-eq (sets u i e) m b (rw (length-sets u i e) h) ∙ append_assoc x (sets u i e) (drop (b + length (sets u i e)) m) ∙
    ap (λ (n : ℕ). x ++ (sets u i e ++ drop (b + n) m)) (length-sets u i e))

-- while the destination's part is written, the source's is as it was
seen_same : (o : Origin) (p r : Part) (m u : List ℕ) → BytesApart o p.start (p.start + p.length) r.start (r.start + length u)
    → bytes_of p (source_bytes o (sets m r.start u)) ≡ bytes_of p (source_bytes o m)
seen_same (Lent _) p r m u h = refl
seen_same Inside p r m u h = part_other m u r.start p.start p.length h

module _ {w : Row} {depth : ℕ} {d : List ℕ} (h : Stands w depth d) where
  abbrev size : ℕ
  size = size_of w

  -- ---- with no dimension left

  module _ (z : depth ≡ 0) where
    leaf : RowOf h.p.start h.r.start w.tensor.rank w
    leaf = let e : w.tensor.rank - depth ≡ w.tensor.rank = omega arith in subst (λ (i : ℕ). RowOf h.p.start h.r.start i w) e h.row

    -- its element's coordinates; and that its places are those of the element
    abbrev coords : ℕ → ℕ
    coords = coord_of w.tensor w.config w.number

    its_place : w.place ≡ h.r.start + place w.tensor w.config coords * size
    unfolding place coord_of per_step
    its_place = leaf.at_place

    its_at : w.at ≡ cond (are_kept w.tensor w.config coords) (Some (h.p.start + source_place w.tensor w.config coords * size)) None
    unfolding source_place are_kept coord_of per_step
    its_at = leaf.at_source

    source_in : {a : ℕ} → w.at ≡ Some a → (h.p.start ≤ a) × (a + size ≤ h.p.start + h.p.length)
    source_in e = let f = from_fits leaf (omega arith) e in (f.0, omega (arith, f.1, h.long))

    end : w.place + size ≤ h.r.start + h.r.length
    end = omega (arith, to_fits leaf (omega arith), h.enough)

    pub storable : Storable w d
    storable = record {
      sized = h.row.good_source.element;
      source = if_some w.at (λ a e. omega (arith, (source_in e).1, h.source));
      destination = omega (arith, end, h.destination);
      apart = if_some w.at
          (λ a e. apart_part w.origin h.apart (source_in e).0 (source_in e).1 (omega (arith, h.row.at_place)) end);
    }

    -- the element's number fits, and the next one's
    pub number_small : w.number + 1 < 2 ^ 64
    number_small =
        omega (
          arith,
          leaf.within,
          product_most w.tensor.rank (extent_at w.tensor w.config) h.row.good_source.rank.1
              (λ i k. (dst_extent h.row.good_config i h.row.good_source.rank.1 k).1),
        )

    module _ (first last : ℕ) (m : List ℕ) (u : d ≡ stretch_in w h.p h.r first last (first_of w depth) m) where
      abbrev source : List ℕ
      source = bytes_of h.p (source_bytes w.origin m)

      abbrev part : ℕ → List ℕ
      part n = moved w.tensor w.config source first (min last n - first) (bytes_of h.r m)

      stands : d ≡ sets m h.r.start (part w.number)
      unfolding stretch_in
      stands = u ∙ ap (λ (n : ℕ). sets m h.r.start (part n)) (one_element w w.number z)

      same : length d ≡ length m
      same = ap length stands ∙ length-sets m h.r.start (part w.number)

      part_long : (n : ℕ) → length (part n) ≡ h.r.length
      part_long n =
          moved_length w.tensor w.config source first (min last n - first) (bytes_of h.r m) ∙
          length-take-le h.r.length (drop h.r.start m) (rw length-drop (omega (arith, h.destination, same)))

      not_stored : w.number < first → d ≡ stretch_in w h.p h.r first last (past_of w depth) m
      unfolding stretch_in
      not_stored o =
          stands ∙ ap (λ (n : ℕ). sets m h.r.start (moved w.tensor w.config source first n (bytes_of h.r m))) (before_it first last w.number o) ∙
          ap (λ (n : ℕ). sets m h.r.start (part n)) (sym (one_element w (w.number + 1) z))

      module _ (i : first ≤ w.number) (j : w.number < last) where
        seen : bytes_of h.p (source_bytes w.origin d) ≡ source
        seen =
            ap (λ (e : List ℕ). bytes_of h.p (source_bytes w.origin e)) stands ∙
            seen_same w.origin h.p h.r m (part w.number) (rw (part_long w.number) h.apart)

        bytes_are : row_bytes w d ≡ element w.tensor w.config source coords
        unfolding element padded
        bytes_are = by_test (are_kept w.tensor w.config coords) refl
          where
            by_test : (k : Bool) → are_kept w.tensor w.config coords ≡ k → row_bytes w d ≡ element w.tensor w.config source coords
            by_test true k =
                let at_source = source_place w.tensor w.config coords * size in
                let e : w.at ≡ Some (h.p.start + at_source) = rw k at its_at in
                rw (e, k)
                (bytes_within (source_bytes w.origin d) h.p.start h.p.length at_source size h.source (omega (arith, (source_in e).1)) ∙
                ap (λ (v : List ℕ). take size (drop at_source v)) seen)
            by_test false k =
                let e : w.at ≡ None = rw k at its_at in
                rw (e, k)

        is_stored : {e : List ℕ} → e ≡ sets d w.place (row_bytes w d)
            → e ≡ stretch_in w h.p h.r first last (past_of w depth) m
        unfolding stretch_in stored
        is_stored e =
            let at_place = place w.tensor w.config coords * size in
            let bytes = element w.tensor w.config source coords in
            e ∙ ap₂ (λ (n : ℕ) (v : List ℕ). sets d n v) its_place bytes_are ∙
            ap (λ (v : List ℕ). sets v (h.r.start + at_place) bytes) stands ∙
            within_sets m (part w.number) bytes h.r.start at_place
            (rw (part_long w.number) (omega (arith, h.destination, same)))
            (rw (part_long w.number) (omega (arith, length_element w.tensor w.config source coords, end, its_place))) ∙
            ap (λ (v : List ℕ). sets m h.r.start v)
            (moved_one w.tensor w.config source first last w.number (bytes_of h.r m) i j ∙
            ap part (sym (one_element w (w.number + 1) z)))

  -- ---- one dimension fewer

  module _ (z : depth ≡ 0 → ⊥) where
    dim : w.tensor.rank - depth < w.tensor.rank
    dim = omega (arith, h.few)

    module _ (x : ℕ) (l : x < at w.answer.extent (w.tensor.rank - depth)) where
      below : x < extent_at w.tensor w.config (w.tensor.rank - depth)
      below = rw (its_extent h.row dim) at l

      pub inward_stands : {d' : List ℕ} → length d' ≡ length d → Stands (inward_of w (w.tensor.rank - depth) x) (depth - 1) d'
      unfolding inward_of
      inward_stands {d'} ld = record {
        p = h.p;
        r = h.r;
        few = omega (arith, h.few);
        row =
            let f : suc (w.tensor.rank - depth) ≡ w.tensor.rank - (depth - 1) = omega (arith, h.few) in
            subst (λ (i : ℕ). RowOf h.p.start h.r.start i (inward_of w (w.tensor.rank - depth) x)) f (inward_row h.row dim x below);
        source = still_held w.origin d d' ld h.source;
        destination = rw ld h.destination;
        apart = h.apart;
        long = h.long;
        enough = h.enough;
      }

-- ---- a turn of the loop

module _ {w : Row} {depth : ℕ} {d : List ℕ} (h : Stands w depth d) (z : depth ≡ 0 → ⊥) (first last : ℕ) where
  abbrev extent : ℕ
  extent = at w.answer.extent (w.tensor.rank - depth)

  -- before the first turn
  pub comes_start : Comes h first last (first_of w depth) (come_to w depth 0) d
  comes_start m u = u ∙ ap (λ (n : ℕ). stretch_in w h.p h.r first last n m) (starts w depth w.number z h.few)

  -- after a turn
  pub comes_more : (x : ℕ) (l : x < extent) {n : Row} (e : n ≡ inward_of w (w.tensor.rank - depth) x) {d' e' : List ℕ} (ld : length d' ≡ length d)
      → Comes h first last (first_of w depth) (come_to w depth x) d'
      → ((g : Stands n (depth - 1) d') → Comes g first last (first_of n (depth - 1)) (past_of n (depth - 1)) e')
      → Comes h first last (first_of w depth) (come_to w depth (x + 1)) e'
  unfolding inward_of inward_stands stretch_in elements_in
  comes_more x l e {d'} {e'} ld f g m u =
      subst (λ (v : Row). (k : Stands v (depth - 1) d') → Comes k first last (first_of v (depth - 1)) (past_of v (depth - 1)) e') e g
      (inward_stands h z x l ld) m (f m u) ∙
      ap (λ (k : ℕ). stretch_in w h.p h.r first last (k * elements_in w (depth - 1)) m) (add_assoc (w.number * extent) x 1)

  -- past the last of the stretch, nothing more is stored
  stretch_past : {n n' : ℕ} (m : List ℕ) → last ≤ n → n ≤ n' → stretch_in w h.p h.r first last n m ≡ stretch_in w h.p h.r first last n' m
  unfolding stretch_in
  stretch_past {n} {n'} m i j =
      let x : min last n ≡ last = min-eq_left i in
      let y : min last n' ≡ last = min-eq_left (omega arith) in
      rw (x, y)

  -- a row that is left early, and one that is gone through
  pub ends_most : (x : ℕ) → x < extent → come_to w depth (x + 1) ≤ past_of w depth
  ends_most x l = rw (ends w depth w.number z h.few) (mul-le-mul_right (elements_in w (depth - 1)) (omega arith))

  pub comes_stopped : (x : ℕ) → x < extent → {e : List ℕ} → last ≤ come_to w depth (x + 1)
      → Comes h first last (first_of w depth) (come_to w depth (x + 1)) e
      → Comes h first last (first_of w depth) (past_of w depth) e
  comes_stopped x l i f m u = f m u ∙ stretch_past m i (ends_most x l)

  pub comes_end : {x : ℕ} {e : List ℕ} → x ≡ extent → Comes h first last (first_of w depth) (come_to w depth x) e
      → Comes h first last (first_of w depth) (past_of w depth) e
  comes_end {x} p f m u =
      f m u ∙ ap (λ (n : ℕ). stretch_in w h.p h.r first last n m)
      (ap (come_to w depth) p ∙ sym (ends w depth w.number z h.few))

-- ---- a row that is one element

module _ {w : Row} {depth : ℕ} {d : List ℕ} (h : Stands w depth d) (z : depth ≡ 0) (first last : ℕ) where
  pub comes_stored : {e : List ℕ} → first ≤ w.number → first_of w depth < last → e ≡ sets d w.place (row_bytes w d)
      → Comes h first last (first_of w depth) (past_of w depth) e
  comes_stored i j f m u = is_stored h z first last m u i (rw (one_element w w.number z) at j) f

  pub comes_passed : {e : List ℕ} → w.number < first → e ≡ d
      → Comes h first last (first_of w depth) (past_of w depth) e
  comes_passed i f m u = f ∙ not_stored h z first last m u i

-- ---- whether more are to come

pub told_one : (w : Row) (depth n last : ℕ) → depth ≡ 0 → ltb n last ≡ ltb (n * elements_in w depth) last
told_one w depth n last z = ap (λ (k : ℕ). ltb k last) (sym (one_element w n z))

-- what the row inside tells
pub told_inside : (w : Row) {n : Row} (i x depth last : ℕ) {b : Bool} → n ≡ inward_of w i x → b ≡ ltb (past_of n depth) last
    → b ≡ ltb ((w.number * at w.answer.extent i + (x + 1)) * elements_in w depth) last
unfolding inward_of elements_in
told_inside w i x depth last {b} e t =
    subst (λ (v : Row). b ≡ ltb (past_of v depth) last) e t ∙
    ap (λ (k : ℕ). ltb (k * elements_in w depth) last) (add_assoc (w.number * at w.answer.extent i) x 1)

-- none after this row, none after a larger one
pub told_none : (b : Bool) (n n' last : ℕ) → not b ≡ true → b ≡ ltb n last → n ≤ n' → (last ≤ n) × (false ≡ ltb n' last)
told_none true n n' last e t l = absurd (true≢false (sym e))
told_none false n n' last e t l = let m = ltb-false n last (sym t) in (m, sym (le-ltb n' last (omega arith)))

pub told_more : (b : Bool) (n last : ℕ) → not b ≡ false → b ≡ ltb n last → n < last
told_more true n last e t = ltb-true n last (sym t)
told_more false n last e t = absurd (true≢false e)

-- before the first row inside, and after the last
module _ {w : Row} {depth : ℕ} {d : List ℕ} (h : Stands w depth d) (z : depth ≡ 0 → ⊥) (last : ℕ) where
  pub before_first : first_of w depth < last
      → come_to w depth 0 < last
  before_first i = rw (starts w depth w.number z h.few) at i

  pub told_end : (x : ℕ) → x ≡ at w.answer.extent (w.tensor.rank - depth)
      → come_to w depth x < last
      → true ≡ ltb (past_of w depth) last
  told_end x e f =
      let n : come_to w depth x ≡ past_of w depth = ap (come_to w depth) e ∙ sym (ends w depth w.number z h.few) in
      sym (lt-ltb (past_of w depth) last (omega (arith, n, f)))

-- a row inside comes before the last of the stretch
pub before_inside : (w : Row) {n : Row} (i x depth last : ℕ) → n ≡ inward_of w i x
    → (w.number * at w.answer.extent i + x) * elements_in w depth < last → first_of n depth < last
unfolding inward_of elements_in
before_inside w i x depth last e l = subst (λ (v : Row). first_of v depth < last) (sym e) l

-- the source of a row inside is the row's
pub source_inside : (w : Row) {n : Row} (i x : ℕ) (d e : List ℕ) → n ≡ inward_of w i x → length e ≡ length d → length (source_bytes w.origin d) < 2 ^ 64
    → length (source_bytes n.origin e) < 2 ^ 64
unfolding inward_of
source_inside w i x d e p l h =
    let k : length (source_bytes w.origin e) ≤ length (source_bytes w.origin d) = still_held w.origin e d (sym l) (omega arith) in
    subst (λ (v : Row). length (source_bytes v.origin e) < 2 ^ 64) (sym p) (omega (arith, k, h))
