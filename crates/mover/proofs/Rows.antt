-- Rows of the plain engine: what a row comes to one dimension further in, and that it lies in what the checks worked out. Assumes
-- nothing.
use Rattle.std.proofs.Common.{◌≡◌, ℕ, zero, suc, ◌+◌, ◌-◌, ◌*◌, ◌/◌, ◌^◌, ◌<◌, ◌≤◌, Bool, true, false, cond, ◌&&◌, ltb, List, Some, None, sym, refl, ap, ◌∙◌, ap₂, mod-lt, add-mul, mul-le-mul, arith, le-ltb, lt-ltb, le-leb}
use borrow.Author.Tests.{lt-leb}
use Rattle.std.specs.Prelude.{Option, option_and_then, IfSome}
use Rattle.std.proofs.lemmas.Option.{cond_some}
use native.Mathlib.Decide.{dec_le, dec_lt}
use lib.Arith.{digits_lt, digits_div, digits_mod}
use Rattle.plane.specs.declared.Tensor.{Tensor}
use Rattle.plane.specs.declared.Config.{Config}
use Rattle.plane.specs.declared.Answer.{Answer}
use Rattle.plane.specs.Arrays.{at, sum, product, every}
use Rattle.plane.specs.Planes.{shape_at, down_at, up, resolved, src_strides, source_at, span}
use Rattle.plane.specs.Moves.{count, dst_extents, dst_strides, need}
use Rattle.plane.proofs.Arrays.{firsts_at, sum_same, every_same, every_each}
use Rattle.plane.proofs.Bounds.{product_most}
use Rattle.plane.proofs.Rules.{dst_extent}
use Rattle.mover.specs.declared.plain.Row.{Row}
use Rattle.mover.specs.Element.{dim_of, k_of, is_kept, place}
use Rattle.mover.specs.Moved.{extent_at}
use Rattle.mover.specs.Private.Rows.{size_of, inward_of, coord_to, source_term, place_term, RowOf, Passable}
use Rattle.mover.proofs.Fitting.{kept_within, home_fits, place_fits}
use Rattle.mover.proofs.Keeping.{range_test, test_range}
use Rattle.mover.proofs.Making.{extent_is}
use Rattle.mover.proofs.Numbers.{digit_last, digit_row}
use Rattle.mover.proofs.Sums.{before_in_bytes}

-- ---- one coordinate more

module _ (t : Tensor) (c : Config) (i q x : ℕ) (h : x < extent_at t c i) where
  to_last : coord_to t c (suc i) (q * extent_at t c i + x) i ≡ x
  to_last = digit_last i (extent_at t c) (q * extent_at t c i + x) ∙ digits_mod q h

  to_row : (j : ℕ) → j < i → coord_to t c (suc i) (q * extent_at t c i + x) j ≡ coord_to t c i q j
  to_row j l =
      digit_row i (extent_at t c) (q * extent_at t c i + x) j l ∙ ap (λ (n : ℕ). coord_to t c i n j) (digits_div q h)

  sum_row : (f : ℕ → ℕ → ℕ) → sum i (λ j. f j (coord_to t c i q j)) + f i x ≡ sum (suc i) (λ j. f j (coord_to t c (suc i) (q * extent_at t c i + x) j))
  unfolding sum
  sum_row f =
      ap₂ (λ (a b : ℕ). a + b) (sum_same i _ _ (λ j l. ap (λ (y : ℕ). f j y) (sym (to_row j l)))) (ap (λ (y : ℕ). f i y) (sym to_last))

  every_row : (f : ℕ → ℕ → Bool) → every i (λ j. f j (coord_to t c i q j)) && f i x ≡ every (suc i) (λ j. f j (coord_to t c (suc i) (q * extent_at t c i + x) j))
  unfolding every
  every_row f =
      ap₂ (λ (a b : Bool). a && b) (every_same i _ _ (λ j l. ap (λ (y : ℕ). f j y) (sym (to_row j l)))) (ap (λ (y : ℕ). f i y) (sym to_last))

-- the test that the code makes of a coordinate x of dimension i
module _ (t : Tensor) (c : Config) (i x : ℕ) where
  abbrev pre : ℕ
  pre = at c.pre (dim_of c i)

  pub is_before : x < pre → is_kept t c i x ≡ false
  unfolding is_kept
  is_before h = rw (lt-leb pre x h)

  module _ {n : ℕ} (e : n ≡ count t c (dim_of c i)) where
    pub is_within : pre ≤ x → x < pre + n → is_kept t c i x ≡ true
    unfolding is_kept
    is_within h l = range_test pre x (count t c (dim_of c i)) (h, omega arith)

    pub is_behind : pre ≤ x → pre + n ≤ x → is_kept t c i x ≡ false
    unfolding is_kept
    is_behind h l = rw (le-leb pre x h, le-ltb (x - pre) (count t c (dim_of c i)) (omega arith))

-- the source's byte, further on if all is kept so far, and here too
further : (k b : Bool) (y z : ℕ) → option_and_then (λ a. cond b (Some (a + z)) None) (cond k (Some y) None) ≡ cond (k && b) (Some (y + z)) None
further true true y z = refl
further true false y z = refl
further false true y z = refl
further false false y z = refl

one_sum : (b s y z : ℕ) → b + s * z + y * z ≡ b + (s + y) * z
one_sum b s y z = rw add-mul (omega arith)

sum_first : (f : ℕ → ℕ) (i n : ℕ) → i ≤ n → sum i f ≤ sum n f
unfolding sum
sum_first f i zero h = let e : i ≡ 0 = omega arith in rw e (omega arith)
sum_first f i (suc n) h = elim (dec_le i n) [
  | yes l ↦ omega (arith, sum_first f i n l)
  | no l ↦ let e : i ≡ suc n = omega arith in rw e (omega arith)
]

-- the source coordinate of coordinate x of dimension i, and how many strides up it lies
abbrev reached : Row → ℕ → ℕ → ℕ
reached w i x = let c = w.config in at c.offset (dim_of c i) + k_of c i x * at c.step (dim_of c i)

abbrev pub lifted : Row → ℕ → ℕ → ℕ
lifted w i x = up (down_at w.tensor (dim_of w.config i)) (shape_at w.tensor (dim_of w.config i)) (reached w i x)

-- ---- what acceptance tells of destination dimension i

module _ {p r i : ℕ} {w : Row} (g : RowOf p r i w) (h : i < w.tensor.rank) where
  pub its_extent : at w.answer.extent i ≡ extent_at w.tensor w.config i
  its_extent = ap (λ (a : Answer). at a.extent i) g.answer

  its_stride : at w.answer.stride i ≡ at (dst_strides w.tensor w.config) i
  its_stride = ap (λ (a : Answer). at a.stride i) g.answer

  its_source_stride : at w.source.stride (dim_of w.config i) ≡ at (src_strides w.tensor) (dim_of w.config i)
  its_source_stride = ap (λ (l : List ℕ). at l (dim_of w.config i)) g.strides

  pub extent_small : (0 < extent_at w.tensor w.config i) × (extent_at w.tensor w.config i ≤ 65535)
  extent_small = dst_extent g.good_config i g.good_source.rank.1 h

  stride_small : at w.answer.stride i ≤ 2147483647
  stride_small =
      rw (its_stride, firsts_at 0 w.tensor.rank (resolved w.tensor.rank (at (dst_extents w.tensor w.config)) (at w.config.dst_stride)) i g.good_source.rank.1 h)
      (g.good_dst.strides.most i h)

  -- ---- the row at coordinate x of the dimension

  module _ (x : ℕ) (l : x < extent_at w.tensor w.config i) where
    abbrev number : ℕ
    number = w.number * extent_at w.tensor w.config i + x

    its_number : (inward_of w i x).number ≡ number
    unfolding inward_of
    its_number = ap (λ (e : ℕ). w.number * e + x) its_extent

    -- where the source's byte comes to, if b tells whether all is kept so far
    pub its_from : (b : Bool) (y : ℕ) → w.at ≡ cond b (Some y) None
        → (inward_of w i x).at ≡ cond (b && is_kept w.tensor w.config i x) (Some (y + source_term w.tensor w.config i x * size_of w)) None
    unfolding inward_of
    its_from b y e =
        let k = is_kept w.tensor w.config i x in
        ap₂ (λ (o : Option ℕ) (s : ℕ). option_and_then (λ a. cond k (Some (a + lifted w i x * s * size_of w)) None) o) e its_source_stride ∙
        further b k y (lifted w i x * at (src_strides w.tensor) (dim_of w.config i) * size_of w)

    its_to : (inward_of w i x).place ≡ w.place + place_term w.tensor w.config i x * size_of w
    unfolding inward_of
    its_to = ap (λ (s : ℕ). w.place + (at w.config.dst_offset i + x) * s * size_of w) its_stride

    pub inward_row : RowOf p r (suc i) (inward_of w i x)
    unfolding inward_of product
    inward_row =
        let t = w.tensor in
        let c = w.config in
        let z = size_of w in
        record {
          good_source = g.good_source;
          good_config = g.good_config;
          good_dst = g.good_dst;
          answer = g.answer;
          strides = g.strides;
          within = rw its_number (digits_lt g.within l);
          at_source =
              its_from _ _ g.at_source ∙
              ap₂ (λ (b : Bool) (y : ℕ). cond b (Some y) None)
              (every_row t c i w.number x l (is_kept t c))
              (one_sum p (sum i (λ j. source_term t c j (coord_to t c i w.number j))) (source_term t c i x) z ∙
              ap (λ (y : ℕ). p + y * z) (sum_row t c i w.number x l (source_term t c))) ∙
              ap (λ (n : ℕ). cond (every (suc i) (λ j. is_kept t c j (coord_to t c (suc i) n j))) (Some (p + sum (suc i) (λ j. source_term t c j (coord_to t c (suc i) n j)) * z)) None) (sym its_number);
          at_place =
              its_to ∙ ap (λ (f : ℕ). f + place_term t c i x * z) g.at_place ∙
              one_sum r (sum i (λ j. place_term t c j (coord_to t c i w.number j))) (place_term t c i x) z ∙
              ap (λ (y : ℕ). r + y * z) (sum_row t c i w.number x l (place_term t c)) ∙
              ap (λ (n : ℕ). r + sum (suc i) (λ j. place_term t c j (coord_to t c (suc i) n j)) * z) (sym its_number);
        }

-- ---- where a row lies

-- what holds of the byte in the source, if there is one
pub if_some : (o : Option ℕ) {P : ℕ → Type 0} → ((a : ℕ) → o ≡ Some a → P a) → IfSome o P
if_some None f = tt
if_some (Some a) f = f a refl

-- what is kept of dimension i
kept_below : (t : Tensor) (c : Config) (i x : ℕ) → is_kept t c i x ≡ true → (at c.pre (dim_of c i) ≤ x) × (k_of c i x < count t c (dim_of c i))
unfolding is_kept
kept_below t c i x e = test_range (at c.pre (dim_of c i)) x (count t c (dim_of c i)) e

-- an element at s, no further than n, ends within m bytes, where the one at n does
ends_within : (b : ℕ) {s n : ℕ} (z : ℕ) {m : ℕ} → s ≤ n → (1 + n) * z ≤ m → b + s * z + z ≤ b + m
ends_within b {s} {n} z h k = let u : s < 1 + n = omega arith in omega (arith, before_in_bytes z u)

-- a function of j up to i, and 0 from there
abbrev upto : ℕ → (ℕ → ℕ) → ℕ → ℕ
upto i f j = cond (ltb j i) (f j) 0

upto_most : (i : ℕ) (f m : ℕ → ℕ) (j : ℕ) → (j < i → f j ≤ m j) → upto i f j ≤ m j
upto_most i f m j h = elim (dec_lt j i) [
  | yes l ↦ rw (lt-ltb j i l) (h l)
  | no l ↦ rw (le-ltb j i (omega arith)) (omega arith)
]

module _ {p r i : ℕ} {w : Row} (g : RowOf p r i w) (h : i ≤ w.tensor.rank) where
  pub to_fits : w.place + size_of w ≤ r + need w.tensor w.config
  unfolding place
  to_fits =
      let t = w.tensor in
      let c = w.config in
      let x = coord_to t c i w.number in
      rw g.at_place
      (ends_within r (size_of w) (sum_first (λ j. place_term t c j (x j)) i t.rank h)
      (place_fits g.good_config x (λ j k. mod-lt (w.number / product (i - suc j) (λ k. extent_at t c (suc j + k))) (dst_extent g.good_config j g.good_source.rank.1 k).0)))

  pub from_fits : {a : ℕ} → w.at ≡ Some a → (p ≤ a) × (a + size_of w ≤ p + span w.tensor)
  from_fits {a} e =
      let t = w.tensor in
      let c = w.config in
      let k : ℕ → ℕ = λ j. k_of c j (coord_to t c i w.number j) in
      let all_kept = λ (j : ℕ). is_kept t c j (coord_to t c i w.number j) in
      let u = cond_some (every i all_kept) (p + sum i (λ j. source_term t c j (coord_to t c i w.number j)) * size_of w) a (sym g.at_source ∙ e) in
      let term : ℕ → ℕ → ℕ = λ j n. source_at t (dim_of c j) (at c.offset (dim_of c j) + n * at c.step (dim_of c j)) in
      let same : sum i (λ j. term j (k j)) ≡ sum i (λ j. term j (upto i k j)) = sum_same i _ _ (λ j l. rw (lt-ltb j i l)) in
      let each = every_each all_kept i u.0 in (
        omega (arith, u.1),
        rw (← u.1, same)
            (ends_within p (size_of w) (sum_first (λ j. term j (upto i k j)) i t.rank h)
            (home_fits g.good_config (upto i k)
            (λ j _. upto_most i k (λ j. count t c (dim_of c j) - 1) j (λ l. omega (arith, (kept_below t c j (coord_to t c i w.number j) (each j l)).1))))),
      )

-- ---- a step inward

module _ {w : Row} {i x : ℕ} (g : Passable w i x) where
  next : RowOf g.p g.r (suc i) (inward_of w i x)
  next = inward_row g.row g.dim x g.below

  pass_four : i < 4
  pass_four = omega (arith, g.dim, g.row.good_source.rank.1)

  pass_source_dim : dim_of w.config i < w.tensor.rank
  pass_source_dim = g.row.good_config.perm i g.dim

  pub pass_parts : at w.config.pre (dim_of w.config i) + count w.tensor w.config (dim_of w.config i) ≤ 65535
  pass_parts = omega (arith, extent_is w.config g.row.good_source i g.dim, (extent_small g.row g.dim).1)

  pub pass_number : w.number * at w.answer.extent i + x < 2 ^ 64
  unfolding inward_of
  pass_number =
      omega (
        arith,
        next.within,
        product_most (suc i) (extent_at w.tensor w.config) pass_four
            (λ j h. (dst_extent g.row.good_config j g.row.good_source.rank.1 (omega (arith, g.dim))).1),
      )

  pub pass_offset : at w.config.dst_offset i + x ≤ 131070
  pass_offset = omega (arith, g.row.good_dst.offset i g.dim, g.below, (extent_small g.row g.dim).1)

  pass_stride : at w.answer.stride i ≤ 2147483647
  pass_stride = stride_small g.row g.dim

  pub pass_place : (at w.config.dst_offset i + x) * at w.answer.stride i ≤ 131070 * 2147483647
  pass_place = mul-le-mul pass_offset pass_stride

  pub pass_to : w.place + (at w.config.dst_offset i + x) * at w.answer.stride i * size_of w < 2 ^ 64
  unfolding inward_of
  pass_to = omega (arith, to_fits next g.dim, g.end)

  module _ (k : is_kept w.tensor w.config i x ≡ true) where
    pub pass_at : reached w i x < shape_at w.tensor (dim_of w.config i)
    pass_at =
        omega (
          arith,
          kept_within g.row.good_config (dim_of w.config i) (k_of w.config i x) pass_source_dim (omega (arith, (kept_below w.tensor w.config i x k).1)),
          (g.row.good_source.shape (dim_of w.config i) pass_source_dim).0,
        )

    pub pass_shape : shape_at w.tensor (dim_of w.config i) ≤ 65535
    pass_shape = (g.row.good_source.shape (dim_of w.config i) pass_source_dim).1

    pub pass_from : {a : ℕ} → w.at ≡ Some a → a + lifted w i x * at w.source.stride (dim_of w.config i) * size_of w < 2 ^ 64
    unfolding inward_of
    pass_from {a} e =
        let far = lifted w i x * at w.source.stride (dim_of w.config i) * size_of w in
        let f : (inward_of w i x).at ≡ Some (a + far) = rw (e, k) in
        omega (arith, (from_fits next g.dim f).1, g.source_end)
