-- The plain engine's rows: the elements that have the same coordinates in the first dimensions.
use Rattle.std.specs.Prelude.{◌≡◌, ℕ, suc, ◌+◌, ◌-◌, ◌*◌, ◌/◌, ◌%◌, ◌^◌, ◌<◌, ◌≤◌, min, cond, List, length, take, drop, slice_index, Some, None, IfSome, option_map, option_and_then, unwrap_or}
use Rattle.std.proofs.lemmas.List.Edits.{sets}
use Rattle.plane.specs.declared.Tensor.{Tensor}
use Rattle.plane.specs.declared.Config.{Config}
use Rattle.plane.specs.Arrays.{at, sum, product, every}
use Rattle.plane.specs.Numbers.{little}
use Rattle.plane.specs.Planes.{Sized, shape_at, down_at, up, src_strides, source_at, span, source_of}
use Rattle.plane.specs.Moves.{dst_strides, need, accepted, room_of}
use Rattle.plane.specs.Good.{GoodSource, GoodConfig, GoodDst}
use Rattle.parts.specs.declared.Part.{Part}
use Rattle.parts.specs.Parts.{bytes_of}
use Rattle.mover.specs.declared.elements.Origin.{Origin}
use Rattle.mover.specs.declared.plain.Row.{Row}
use Rattle.mover.specs.Element.{dim_of, k_of, is_kept}
use Rattle.mover.specs.Moved.{extent_at, moved}
use Rattle.mover.specs.Private.Elements.{source_bytes}
use Rattle.mover.specs.Private.Runs.{BytesApart}

-- ---- one element

-- the element size
abbrev pub size_of : Row → ℕ
size_of w = w.tensor.element_size

-- the bytes of a row that is one element, the source's or else the fill's; and byte b of them, as the code works it out
abbrev pub row_bytes : Row → List ℕ → List ℕ
row_bytes w d =
    unwrap_or (option_map (λ a. take (size_of w) (drop a (source_bytes w.origin d))) w.at) (little (size_of w) w.config.fill)

abbrev pub row_byte : Row → List ℕ → ℕ → ℕ
row_byte w d b =
    unwrap_or (option_map (λ a. slice_index (source_bytes w.origin d) (a + b)) w.at) (w.config.fill / 2 ^ (8 * b) % 256)

-- the destination d with it stored
abbrev pub row_stored : Row → List ℕ → List ℕ
row_stored w d = sets d w.place (row_bytes w d)

-- such a row can be stored into d
pub record Storable (w : Row) (d : List ℕ) : Type 0 where
  pub sized : Sized (size_of w)
  pub source : IfSome w.at (λ a. a + size_of w ≤ length (source_bytes w.origin d))
  pub destination : w.place + size_of w ≤ length d
  pub apart : IfSome w.at (λ a. BytesApart w.origin a (a + size_of w) w.place (w.place + size_of w))

-- ---- rows in rows

-- the destination as one row, from the source's bytes at p to its own at r
abbrev pub outermost_of : Tensor → Config → Origin → ℕ → ℕ → Row
outermost_of t c o p r = record {
  tensor = t;
  config = c;
  origin = o;
  source = source_of t;
  answer = (room_of t c).answer;
  number = 0;
  at = Some p;
  place = r;
}

-- the row at coordinate x of destination dimension i
unfoldable pub inward_of : Row → ℕ → ℕ → Row
inward_of w i x =
    let c = w.config in
    let a = w.answer in
    let s = dim_of c i in
    let y = at c.offset s + k_of c i x * at c.step s in
    let far = up (down_at w.tensor s) (shape_at w.tensor s) y * at w.source.stride s * size_of w in
    record {
      tensor = w.tensor;
      config = c;
      origin = w.origin;
      source = w.source;
      answer = a;
      number = w.number * at a.extent i + x;
      at = option_and_then (λ b. cond (is_kept w.tensor c i x) (Some (b + far)) None) w.at;
      place = w.place + (at c.dst_offset i + x) * at a.stride i * size_of w;
    }

-- how many elements a row of that depth has
unfoldable pub elements_in : Row → ℕ → ℕ
elements_in w depth = product depth (λ k. at w.answer.extent (w.tensor.rank - depth + k))

-- the number of a row's first element, and of the first past it
abbrev pub first_of : Row → ℕ → ℕ
first_of w depth = w.number * elements_in w depth

abbrev pub past_of : Row → ℕ → ℕ
past_of w depth = (w.number + 1) * elements_in w depth

-- coordinate j of row number q past the first i dimensions
abbrev pub coord_to : Tensor → Config → ℕ → ℕ → ℕ → ℕ
coord_to t c i q j = q / product (i - suc j) (λ k. extent_at t c (suc j + k)) % extent_at t c j

-- what coordinate x of dimension i adds to the places, in elements
abbrev pub source_term : Tensor → Config → ℕ → ℕ → ℕ
source_term t c i x = source_at t (dim_of c i) (at c.offset (dim_of c i) + k_of c i x * at c.step (dim_of c i))

abbrev pub place_term : Tensor → Config → ℕ → ℕ → ℕ
place_term t c i x = (at c.dst_offset i + x) * at (dst_strides t c) i

-- a row past the first i dimensions of an accepted move from the bytes at p to those at r
pub record RowOf (p r i : ℕ) (w : Row) : Type 0 where
  -- the move is accepted, and the row carries its answer and the source's strides
  pub good_source : GoodSource w.tensor
  pub good_config : GoodConfig w.tensor w.config
  pub good_dst : GoodDst w.tensor w.config
  pub answer : w.answer ≡ accepted w.tensor w.config
  pub strides : w.source.stride ≡ src_strides w.tensor
  -- its number is that of a row; and the places so far are those of its coordinates, the source's if all is kept so far
  pub within : w.number < product i (extent_at w.tensor w.config)
  pub at_source :
      w.at ≡ cond (every i (λ j. is_kept w.tensor w.config j (coord_to w.tensor w.config i w.number j)))
      (Some (p + sum i (λ j. source_term w.tensor w.config j (coord_to w.tensor w.config i w.number j)) * size_of w)) None
  pub at_place :
      w.place ≡ r + sum i (λ j. place_term w.tensor w.config j (coord_to w.tensor w.config i w.number j)) * size_of w

-- what a step inward asks: a row, a dimension that it has left, a coordinate of it, and that no place runs past 64 bits
pub record Passable (w : Row) (i x : ℕ) : Type 0 where
  pub p : ℕ
  pub r : ℕ
  pub row : RowOf p r i w
  pub dim : i < w.tensor.rank
  pub below : x < extent_at w.tensor w.config i
  pub source_end : p + span w.tensor < 2 ^ 64
  pub end : r + need w.tensor w.config < 2 ^ 64

-- a row of that depth, of an accepted move from the part p of the source to the part r of d
pub record Stands (w : Row) (depth : ℕ) (d : List ℕ) : Type 0 where
  pub p : Part
  pub r : Part
  pub few : depth ≤ w.tensor.rank
  pub row : RowOf p.start r.start (w.tensor.rank - depth) w
  -- both parts lie where they should, apart, and are long enough
  pub source : p.start + p.length ≤ length (source_bytes w.origin d)
  pub destination : r.start + r.length ≤ length d
  pub apart : BytesApart w.origin p.start (p.start + p.length) r.start (r.start + r.length)
  pub long : span w.tensor ≤ p.length
  pub enough : need w.tensor w.config ≤ r.length

-- the memory m with those of the elements first to end - 1 stored that are numbered below n: of the move that a row is of
unfoldable pub stretch_in : Row → Part → Part → ℕ → ℕ → ℕ → List ℕ → List ℕ
stretch_in w p r first end n m =
    sets m r.start (moved w.tensor w.config (bytes_of p (source_bytes w.origin m)) first (min end n - first) (bytes_of r m))

-- what the plain engine leaves, e: if the destination had come to element number n of a memory m, it has come to number n'
abbrev pub Comes : {w : Row} {depth : ℕ} {d : List ℕ} → Stands w depth d → ℕ → ℕ → ℕ → ℕ → List ℕ → Type 0
Comes {w} {depth} {d} h first end n n' e =
    (m : List ℕ) → d ≡ stretch_in w h.p h.r first end n m → e ≡ stretch_in w h.p h.r first end n' m
