-- Bands: whole rows that are all kept or all padding, moved together.
use Rattle.std.specs.Prelude.{◌≡◌, ℕ, MatchOption, ◌+◌, ◌*◌, ◌<◌, ◌≤◌, Bool, true, cond, ◌&&◌, ◌⊎◌, List, length, take, drop}
use Rattle.plane.specs.Planes.{Sized}
use Rattle.mover.specs.declared.plan.Axis.{Axis}
use Rattle.mover.specs.declared.plan.Plan.{Plan}
use Rattle.mover.specs.declared.spots.Spot.{Spot}
use Rattle.mover.specs.declared.spots.Spots.{Spots}
use Rattle.mover.specs.declared.bands.Band.{Band}
use Rattle.mover.specs.declared.bands.Frame.{Frame}
use Rattle.mover.specs.declared.elements.Origin.{Origin}
use Rattle.mover.specs.Private.Elements.{source_bytes, Short, axis_kept, padding}
use Rattle.mover.specs.Private.Adding.{along, spot_at}
use Rattle.mover.specs.Private.Ready.{GoodAxis}
use Rattle.mover.specs.Private.Runs.{BytesApart}
use Rattle.mover.specs.Private.Patches.{rows_stored}

-- element j of row i of a band whose first row starts at u: where it is stored, where its source stands, whether it is kept, its bytes
abbrev pub band_place : Plan → Spot → ℕ → ℕ → ℕ
band_place p u i j = along (along u.to p.d2.stride i) p.d3.stride j

abbrev pub band_home : Plan → Spot → ℕ → ℕ → ℕ
band_home p u i j = along (spot_at u p.d3 j).at p.d2.jump i

abbrev pub band_bytes : Plan → List ℕ → Spot → Bool → ℕ → ℕ → List ℕ
band_bytes p s u kept i j = cond (kept && axis_kept p.d3 j) (take p.size (drop (band_home p u i j) s)) (padding p.size p.pad)

-- what is left of the destination d
abbrev pub band_moved : Origin → Plan → List ℕ → Spot → Band → List ℕ
band_moved o p d u b =
    rows_stored (band_bytes p (source_bytes o d) u b.kept) u.to p.d2.stride p.d3.stride p.d3.extent b.rows d

-- a band may have some rows; where what is kept of a row begins, and where padding goes on behind it, if there is any, in bytes from the
-- row's start
pub record Framed (x : Axis) (f : Frame) : Type 0 where
  pub most : 0 < f.most
  pub front : f.front ≡ x.pre * x.stride
  pub rear : MatchOption f.rear (x.extent ≤ x.pre + x.count) (λ r. r ≡ (x.pre + x.count) * x.stride)

-- b is a band from coordinate c on, each row of e elements; `outer` tells whether the coordinates outside of it are kept
pub record BandAt (x : Axis) (e : ℕ) (outer : Bool) (c left : ℕ) (b : Band) : Type 0 where
  pub some : 0 < b.rows
  pub within : c + b.rows ≤ x.extent
  pub same : (k : ℕ) → k < b.rows → (outer && axis_kept x (c + k)) ≡ b.kept
  pub elements : b.elements ≡ b.rows * e
  pub paid : b.elements ≤ left

-- what a band asks: its elements lie in destination and source, no source element shares a byte with a destination element, and no two
-- destination elements do
pub record Banded (o : Origin) (p : Plan) (d : List ℕ) (u : Spot) (b : Band) : Type 0 where
  pub short : Short o
  pub sized : Sized p.size
  pub axis : GoodAxis p.d3
  pub places : (i j : ℕ) → i < b.rows → j < p.d3.extent → band_place p u i j + p.size ≤ length d
  pub homes : (i j : ℕ) → i < b.rows → (b.kept && axis_kept p.d3 j) ≡ true → band_home p u i j + p.size ≤ length (source_bytes o d)
  pub parted : (i j k l : ℕ) → i < b.rows → (b.kept && axis_kept p.d3 j) ≡ true → k < b.rows → l < p.d3.extent
      → BytesApart o (band_home p u i j) (band_home p u i j + p.size) (band_place p u k l) (band_place p u k l + p.size)
  pub off : (i j k l : ℕ) → i < b.rows → k < b.rows → j < p.d3.extent → l < p.d3.extent → ((i ≡ k) × (j ≡ l) → ⊥)
      → (band_place p u i j + p.size ≤ band_place p u k l) ⊎ (band_place p u k l + p.size ≤ band_place p u i j)

-- the spots of row c
abbrev pub behind_rows : Spots → Axis → ℕ → Spots
behind_rows s x c = let n = spot_at s.layer x c in record { slab = s.slab; layer = s.layer; row = n; here = n }
