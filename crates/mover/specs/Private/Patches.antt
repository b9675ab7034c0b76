-- Patches: rows and columns of elements, and what moving one leaves.
use Rattle.std.specs.Prelude.{◌≡◌, ℕ, zero, suc, ◌+◌, ◌*◌, ◌%◌, ◌^◌, ◌<◌, ◌≤◌, cond, ◌⊎◌, List, length, take, drop, replicate, ◌==◌}
use Rattle.plane.specs.Planes.{Sized}
use Rattle.mover.specs.declared.plan.Plan.{Plan}
use Rattle.mover.specs.declared.patches.Patch.{Patch}
use Rattle.mover.specs.declared.tiles.Tile.{Tile}
use Rattle.mover.specs.declared.tiles.Tile.TheVariants.{Turned, Split, Merged}
use Rattle.mover.specs.declared.strips.Step.{Step}
use Rattle.mover.specs.declared.elements.Course.{Course}
use Rattle.mover.specs.declared.elements.Origin.{Origin}
use Rattle.mover.specs.Private.Elements.{source_bytes, Short, padding}
use Rattle.mover.specs.Private.Adding.{along}
use Rattle.mover.specs.Private.Runs.{run_stored, BytesApart}

-- n rows of m elements, whose bytes e tells: row i starts i times s on from `to`, and its elements are t apart
unfoldable pub rows_stored : (ℕ → ℕ → List ℕ) → ℕ → ℕ → ℕ → ℕ → ℕ → List ℕ → List ℕ
rows_stored e to s t m zero d = d
rows_stored e to s t m (suc n) d = run_stored (e n) (along to s n) t m (rows_stored e to s t m n d)

-- element (i, j) of a patch: where it is stored, where its source stands, and its bytes
abbrev pub patch_place : Patch → ℕ → ℕ → ℕ
patch_place p i j = along (along p.to p.row_stride i) p.stride j

abbrev pub patch_home : Patch → ℕ → ℕ → ℕ
patch_home p i j = along (along p.at p.row_jump i) p.jump j

abbrev pub patch_bytes : List ℕ → Patch → ℕ → ℕ → List ℕ
patch_bytes s p i j = take p.size (drop (patch_home p i j) s)

-- what is left of the destination d, from a source that stands in s or in d; and where all is padding
abbrev pub patch_stored : (ℕ → ℕ → List ℕ) → Patch → List ℕ → List ℕ
patch_stored e p d = rows_stored e p.to p.row_stride p.stride p.columns p.rows d

abbrev pub patch_copied : Origin → List ℕ → Patch → List ℕ
patch_copied o d p = patch_stored (patch_bytes (source_bytes o d) p) p d

abbrev pub patch_padded : List ℕ → Patch → List ℕ
patch_padded d p = patch_stored (λ i j. padding p.size p.pad) p d

-- rows and columns exchanged
abbrev pub swapped_of : Patch → Patch
swapped_of p = record {
  at = p.at;
  to = p.to;
  size = p.size;
  pad = p.pad;
  rows = p.columns;
  row_jump = p.jump;
  row_stride = p.stride;
  columns = p.rows;
  jump = p.row_jump;
  stride = p.row_stride;
}

-- a row of a patch, the first element at `at` and to `to`
abbrev pub patch_row : Patch → ℕ → ℕ → Course
patch_row p at to = record { at = at; jump = p.jump; to = to; stride = p.stride; size = p.size; pad = p.pad; n = p.columns }

-- n rows of `width` bytes, which stand in an array one after the other, to `to` and each a stride further
abbrev pub rows_in : ℕ → ℕ → ℕ → ℕ → Course
rows_in width n to stride = record { at = 0; jump = width; to = to; stride = stride; size = width; pad = replicate 4 0; n = n }

-- what a patch asks of the destination d: its elements lie in it, and no two share a byte
pub record PatchFits (d : List ℕ) (p : Patch) : Type 0 where
  pub sized : Sized p.size
  pub held : (i j : ℕ) → i < p.rows → j < p.columns → patch_place p i j + p.size ≤ length d
  pub off : (i j k l : ℕ) → i < p.rows → k < p.rows → j < p.columns → l < p.columns → ((i ≡ k) × (j ≡ l) → ⊥)
      → (patch_place p i j + p.size ≤ patch_place p k l) ⊎ (patch_place p k l + p.size ≤ patch_place p i j)

-- and, where it is kept, of the source: its elements lie in it, and none shares a byte with one of the destination
pub record PatchReads (o : Origin) (d : List ℕ) (p : Patch) : Type 0 where
  pub short : Short o
  pub held : (i j : ℕ) → i < p.rows → j < p.columns → patch_home p i j + p.size ≤ length (source_bytes o d)
  pub parted : (i j k l : ℕ) → i < p.rows → j < p.columns → k < p.rows → l < p.columns
      → BytesApart o (patch_home p i j) (patch_home p i j + p.size) (patch_place p k l) (patch_place p k l + p.size)

-- ---- what a way needs

-- there are rows, and each is a run of bytes
pub record Lines (p : Patch) : Type 0 where
  pub some : 0 < p.rows
  pub jump : p.jump ≡ p.size
  pub stride : p.stride ≡ p.size

-- rows and columns are exchanged: what is side by side in a row of the destination is so in a column of the source
pub record Turns (p : Patch) : Type 0 where
  pub size : p.size ≡ 3 → ⊥
  pub jump : p.row_jump ≡ p.size
  pub stride : p.stride ≡ p.size

-- how many elements 16 bytes have, and as many times j
abbrev pub sixteenth_of : ℕ → ℕ
sixteenth_of z = cond (z == 4) 4 (cond (z == 2) 8 16)

abbrev pub across_of : ℕ → ℕ → ℕ
across_of z j = sixteenth_of z * j % 2 ^ 64

-- the rows of a patch are those of one tile
pub record TurnedRows (p : Patch) : Type 0 where
  pub turns : Turns p
  pub rows : p.rows ≡ sixteenth_of p.size

pub record SplitRows (p : Patch) : Type 0 where
  pub size : p.size ≡ 1
  pub rows : p.rows ≡ 3
  pub row_jump : p.row_jump ≡ 1
  pub jump : p.jump ≡ 3
  pub stride : p.stride ≡ 1

pub record MergedRows (p : Patch) : Type 0 where
  pub size : p.size ≡ 1
  pub rows : p.rows ≡ 3
  pub row_stride : p.row_stride ≡ 1
  pub jump : p.jump ≡ 1
  pub stride : p.stride ≡ 3

abbrev pub Tiled : Tile → Patch → Type 0
Tiled Turned p = TurnedRows p
Tiled Split p = SplitRows p
Tiled Merged p = MergedRows p

-- from a tile to the next
abbrev pub tile_step : Tile → Patch → Step
tile_step Turned p = record { columns = sixteenth_of p.size; jump = across_of p.size p.jump; stride = 16 }
tile_step Split p = record { columns = 32; jump = 96; stride = 32 }
tile_step Merged p = record { columns = 16; jump = 16; stride = 48 }

abbrev pub tile_columns : Tile → Patch → ℕ
tile_columns t p = (tile_step t p).columns

-- columns of a plan's rows, of which the first stands at `at` and goes to `to`
abbrev pub patch_of : Plan → ℕ → ℕ → ℕ → ℕ → Patch
patch_of p at to rows columns = record {
  at = at;
  to = to;
  size = p.size;
  pad = p.pad;
  rows = rows;
  row_jump = p.d2.jump;
  row_stride = p.d2.stride;
  columns = columns;
  jump = p.d3.jump;
  stride = p.d3.stride;
}
