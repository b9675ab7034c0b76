-- From a tile to the next. Assumes nothing.
use Rattle.std.proofs.Common.{◌≡◌, ℕ, ◌+◌, ◌*◌, ◌%◌, ◌^◌, ◌<◌, Bool, true, false, cond, eqb, refl, ap, ◌∙◌, add_comm, arith}
use native.Mathlib.Nat.{mod-add-mod}
use native.Mathlib.Decide.{dec_lt}
use Rattle.plane.specs.Planes.{Sized}
use Rattle.plane.proofs.Bounds.{element_small}
use Rattle.mover.specs.declared.patches.Patch.{Patch}
use Rattle.mover.specs.declared.tiles.Tile.{Tile}
use Rattle.mover.specs.declared.tiles.Tile.TheVariants.{Turned, Split, Merged}
use Rattle.mover.specs.Private.Adding.{along}
use Rattle.mover.specs.Private.Patches.{swapped_of, sixteenth_of, tile_step, tile_columns, Tiled}
use Rattle.mover.proofs.Patched.{some_rows}

-- some columns of a patch, the first at `at` and to `to`
abbrev pub some_columns : Patch → ℕ → ℕ → ℕ → Patch
some_columns p at to n = swapped_of (some_rows (swapped_of p) at to n)

-- ---- how many columns a tile has

pub sixteenth_some : (z : ℕ) → 0 < sixteenth_of z
sixteenth_some z = one_of (eqb z 4) (eqb z 2)
  where
    one_of : (a b : Bool) → 0 < cond a 4 (cond b 8 16)
    one_of true b = omega arith
    one_of false true = omega arith
    one_of false false = omega arith

pub tile_some : (t : Tile) (p : Patch) → 0 < tile_columns t p
tile_some Turned p = sixteenth_some p.size
tile_some Split p = omega arith
tile_some Merged p = omega arith

-- as many elements of 1, 2 or 4 bytes as 16 bytes have
pub sixteen : (z : ℕ) → Sized z → (z ≡ 3 → ⊥) → sixteenth_of z * z ≡ 16
sixteen z h n =
    let b = element_small z h in
    elim (dec_lt z 2) [
      | yes l ↦ let e : z ≡ 1 = omega arith in rw e
      | no l ↦ elim (dec_lt z 3) [
        | yes m ↦ let e : z ≡ 2 = omega arith in rw e
        | no m ↦ elim (dec_lt z 4) [
          | yes k ↦ absurd (n (omega arith))
          | no k ↦ let e : z ≡ 4 = omega arith in rw e
        ]
      ]
    ]

-- ---- the tile's rows

pub tiled_part : (t : Tile) (p : Patch) (at to n : ℕ) → Tiled t p → Tiled t (some_columns p at to n)
tiled_part Turned p at to n h = record { turns = record { size = h.turns.size; jump = h.turns.jump; stride = h.turns.stride }; rows = h.rows }
tiled_part Split p at to n h = record { size = h.size; rows = h.rows; row_jump = h.row_jump; jump = h.jump; stride = h.stride }
tiled_part Merged p at to n h = record { size = h.size; rows = h.rows; row_stride = h.row_stride; jump = h.jump; stride = h.stride }

pub tile_part : (t : Tile) (p : Patch) (at to n : ℕ) → tile_columns t (some_columns p at to n) ≡ tile_columns t p
tile_part Turned p at to n = refl
tile_part Split p at to n = refl
tile_part Merged p at to n = refl

-- ---- places

-- n times j on, added at once
pub far : (a n j : ℕ) {x b : ℕ} → x ≡ n * j % 2 ^ 64 → b ≡ (a + x) % 2 ^ 64 → b ≡ along a j n
unfolding along
far a n j e g =
    g ∙ rw e
    (ap (λ (y : ℕ). y % 2 ^ 64) (add_comm a (n * j % 2 ^ 64)) ∙ mod-add-mod (n * j) (2 ^ 64) a ∙ ap (λ (y : ℕ). y % 2 ^ 64) (add_comm (n * j) a))

near : (a n j : ℕ) {x b : ℕ} → n * j ≡ x → b ≡ (a + x) % 2 ^ 64 → b ≡ along a j n
unfolding along
near a n j e g = g ∙ rw e

pub sixteen_on : (a : ℕ) (z j : ℕ) {b : ℕ} → Sized z → (z ≡ 3 → ⊥) → j ≡ z → b ≡ (a + 16) % 2 ^ 64 → b ≡ along a j (sixteenth_of z)
sixteen_on a z j h n e g = near a (sixteenth_of z) j (rw e (sixteen z h n)) g

-- the next tile
pub tile_home : (t : Tile) (p : Patch) → Sized p.size → Tiled t p → (at : ℕ) {b : ℕ} → b ≡ (at + (tile_step t p).jump) % 2 ^ 64 → b ≡ along at p.jump (tile_columns t p)
tile_home Turned p s h at g = far at (sixteenth_of p.size) p.jump refl g
tile_home Split p s h at g = near at 32 p.jump (rw h.jump) g
tile_home Merged p s h at g = near at 16 p.jump (rw h.jump) g

pub tile_place : (t : Tile) (p : Patch) → Sized p.size → Tiled t p → (to : ℕ) {b : ℕ} → b ≡ (to + (tile_step t p).stride) % 2 ^ 64 → b ≡ along to p.stride (tile_columns t p)
tile_place Turned p s h to g = sixteen_on to p.size p.stride s h.turns.size h.turns.stride g
tile_place Split p s h to g = near to 32 p.stride (rw h.stride) g
tile_place Merged p s h to g = near to 16 p.stride (rw h.stride) g
