-- What is claimed of a pixel: its refusals, and that it is what the whole move stores there.
use Rattle.std.specs.Prelude.{◌≡◌, ℕ, ◌+◌, ◌<◌, ◌≤◌, true, false, ◌↔◌, List, length, ◌≢◌, slice_index}
use Rattle.faults.specs.Exactness.{Exact}
use Rattle.plane.specs.declared.Tensor.{Tensor}
use Rattle.plane.specs.declared.Config.{Config}
use Rattle.plane.specs.Arrays.{at, zeros}
use Rattle.plane.specs.Moves.{need, judge_of}
use Rattle.mover.specs.Moved.{move_memory}
use Rattle.mover.specs.Demand2.{IsCoordinate, KeptAt, byte_at, end_at, RestStays, Accepted}
use Rattle.mover.specs.Pixel.{pixel_rules, pixel_of}

-- ---- Refusals

-- every answer is exact for the rules of a pixel
abbrev pub PixelExact : Type 0
PixelExact =
    (t : Tensor) (c : Config) (src x : List ℕ) →
    let p = pixel_of t c src x in Exact (pixel_rules t c (length src) x) p.status p.dim

-- besides its number and dimension a refused one has zeros, and says not padding
abbrev pub PixelZeros : Type 0
PixelZeros =
    (t : Tensor) (c : Config) (src x : List ℕ) →
    let p = pixel_of t c src x in (p.status ≢ 0) → (p.bytes ≡ zeros) × (p.padding ≡ false)

-- 13 is never given
abbrev pub PixelNever : Type 0
PixelNever = (t : Tensor) (c : Config) (src x : List ℕ) → (pixel_of t c src x).status ≢ 13

-- 1 to 12 as for a move: what refuses the move into any destination, but for 13, refuses the pixel, and what refuses the pixel, but
-- for 35, refuses the move, each with the same number and dimension
abbrev pub RefusedAsMoved : Type 0
RefusedAsMoved =
    (t : Tensor) (c : Config) (src dst x : List ℕ) →
    let a = judge_of t c (length src) (length dst) in
    let p = pixel_of t c src x in
    ((a.status ≢ 0) → (a.status ≢ 13) → (p.status ≡ a.status) × (p.dim ≡ a.dim)) ×
    ((p.status ≢ 0) → (p.status ≢ 35) → (a.status ≡ p.status) × (a.dim ≡ p.dim))

-- it is accepted exactly if its coordinate is one of the destination, and the move into a destination that is long enough is accepted
abbrev pub AcceptedAsMoved : Type 0
AcceptedAsMoved =
    (t : Tensor) (c : Config) (src dst x : List ℕ) → need t c ≤ length dst →
    ((pixel_of t c src x).status ≡ 0) ↔ (Accepted t c src dst × IsCoordinate t c (at x))

-- ---- What the whole move stores there

-- the bytes of the element at x, in the destination e, are the pixel's
abbrev pub SameBytes : Tensor → Config → List ℕ → List ℕ → List ℕ → Type 0
SameBytes t c src e x =
    (b : ℕ) → b < t.element_size → slice_index e (byte_at t c (at x) + b) ≡ at (pixel_of t c src x).bytes b

-- of the coordinate x, after a move that left e
pub record PixelMeant (t : Tensor) (c : Config) (src e x : List ℕ) : Type 0 where
  pub accepted : (pixel_of t c src x).status ≡ 0
  -- the element lies in the destination, and its bytes are the pixel's
  pub inside : end_at t c (at x) ≤ length e
  pub same : SameBytes t c src e x
  -- unused bytes are 0
  pub unused : (b : ℕ) → t.element_size ≤ b → b < 4 → at (pixel_of t c src x).bytes b ≡ 0
  -- it says padding exactly if some k is not from 0 to count - 1
  pub padding : ((pixel_of t c src x).padding ≡ true) ↔ ((i : ℕ) × (i < t.rank) × (KeptAt t c (at x) i → ⊥))

-- for every destination that the move accepts
abbrev pub AcceptedPixels : Type 0
AcceptedPixels =
    (t : Tensor) (c : Config) (src dst : List ℕ) → Accepted t c src dst →
    (x : List ℕ) → IsCoordinate t c (at x) → PixelMeant t c src (move_memory t c src dst) x

-- the destination dst has become e, which is as long, has at every coordinate the bytes of its pixel, and else is as it was
pub record Picked (t : Tensor) (c : Config) (src dst e : List ℕ) : Type 0 where
  pub long : length e ≡ length dst
  pub each : (x : List ℕ) → IsCoordinate t c (at x) → SameBytes t c src e x
  pub rest : RestStays t c dst e

-- pixels over all coordinates and a move tell the same: what the move leaves is so, and nothing else is
abbrev pub PixelsTellTheMove : Type 0
PixelsTellTheMove =
    (t : Tensor) (c : Config) (src dst : List ℕ) → Accepted t c src dst →
    (e : List ℕ) → Picked t c src dst e ↔ (e ≡ move_memory t c src dst)
