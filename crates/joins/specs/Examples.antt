-- A plane that can be set into a larger one, and two that can be joined, with what the moves leave: what `Settable` and `Joinable` ask
-- for can be met.
use Rattle.std.specs.Prelude.{ℕ, ◌≡◌, List, [], ◌∷◌, replicate}
use Rattle.plane.specs.declared.Tensor.{Tensor}
use Rattle.plane.specs.Signs.{zeros_z}
use Rattle.mover.specs.Moved.{move_memory}
use Rattle.joins.specs.Claims.{set_config, Settable, Joinable, after_both}

-- a plane of bytes with all strides 0: rank, shape
abbrev pub byte_plane : ℕ → List ℕ → Tensor
byte_plane n shape = record { rank = n; element_size = 1; shape = shape; stride = zeros_z }

-- ---- 2 x 2 set into the right half of two rows of four

abbrev pub square : Tensor
square = byte_plane 2 (2 ∷ 2 ∷ 0 ∷ 0 ∷ [])

abbrev pub rows : Tensor
rows = byte_plane 2 (2 ∷ 4 ∷ 0 ∷ 0 ∷ [])

abbrev pub right : List ℕ
right = 0 ∷ 2 ∷ 0 ∷ 0 ∷ []

abbrev pub square_bytes : List ℕ
square_bytes = 5 ∷ 6 ∷ 7 ∷ 8 ∷ []

-- ---- 2 x 2 pixels of three colours, and their alpha, joined along channels; the digits of a byte are its pixel and its channel

abbrev pub colour : Tensor
colour = byte_plane 3 (2 ∷ 2 ∷ 3 ∷ 0 ∷ [])

abbrev pub alpha : Tensor
alpha = byte_plane 3 (2 ∷ 2 ∷ 1 ∷ 0 ∷ [])

abbrev pub joined_strides : List ℕ
joined_strides = 8 ∷ 4 ∷ 1 ∷ 0 ∷ []

abbrev pub colour_bytes : List ℕ
colour_bytes = 11 ∷ 12 ∷ 13 ∷ 21 ∷ 22 ∷ 23 ∷ 31 ∷ 32 ∷ 33 ∷ 41 ∷ 42 ∷ 43 ∷ []

abbrev pub alpha_bytes : List ℕ
alpha_bytes = 14 ∷ 24 ∷ 34 ∷ 44 ∷ []

-- ---- the claim, over destinations of 9s

pub record Met : Type 0 where
  pub settable : Settable rows square right square_bytes (replicate 8 9)
  pub set : move_memory square (set_config rows right) square_bytes (replicate 8 9) ≡ 9 ∷ 9 ∷ 5 ∷ 6 ∷ 9 ∷ 9 ∷ 7 ∷ 8 ∷ []
  pub joinable : Joinable colour alpha 2 joined_strides colour_bytes alpha_bytes (replicate 16 9)
  pub joined : after_both colour alpha 2 joined_strides colour_bytes alpha_bytes (replicate 16 9)
      ≡ 11 ∷ 12 ∷ 13 ∷ 14 ∷ 21 ∷ 22 ∷ 23 ∷ 24 ∷ 31 ∷ 32 ∷ 33 ∷ 34 ∷ 41 ∷ 42 ∷ 43 ∷ 44 ∷ []
