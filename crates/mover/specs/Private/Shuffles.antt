-- Arrays as arrays.rt and shuffles.rt hand them back: a list made of what stands elsewhere, and in what order.
use Rattle.std.specs.Prelude.{◌≡◌, ℕ, zero, suc, ◌+◌, ◌*◌, ◌/◌, ◌%◌, ◌≤◌, List, [], ◌∷◌, ◌++◌, slice_index, length, take, drop, replicate}
use Rattle.mover.specs.declared.shuffles.Shuffle.{Shuffle}
use Rattle.mover.specs.Private.Adding.{along}
use Rattle.mover.specs.Private.Runs.{run_stored, Held}
use Rattle.mover.specs.Private.Patches.{sixteenth_of}

-- f 0, f 1, .., f (n - 1)
unfoldable pub made : ℕ → (ℕ → ℕ) → List ℕ
made zero f = []
made (suc n) f = f 0 ∷ made n (λ k. f (suc k))

-- elements of z bytes, one of the first half and one of the second in turn: where byte k comes from
abbrev pub turn : ℕ → ℕ → ℕ → ℕ
turn half z k = k / z / 2 * z + k / z % 2 * half + k % z

unfoldable pub zipped : ℕ → ℕ → List ℕ → List ℕ
zipped half z t = made (half + half) (λ k. slice_index t (turn half z k))

-- several shuffles, one after the other
abbrev pub zips : ℕ → ℕ → ℕ → List ℕ → List ℕ
zips half z zero t = t
zips half z (suc j) t = zipped half z (zips half z j t)

abbrev pub shuffled : ℕ → Shuffle → List ℕ → List ℕ
shuffled z s t = zips s.half z s.times t

-- n rows of 16 bytes, the first at `at` and each a jump further, one after the other, and zeros behind them: l bytes
abbrev pub rows_read : List ℕ → ℕ → ℕ → ℕ → ℕ → List ℕ
rows_read s at jump n l = run_stored (λ k. take 16 (drop (along at jump k) s)) 0 16 n (replicate l 0)

-- 16 bytes from each of some places, the first at `at` and each a jump further, as elements of z bytes: rows and columns exchanged
unfoldable pub tile_of : ℕ → List ℕ → ℕ → ℕ → List ℕ
tile_of z s at jump = made (256 / z) (λ k. slice_index s (along at jump (k % 16 / z) + (k / 16 * z + k % z)))

-- what a shuffle needs that turns a tile of n bytes, of elements of z bytes
pub record Turning (n z : ℕ) (s : Shuffle) : Type 0 where
  pub rows : s.rows ≡ sixteenth_of z
  pub bytes : n ≡ s.rows * 16
  pub all : 256 / z ≡ n
  pub small : n ≤ 256
  pub halves : n ≡ s.half + s.half
  pub whole : s.half % z ≡ 0
  pub turned : (v : List ℕ) (at jump : ℕ) → Held (length v) at jump 16 s.rows → shuffled z s (rows_read v at jump s.rows n) ≡ tile_of z v at jump

-- 32 pixels of three bytes: the first bytes of all, the second ones, the third ones
unfoldable pub split_of : List ℕ → ℕ → List ℕ
split_of s at = made 96 (λ k. slice_index s (at + (k % 32 * 3 + k / 32)))

-- 16 bytes from each of three places, one of each in turn, and a byte that means nothing
unfoldable pub merged_of : List ℕ → ℕ → ℕ → List ℕ
merged_of s at jump = made 48 (λ k. slice_index s (along at jump (k % 3) + k / 3)) ++ (0 ∷ [])
