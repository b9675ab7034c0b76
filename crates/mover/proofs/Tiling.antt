-- Blocks side by side, and what shuffles make of them: tiles turned, channels taken apart and put together. Assumes nothing.
use Rattle.std.proofs.Common.{◌≡◌, ℕ, zero, suc, ◌+◌, ◌*◌, ◌/◌, ◌%◌, ◌^◌, ◌<◌, ◌≤◌, min, Bool, eqb, List, [], ◌∷◌, ◌++◌, length, get_or, take, drop, replicate, sym, refl, ap, ◌∙◌, inl, inr, ⊎_elim, le_of_suc-le-suc, not-suc-le-zero, mul-le-mul_right, suc-mul, eq-or-lt_of_le, zero-add, arith, eqb→eq, length-drop, length-take-le, get_or-drop, get_or-take}
use lib.ListN.{length-replicate}
use Rattle.mover.specs.Private.Adding.{along}
use Rattle.mover.specs.Private.Runs.{run_stored, Held}
use Rattle.mover.specs.Private.Shuffles.{Turning, made, zips, rows_read, tile_of, split_of, merged_of}
use Rattle.mover.proofs.Bytes.{get_d_sets_out, sets_inside}
use Rattle.mover.proofs.Adding.{along_is}
use Rattle.mover.proofs.Runs.{length_run, run_out}
use Rattle.mover.proofs.Shuffled.{made_by, made_snoc, made_alike, at_each, length_zipped, turns, get_d_zips}

-- ---- blocks side by side

module _ (e : ℕ → List ℕ) (z : ℕ) (d : List ℕ) (f : length d < 2 ^ 64) where
  beside : (k : ℕ) → k * z ≤ length d → along 0 z k ≡ k * z
  beside k h = along_is 0 z k (omega arith) ∙ zero-add (k * z)

  -- byte r of block q
  pub blocks_at : (n : ℕ) → n * z ≤ length d → ((k : ℕ) → k < n → length (e k) ≡ z) → (q r : ℕ) → q < n → r < z
      → get_or (run_stored e 0 z n d) (q * z + r) 0 ≡ get_or (e q) r 0
  unfolding run_stored
  blocks_at zero l w q r h g = absurd (not-suc-le-zero h)
  blocks_at (suc n) l w q r h g =
      let v = suc-mul n z in
      let m : n * z ≤ length d = omega arith in
      let y = w n (omega arith) in
      let t = length_run e 0 z n d in
      rw (beside n m)
      (⊎_elim
      (λ (x : q ≡ n). rw x (sets_inside (e n) (run_stored e 0 z n d) (n * z) r (omega arith) (omega arith)))
      (λ (x : q < n).
      let u = mul-le-mul_right z x in
      let i = suc-mul q z in
      get_d_sets_out (e n) (run_stored e 0 z n d) (n * z) (q * z + r) (inl (omega arith)) ∙ blocks_at n m (λ k o. w k (omega arith)) q r x g)
      (eq-or-lt_of_le (le_of_suc-le-suc h)))

  -- a byte behind them is as it was
  pub blocks_behind : (n : ℕ) → n * z ≤ length d → ((k : ℕ) → k < n → length (e k) ≡ z) → (k : ℕ) → n * z ≤ k → get_or (run_stored e 0 z n d) k 0 ≡ get_or d k 0
  blocks_behind n l w k h =
      run_out e 0 z n d k
      (λ j o.
      let u = mul-le-mul_right z o in
      let i = suc-mul j z in
      let y = w j o in
      inr (rw (beside j (omega arith)) (omega arith)))

get_d_zeros : (l k : ℕ) → ◌≡◌ {A = ℕ} (get_or (replicate l 0) k 0) 0
get_d_zeros zero k = refl
get_d_zeros (suc l) zero = refl
get_d_zeros (suc l) (suc k) = get_d_zeros l k

module _ (s : List ℕ) (at jump n l : ℕ) (h : Held (length s) at jump 16 n) (m : n * 16 ≤ l) (f : l < 2 ^ 64) where
  sixteen : (k : ℕ) → k < n → length (take 16 (drop (along at jump k) s)) ≡ 16
  sixteen k i = let w = h k i in length-take-le 16 (drop (along at jump k) s) (simp length-drop (omega arith))

  block_byte : (q r : ℕ) → q < n → r < 16 → get_or (rows_read s at jump n l) (q * 16 + r) 0 ≡ get_or s (along at jump q + r) 0
  block_byte q r a b =
      let i : length (replicate {A = ℕ} l 0) ≡ l = length-replicate {A = ℕ} l 0 in
      blocks_at (λ k. take 16 (drop (along at jump k) s)) 16 (replicate l 0) (omega arith) n (omega arith) sixteen q r a b
      ∙ get_or-take 16 (drop (along at jump q) s) r 0 b ∙ get_or-drop (along at jump q) s r 0

  block_none : (k : ℕ) → n * 16 ≤ k → get_or (rows_read s at jump n l) k 0 ≡ 0
  block_none k g =
      let i : length (replicate {A = ℕ} l 0) ≡ l = length-replicate {A = ℕ} l 0 in
      blocks_behind (λ j. take 16 (drop (along at jump j) s)) 16 (replicate l 0) (omega arith) n (omega arith) sixteen k g ∙ get_d_zeros l k

-- ---- rows and columns exchanged

module _ (half z j n : ℕ) (p : 0 < z) (d : half % z ≡ 0) (o : half + half ≡ 256 / z) (g : half + half < 2 ^ 64) (w : n * 16 ≡ half + half)
    (inside : (k : ℕ) → k < half + half → (k % 16 / z < n) × (k / 16 * z + k % z < 16))
    (turned : (k : ℕ) → k < half + half → turns half z (suc j) k ≡ k % 16 / z * 16 + (k / 16 * z + k % z)) where
  tile_by : (s : List ℕ) (at jump : ℕ) → Held (length s) at jump 16 n → zips half z (suc j) (rows_read s at jump n (half + half)) ≡ tile_of z s at jump
  unfolding tile_of
  tile_by s at jump h =
      let b = rows_read s at jump n (half + half) in
      made_by (256 / z) (λ k. get_or s (along at jump (k % 16 / z) + (k / 16 * z + k % z)) 0) (zips half z (suc j) b)
      (length_zipped half z (zips half z j b) ∙ o)
      (λ k i.
      let l : k < half + half = omega arith in
      get_d_zips half z p d (suc j) b k l
      ∙ rw (turned k l) (block_byte s at jump n (half + half) h (omega arith) g (k % 16 / z) (k / 16 * z + k % z) (inside k l).0 (inside k l).1))

right_ones : ℕ → Bool
right_ones k = eqb (turns 128 1 4 k) (k % 16 / 1 * 16 + (k / 16 * 1 + k % 1))

right_twos : ℕ → Bool
right_twos k = eqb (turns 64 2 3 k) (k % 16 / 2 * 16 + (k / 16 * 2 + k % 2))

right_fours : ℕ → Bool
right_fours k = eqb (turns 32 4 2 k) (k % 16 / 4 * 16 + (k / 16 * 4 + k % 4))

module _ (s : List ℕ) (at jump : ℕ) where
  ones_are : Held (length s) at jump 16 16 → zips 128 1 4 (rows_read s at jump 16 256) ≡ tile_of 1 s at jump
  unfolding right_ones
  ones_are =
      tile_by 128 1 3 16 (omega arith) refl refl (omega arith) refl (λ k h. (omega arith, omega arith))
      (λ k h. eqb→eq (turns 128 1 4 k) (k % 16 / 1 * 16 + (k / 16 * 1 + k % 1)) (at_each 256 right_ones tt k h)) s at jump

  twos_are : Held (length s) at jump 16 8 → zips 64 2 3 (rows_read s at jump 8 128) ≡ tile_of 2 s at jump
  unfolding right_twos
  twos_are =
      tile_by 64 2 2 8 (omega arith) refl refl (omega arith) refl (λ k h. (omega arith, omega arith))
      (λ k h. eqb→eq (turns 64 2 3 k) (k % 16 / 2 * 16 + (k / 16 * 2 + k % 2)) (at_each 128 right_twos tt k h)) s at jump

  fours_are : Held (length s) at jump 16 4 → zips 32 4 2 (rows_read s at jump 4 64) ≡ tile_of 4 s at jump
  unfolding right_fours
  fours_are =
      tile_by 32 4 1 4 (omega arith) refl refl (omega arith) refl (λ k h. (omega arith, omega arith))
      (λ k h. eqb→eq (turns 32 4 2 k) (k % 16 / 4 * 16 + (k / 16 * 4 + k % 4)) (at_each 64 right_fours tt k h)) s at jump

pub turned_ones : Turning 256 1 (record { rows = 16; half = 128; times = 4 })
turned_ones = record { rows = refl; bytes = refl; all = refl; small = omega arith; halves = refl; whole = refl; turned = ones_are }

pub turned_twos : Turning 128 2 (record { rows = 8; half = 64; times = 3 })
turned_twos = record { rows = refl; bytes = refl; all = refl; small = omega arith; halves = refl; whole = refl; turned = twos_are }

pub turned_fours : Turning 64 4 (record { rows = 4; half = 32; times = 2 })
turned_fours = record { rows = refl; bytes = refl; all = refl; small = omega arith; halves = refl; whole = refl; turned = fours_are }

-- ---- three channels taken apart

right_split : ℕ → Bool
right_split k = eqb (turns 48 1 5 k) (k % 32 * 3 + k / 32)

split_below : (k : ℕ) → k < 96 → k % 32 * 3 + k / 32 < 96
split_below k h = omega arith

-- six rows of 16 bytes side by side
module _ (s : List ℕ) (at : ℕ) (h : at + 96 ≤ length s) (f : length s < 2 ^ 64) where
  six_on : (k : ℕ) → k < 6 → along at 16 k ≡ at + k * 16
  six_on k i = along_is at 16 k (omega arith)

  pub six_held : Held (length s) at 16 16 6
  six_held k i = rw (six_on k i) (omega arith)

  pub split_is : zips 48 1 5 (rows_read s at 16 6 96) ≡ split_of s at
  unfolding split_of right_split
  split_is =
      let b = rows_read s at 16 6 96 in
      made_by 96 (λ k. get_or s (at + (k % 32 * 3 + k / 32)) 0) (zips 48 1 5 b) (length_zipped 48 1 (zips 48 1 4 b))
      (λ k i.
      let x = k % 32 * 3 + k / 32 in
      let l = split_below k i in
      let e = eqb→eq (turns 48 1 5 k) x (at_each 96 right_split tt k i) in
      let w : x / 16 * 16 + x % 16 ≡ x = omega arith in
      get_d_zips 48 1 (omega arith) refl 5 b k i
      ∙ rw e (ap (λ (y : ℕ). get_or b y 0) (sym w)
      ∙ block_byte s at 16 6 96 six_held (omega arith) (omega arith) (x / 16) (x % 16) (omega arith) (omega arith)
      ∙ ap (λ (y : ℕ). get_or s y 0) (rw (six_on (x / 16) (omega arith)) (omega arith))))

-- ---- three channels put together

right_merge : ℕ → Bool
right_merge k = eqb (turns 32 1 2 k) (k % 4 * 16 + k / 4)

module _ (s : List ℕ) (at jump : ℕ) (h : Held (length s) at jump 16 3) where
  abbrev planes : List ℕ
  planes = rows_read s at jump 3 64

  merged_at : (k : ℕ) → k < 64 → get_or (zips 32 1 2 planes) k 0 ≡ get_or planes (k % 4 * 16 + k / 4) 0
  unfolding right_merge
  merged_at k i =
      let e = eqb→eq (turns 32 1 2 k) (k % 4 * 16 + k / 4) (at_each 64 right_merge tt k i) in
      get_d_zips 32 1 (omega arith) refl 2 planes k i ∙ ap (λ (x : ℕ). get_or planes x 0) e

  abbrev third : ℕ → ℕ
  third j = get_or (zips 32 1 2 planes) (min (j / 3 * 4 + j % 3) 63) 0

  pub merged_is : made 49 (λ j. get_or (zips 32 1 2 planes) (min (j / 3 * 4 + j % 3) 63) 0) ≡ merged_of s at jump
  unfolding merged_of
  merged_is =
      let g : ℕ → ℕ = λ k. get_or s (along at jump (k % 3) + k / 3) 0 in
      let last : get_or (zips 32 1 2 planes) 63 0 ≡ 0 = merged_at 63 (omega arith) ∙ block_none s at jump 3 64 h (omega arith) (omega arith) 63 (omega arith) in
      sym (made_snoc 48 third)
      ∙ ap (λ (l : List ℕ). l ++ (third 48 ∷ []))
      (made_alike 48 third g
      (λ j i.
      let m : min (j / 3 * 4 + j % 3) 63 ≡ j / 3 * 4 + j % 3 = omega arith in
      let e : (j / 3 * 4 + j % 3) % 4 * 16 + (j / 3 * 4 + j % 3) / 4 ≡ j % 3 * 16 + j / 3 = omega arith in
      rw m (merged_at (j / 3 * 4 + j % 3) (omega arith)
      ∙ rw e (block_byte s at jump 3 64 h (omega arith) (omega arith) (j % 3) (j / 3) (omega arith) (omega arith)))))
      ∙ ap (λ (x : ℕ). made 48 g ++ (x ∷ [])) last
