-- A word of 64 blocks, and runs of neighbours: single blocks of the word, which run is granted, and the word after.
use Rattle.std.specs.Prelude.{ℕ, zero, suc, ◌+◌, ◌-◌, ◌*◌, ◌/◌, ◌%◌, ◌^◌, Bool, cond, not, ◌&&◌, ◌||◌, leb, ltb, eqb}
use Rattle.plane.specs.Arrays.{some, every, how_many}

-- ---- single blocks

-- block b is taken: bit b of the word is 1, block 0 in the lowest
abbrev pub is_taken : ℕ → ℕ → Bool
is_taken w b = eqb (w / 2 ^ b % 2) 1

-- the word of k blocks in which block b is taken exactly if p b
unfoldable pub word_of : ℕ → (ℕ → Bool) → ℕ
word_of zero p = 0
word_of (suc k) p = cond (p 0) 1 0 + 2 * word_of k (λ b. p (suc b))

-- the lowest of 0, 1, .., k - 1 that p holds of, or k where there is none
unfoldable pub lowest_of : ℕ → (ℕ → Bool) → ℕ
lowest_of zero p = 0
lowest_of (suc k) p = cond (some k p) (lowest_of k p) (cond (p k) k (suc k))

-- how many blocks are free
abbrev pub free_blocks : ℕ → ℕ
free_blocks w = how_many 64 (λ b. not (is_taken w b))

-- how many lie free before the first taken one: its number, or 64 if none is taken
abbrev pub free_before_first_taken : ℕ → ℕ
free_before_first_taken w = lowest_of 64 (is_taken w)

-- ---- runs: n neighbours from block `first` on

-- 31: n is not 1 to 64
abbrev pub bad_block_count : ℕ → Bool
bad_block_count n = ltb n 1 || ltb 64 n

-- or the run goes past the last block
abbrev pub bad_run : ℕ → ℕ → Bool
bad_run first n = bad_block_count n || ltb 64 (first + n)

-- block b is one of the run's
abbrev pub in_run : ℕ → ℕ → ℕ → Bool
in_run first n b = leb first b && ltb b (first + n)

-- each of its blocks is free; each is taken
abbrev pub all_free : ℕ → ℕ → ℕ → Bool
all_free w first n = every n (λ k. not (is_taken w (first + k)))

abbrev pub all_taken : ℕ → ℕ → ℕ → Bool
all_taken w first n = every n (λ k. is_taken w (first + k))

-- how many places a run of n blocks has: it begins at block 0, 1, .. or 64 - n
abbrev pub starts : ℕ → ℕ
starts n = 65 - n

-- some run of n blocks is free, and the first block of the lowest
abbrev pub some_run : ℕ → ℕ → Bool
some_run w n = some (starts n) (λ first. all_free w first n)

abbrev pub lowest_run : ℕ → ℕ → ℕ
lowest_run w n = lowest_of (starts n) (λ first. all_free w first n)

-- the word with the run taken, and with it free
unfoldable pub with_run : ℕ → ℕ → ℕ → ℕ
with_run w first n = word_of 64 (λ b. is_taken w b || in_run first n b)

unfoldable pub without_run : ℕ → ℕ → ℕ → ℕ
without_run w first n = word_of 64 (λ b. is_taken w b && not (in_run first n b))
