-- Single bits of words: of a number made of blocks, of `|`, `&`, `!` and of a run of ones; and two words are equal where their bits are.
-- Assumes nothing.
use mathlib.Core.Path.{◌≡◌, refl, sym, ap, ap₂, ◌∙◌}
use mathlib.Core.Bool.{Bool, true, false, not, cond, ◌&&◌, ◌||◌, and-true, and-false}
use Prim.Native.Nat.{ℕ, zero, suc, ◌+◌, ◌-◌, ◌*◌, ◌/◌, ◌%◌, ◌^◌, ◌<◌, min, max}
use native.Mathlib.Nat.{div-one, mod-one, mod-lt, mod-eq_of_lt, div-eq_of_lt, pow-suc, zero-add, suc-add, zero-lt-suc}
use native.Mathlib.Numerals.{one-add}
use native.Mathlib.Omega.{arith}
use borrow.Author.Tests.{eqb-true, eqb-false, eq-eqb, ne_eqb}
use lib.Dec.{eqb, ltb, leb-zero, leb-suc-zero, leb-suc-suc}
use lib.Arith.{digits_mod}
use lib.Pow.{pow_pos, shr-shr, mod-pow-add}
use lib.Bits.{bit_and, bit_or, and_step, or_step, and_shr, or_shr, and_mask, shifted_half, shifted_even}
use Rattle.plane.specs.Arrays.{every}
use Rattle.plane.proofs.Arrays.{every_same}
use Rattle.keeper.specs.Blocks.{is_taken, word_of, in_run}

-- ---- tests

eqb_iff : (a b c d : ℕ) → (a ≡ b → c ≡ d) → (c ≡ d → a ≡ b) → eqb a b ≡ eqb c d
eqb_iff a b c d f g = go (eqb a b) refl
  where
    go : (t : Bool) → eqb a b ≡ t → t ≡ eqb c d
    go true e = sym (eq-eqb c d (f (eqb-true a b e)))
    go false e = sym (ne_eqb c d (λ q. eqb-false a b e (g q)))

-- ---- a bit is 0 or 1

pub two_mod : (x : ℕ) → x % 2 < 2
two_mod x = mod-lt x (zero-lt-suc 1)

-- a digit, as a number and as a test
digit_is : (d : ℕ) → d < 2 → d ≡ cond (eqb d 1) 1 0
digit_is zero h = refl
digit_is (suc zero) h = refl
digit_is (suc (suc d)) h = absurd (omega arith)

bit_is : (w j : ℕ) → w / 2 ^ j % 2 ≡ cond (is_taken w j) 1 0
bit_is w j = digit_is (w / 2 ^ j % 2) (two_mod (w / 2 ^ j))

-- block b + k of w is block k of `w >> b`; so block j + 1 is block j of w / 2, and block 0 is the last digit
shifted : (w b k : ℕ) → is_taken w (b + k) ≡ is_taken (w / 2 ^ b) k
shifted w b k = ap (λ (x : ℕ). eqb (x % 2) 1) (sym (shr-shr w b k))

pub next_block : (w j : ℕ) → is_taken w (suc j) ≡ is_taken (w / 2) j
next_block w j = ap (is_taken w) (sym (one-add j)) ∙ shifted w 1 j

pub first_block : (w : ℕ) → is_taken w 0 ≡ eqb (w % 2) 1
first_block w = ap (λ (x : ℕ). eqb (x % 2) 1) (div-one w)

-- one digit more
pub mod_step : (n x : ℕ) → x % 2 ^ suc n ≡ cond (is_taken x n) 1 0 * 2 ^ n + x % 2 ^ n
mod_step n x = ap (λ (m : ℕ). x % 2 ^ m) (sym (one-add n)) ∙ mod-pow-add x 1 n ∙ ap (λ (d : ℕ). d * 2 ^ n + x % 2 ^ n) (bit_is x n)

-- ---- words with the same bits are equal

mods : (k a b : ℕ) → ((j : ℕ) → j < k → is_taken a j ≡ is_taken b j) → a % 2 ^ k ≡ b % 2 ^ k
mods zero a b h = mod-one a ∙ sym (mod-one b)
mods (suc k) a b h =
    mod_step k a ∙ ap₂ (λ (t : Bool) (y : ℕ). cond t 1 0 * 2 ^ k + y) (h k (omega arith)) (mods k a b (λ j l. h j (omega arith))) ∙ sym (mod_step k b)

bits_ext : (k a b : ℕ) → a < 2 ^ k → b < 2 ^ k → ((j : ℕ) → j < k → is_taken a j ≡ is_taken b j) → a ≡ b
bits_ext k a b ha hb h = sym (mod-eq_of_lt ha) ∙ mods k a b h ∙ mod-eq_of_lt hb

-- ---- a word made of blocks

of_lt : (k : ℕ) (f : ℕ → Bool) → word_of k f < 2 ^ k
unfolding word_of
of_lt zero f = omega arith
of_lt (suc k) f = go (f 0) (of_lt k (λ j. f (suc j)))
  where
    go : (t : Bool) → word_of k (λ j. f (suc j)) < 2 ^ k → cond t 1 0 + 2 * word_of k (λ j. f (suc j)) < 2 ^ suc k
    go true r = omega (arith, pow-suc 2 k)
    go false r = omega (arith, pow-suc 2 k)

digit_of : (t : Bool) (x : ℕ) → eqb ((cond t 1 0 + 2 * x) % 2) 1 ≡ t
digit_of true x = eq-eqb ((1 + 2 * x) % 2) 1 (omega arith)
digit_of false x = ne_eqb ((0 + 2 * x) % 2) 1 (λ e. omega arith)

rest_of : (t : Bool) (x : ℕ) → (cond t 1 0 + 2 * x) / 2 ≡ x
rest_of true x = omega arith
rest_of false x = omega arith

pub taken_of : (k : ℕ) (f : ℕ → Bool) (j : ℕ) → j < k → is_taken (word_of k f) j ≡ f j
unfolding word_of
taken_of zero f j h = absurd (omega arith)
taken_of (suc k) f zero h = first_block (word_of (suc k) f) ∙ digit_of (f 0) (word_of k (λ j. f (suc j)))
taken_of (suc k) f (suc j) h =
    next_block (word_of (suc k) f) j ∙ ap (λ (x : ℕ). is_taken x j) (rest_of (f 0) (word_of k (λ j. f (suc j)))) ∙ taken_of k (λ j. f (suc j)) j (omega arith)

-- so whatever has those bits is that word
pub is_of : (k a : ℕ) (f : ℕ → Bool) → a < 2 ^ k → ((j : ℕ) → j < k → is_taken a j ≡ f j) → a ≡ word_of k f
is_of k a f h e = bits_ext k a (word_of k f) h (of_lt k f) (λ j l. e j l ∙ sym (taken_of k f j l))

-- ---- the bits of `|` and `&`

max_bit : (s t : Bool) → eqb (max (cond s 1 0) (cond t 1 0)) 1 ≡ (s || t)
max_bit true true = refl
max_bit true false = refl
max_bit false true = refl
max_bit false false = refl

min_bit : (s t : Bool) → eqb (min (cond s 1 0) (cond t 1 0)) 1 ≡ (s && t)
min_bit true true = refl
min_bit true false = refl
min_bit false true = refl
min_bit false false = refl

max_lt : (a b : ℕ) → a < 2 → b < 2 → max a b < 2
max_lt a b h l = omega arith

min_lt : (a b : ℕ) → a < 2 → b < 2 → min a b < 2
min_lt a b h l = omega arith

or_low : (a b : ℕ) → bit_or a b % 2 ≡ max (a % 2) (b % 2)
or_low a b = ap (λ (x : ℕ). x % 2) (or_step a b) ∙ digits_mod (bit_or (a / 2) (b / 2)) (max_lt (a % 2) (b % 2) (two_mod a) (two_mod b))

and_low : (a b : ℕ) → bit_and a b % 2 ≡ min (a % 2) (b % 2)
and_low a b = ap (λ (x : ℕ). x % 2) (and_step a b) ∙ digits_mod (bit_and (a / 2) (b / 2)) (min_lt (a % 2) (b % 2) (two_mod a) (two_mod b))

pub taken_or : (a b j : ℕ) → is_taken (bit_or a b) j ≡ (is_taken a j || is_taken b j)
taken_or a b j =
    ap (λ (x : ℕ). eqb x 1) (ap (λ (x : ℕ). x % 2) (or_shr a b j) ∙ or_low (a / 2 ^ j) (b / 2 ^ j) ∙ ap₂ max (bit_is a j) (bit_is b j))
    ∙ max_bit (is_taken a j) (is_taken b j)

pub taken_and : (a b j : ℕ) → is_taken (bit_and a b) j ≡ (is_taken a j && is_taken b j)
taken_and a b j =
    ap (λ (x : ℕ). eqb x 1) (ap (λ (x : ℕ). x % 2) (and_shr a b j) ∙ and_low (a / 2 ^ j) (b / 2 ^ j) ∙ ap₂ min (bit_is a j) (bit_is b j))
    ∙ min_bit (is_taken a j) (is_taken b j)

-- ---- the bits of `!`, in k digits

not_digit : (t : Bool) → eqb (1 - cond t 1 0) 1 ≡ not t
not_digit true = refl
not_digit false = refl

pub taken_not : (k m j : ℕ) → m < 2 ^ k → j < k → is_taken (2 ^ k - 1 - m) j ≡ not (is_taken m j)
taken_not zero m j h l = absurd (omega arith)
taken_not (suc k) m zero h l =
    let e : (2 ^ suc k - 1 - m) % 2 ≡ 1 - m % 2 = omega (arith, pow-suc 2 k) in
    first_block (2 ^ suc k - 1 - m) ∙ ap (λ (x : ℕ). eqb x 1) (e ∙ ap (λ (x : ℕ). 1 - x) (digit_is (m % 2) (two_mod m)))
    ∙ not_digit (eqb (m % 2) 1) ∙ ap not (sym (first_block m))
taken_not (suc k) m (suc j) h l =
    let e : (2 ^ suc k - 1 - m) / 2 ≡ 2 ^ k - 1 - m / 2 = omega (arith, pow-suc 2 k) in
    next_block (2 ^ suc k - 1 - m) j ∙ ap (λ (x : ℕ). is_taken x j) e
    ∙ taken_not k (m / 2) j (omega (arith, pow-suc 2 k)) (omega arith) ∙ ap not (sym (next_block m j))

-- ---- runs of ones

low_run : (n i : ℕ) → is_taken (2 ^ n - 1) i ≡ ltb i n
low_run zero i = ap (λ (x : ℕ). eqb (x % 2) 1) (div-eq_of_lt (pow_pos i)) ∙ sym (leb-suc-zero i)
low_run (suc n) zero =
    let p : 0 < 2 ^ n = pow_pos n in
    first_block (2 ^ suc n - 1) ∙ eq-eqb ((2 ^ suc n - 1) % 2) 1 (omega (arith, pow-suc 2 n)) ∙ sym (leb-suc-suc 0 n ∙ leb-zero n)
low_run (suc n) (suc i) =
    let e : (2 ^ suc n - 1) / 2 ≡ 2 ^ n - 1 = omega (arith, pow-suc 2 n) in
    next_block (2 ^ suc n - 1) i ∙ ap (λ (x : ℕ). is_taken x i) e ∙ low_run n i ∙ sym (leb-suc-suc (suc i) n)

-- `(2 ^ n - 1) << b`
pub taken_run : (b n j : ℕ) → is_taken ((2 ^ n - 1) * 2 ^ b) j ≡ in_run b n j
taken_run zero n j =
    ap (λ (x : ℕ). is_taken x j) (omega arith) ∙ low_run n j ∙ sym (ap₂ (λ (t : Bool) (m : ℕ). t && ltb j m) (leb-zero j) (zero-add n))
taken_run (suc b) n zero =
    first_block ((2 ^ n - 1) * 2 ^ suc b) ∙ ap (λ (x : ℕ). eqb x 1) (shifted_even (2 ^ n - 1) b)
    ∙ sym (ap (λ (t : Bool). t && ltb 0 (suc b + n)) (leb-suc-zero b))
taken_run (suc b) n (suc j) =
    next_block ((2 ^ n - 1) * 2 ^ suc b) j ∙ ap (λ (x : ℕ). is_taken x j) (shifted_half (2 ^ n - 1) b) ∙ taken_run b n j
    ∙ sym (ap₂ ◌&&◌ (leb-suc-suc b j) (ap (ltb (suc j)) (suc-add b n) ∙ leb-suc-suc (suc j) (b + n)))

-- ---- a run of free blocks, and a run of taken ones, by a mask

none_taken : (t : Bool) (r p : ℕ) → 0 < p → (eqb r 0 && not t) ≡ eqb (cond t 1 0 * p + r) 0
none_taken true r p h = and-false (eqb r 0) ∙ sym (ne_eqb (1 * p + r) 0 (λ e. omega arith))
none_taken false r p h = and-true (eqb r 0) ∙ eqb_iff r 0 (0 * p + r) 0 (λ e. omega arith) (λ e. omega arith)

all_taken_lem : (t : Bool) (r p : ℕ) → r < p → (eqb r (p - 1) && t) ≡ eqb (cond t 1 0 * p + r) (p * 2 - 1)
all_taken_lem true r p h = and-true (eqb r (p - 1)) ∙ eqb_iff r (p - 1) (1 * p + r) (p * 2 - 1) (λ e. omega arith) (λ e. omega arith)
all_taken_lem false r p h = and-false (eqb r (p - 1)) ∙ sym (ne_eqb (0 * p + r) (p * 2 - 1) (λ e. omega arith))

low_free : (n x : ℕ) → every n (λ k. not (is_taken x k)) ≡ eqb (x % 2 ^ n) 0
unfolding every
low_free zero x = sym (ap (λ (r : ℕ). eqb r 0) (mod-one x))
low_free (suc n) x = ap (λ (t : Bool). t && not (is_taken x n)) (low_free n x) ∙ none_taken (is_taken x n) (x % 2 ^ n) (2 ^ n) (pow_pos n) ∙ ap (λ (r : ℕ). eqb r 0) (sym (mod_step n x))

low_taken : (n x : ℕ) → every n (λ k. is_taken x k) ≡ eqb (x % 2 ^ n) (2 ^ n - 1)
unfolding every
low_taken zero x = sym (ap (λ (r : ℕ). eqb r 0) (mod-one x))
low_taken (suc n) x =
    ap (λ (t : Bool). t && is_taken x n) (low_taken n x) ∙ all_taken_lem (is_taken x n) (x % 2 ^ n) (2 ^ n) (mod-lt x (pow_pos n))
    ∙ ap₂ (λ (r p : ℕ). eqb r (p - 1)) (sym (mod_step n x)) (sym (pow-suc 2 n))

-- `(w >> b) & (2 ^ n - 1) == 0`
pub run_free : (w b n : ℕ) → every n (λ k. not (is_taken w (b + k))) ≡ eqb (bit_and (w / 2 ^ b) (2 ^ n - 1)) 0
run_free w b n =
    every_same n (λ k. not (is_taken w (b + k))) (λ k. not (is_taken (w / 2 ^ b) k)) (λ k _. ap not (shifted w b k))
    ∙ low_free n (w / 2 ^ b) ∙ ap (λ (r : ℕ). eqb r 0) (sym (and_mask (w / 2 ^ b) n))

-- `(w >> b) & (2 ^ n - 1) == 2 ^ n - 1`
pub run_taken : (w b n : ℕ) → every n (λ k. is_taken w (b + k)) ≡ eqb (bit_and (w / 2 ^ b) (2 ^ n - 1)) (2 ^ n - 1)
run_taken w b n =
    every_same n (λ k. is_taken w (b + k)) (λ k. is_taken (w / 2 ^ b) k) (λ k _. shifted w b k)
    ∙ low_taken n (w / 2 ^ b) ∙ ap (λ (r : ℕ). eqb r (2 ^ n - 1)) (sym (and_mask (w / 2 ^ b) n))
