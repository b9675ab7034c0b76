-- Signed numbers as words of 32 bits (`specs/Layout.antt`), there and back, groups of four of them, and what code comes to. Assumes
-- nothing.
use Prim.Native.Nat.{ℕ, zero, suc, ◌-◌, ◌≤◌, ◌<◌}
use native.Mathlib.Omega.{arith}
use mathlib.Core.Path.{◌≡◌, refl, sym, ap, ◌∙◌}
use mathlib.Core.Bool.{Bool, true, false, cond}
use mathlib.Core.List.{List, [], ◌∷◌}
use borrow.Author.Tests.{lt-ltb, le-ltb, ltb-true, ltb-false}
use lib.Dec.{ltb}
use lib.IntN.{ℤ, pos, negsuc}
use lib.ListN.{length, length-map}
use mir.Syntax.{w32}
use mir.Val.{Fits, to_z, of_z}
use mir.Facts.{to_z-of_z}
use Rattle.plane.specs.Arrays.{at, array}
use Rattle.plane.specs.Signs.{at_z}
use Rattle.plane.proofs.Arrays.{is_array}
use Rattle.record.specs.Layout.{twos_word, twos_number, twos_words, twos_numbers}
use Rattle.record.specs.RoundTrip.{InRange, TwosComplement, WordsAtTheEnds}

-- ---- one word and its number

low : (x : ℕ) → x < 2147483648 → twos_number x ≡ pos x
unfolding twos_number
low x h = simp (lt-ltb x 2147483648 h)

high : (x : ℕ) → 2147483648 ≤ x → twos_number x ≡ negsuc (4294967296 - suc x)
unfolding twos_number
high x h = simp (le-ltb x 2147483648 h)

-- what holds of both kinds of word
by_word : (P : ℤ → Type 0) (x : ℕ) → (x < 2147483648 → P (pos x)) → (2147483648 ≤ x → P (negsuc (4294967296 - suc x))) → P (twos_number x)
unfolding twos_number
by_word P x l h = by_test (ltb x 2147483648) refl
  where
    by_test : (b : Bool) → ltb x 2147483648 ≡ b → P (cond b (pos x) (negsuc (4294967296 - suc x)))
    by_test true e = l (ltb-true x 2147483648 e)
    by_test false e = h (ltb-false x 2147483648 e)

pub in_range : (x : ℕ) → x < 4294967296 → InRange (twos_number x)
in_range x h = by_word InRange x (λ l. l) (λ l. omega arith)

is_word : (z : ℤ) → InRange z → twos_word z < 4294967296
is_word (pos n) h = omega arith
is_word (negsuc n) h = omega arith

number_back : (z : ℤ) → InRange z → twos_number (twos_word z) ≡ z
number_back (pos n) h = low n h
number_back (negsuc n) h = high (4294967296 - suc n) (omega arith) ∙ ap negsuc (again n h)
  where
    again : (n : ℕ) → n < 2147483648 → 4294967296 - suc (4294967296 - suc n) ≡ n
    again n h = omega arith

word_back : (x : ℕ) → x < 4294967296 → twos_word (twos_number x) ≡ x
word_back x h = by_word (λ z. twos_word z ≡ x) x (λ _. refl) (λ l. omega arith)

-- ---- the theorems

pub twos_complement : TwosComplement
twos_complement = record {
  low = low;
  high = λ x h l. high x h ∙ simp (lt-ltb x 4294967296 l);
  in_range = in_range;
  is_word = is_word;
  number_back = number_back;
  word_back = word_back;
  only_zero = λ z h e. sym (number_back z h) ∙ ap twos_number e ∙ low 0 (omega arith);
}

pub words_at_the_ends : WordsAtTheEnds
unfolding twos_number
words_at_the_ends =
    record {
      zero = (refl, refl);
      one = (refl, refl);
      minus_one = (refl, refl);
      most = (refl, refl);
      least = (refl, refl);
      next_to_least = (refl, refl);
    }

-- ---- groups of them

words_at : (zs : List ℤ) (d : ℕ) → at (twos_words zs) d ≡ twos_word (at_z zs d)
unfolding twos_words
words_at [] d = refl
words_at (z ∷ zs) zero = refl
words_at (z ∷ zs) (suc d) = words_at zs d

pub numbers_at : (xs : List ℕ) (d : ℕ) → at_z (twos_numbers xs) d ≡ twos_number (at xs d)
unfolding twos_numbers twos_number
numbers_at [] d = refl
numbers_at (x ∷ xs) zero = refl
numbers_at (x ∷ xs) (suc d) = numbers_at xs d

pub words_length : (zs : List ℤ) → length (twos_words zs) ≡ length zs
unfolding twos_words
words_length zs = length-map zs twos_word

numbers_length : (xs : List ℕ) → length (twos_numbers xs) ≡ length xs
unfolding twos_numbers
numbers_length xs = length-map xs twos_number

pub numbers_back : (zs : List ℤ) → ((d : ℕ) → d < length zs → InRange (at_z zs d)) → twos_numbers (twos_words zs) ≡ zs
unfolding twos_numbers twos_words
numbers_back [] h = refl
numbers_back (z ∷ zs) h = λ i. number_back z (h 0 (omega arith)) i ∷ numbers_back zs (λ d q. h (suc d) (omega arith)) i

pub words_back : (xs : List ℕ) → ((d : ℕ) → d < length xs → at xs d < 4294967296) → twos_words (twos_numbers xs) ≡ xs
unfolding twos_numbers twos_words
words_back [] h = refl
words_back (x ∷ xs) h = λ i. word_back x (h 0 (omega arith)) i ∷ words_back xs (λ d q. h (suc d) (omega arith)) i

-- ---- in code

-- the word of a number is what the machine has of it
machine_is : (z : ℤ) → of_z w32 z ≡ twos_word z
machine_is (pos n) = refl
machine_is (negsuc n) = refl

pub machine_word : (zs : List ℤ) (d : ℕ) → at (twos_words zs) d ≡ of_z w32 (at_z zs d)
machine_word zs d = words_at zs d ∙ sym (machine_is (at_z zs d))

pub machine_words : (zs : List ℤ) → length zs ≡ 4 → array (λ d. of_z w32 (at_z zs d)) ≡ twos_words zs
machine_words zs e = sym (is_array 0 (twos_words zs) _ (words_length zs ∙ e) (λ d h. machine_word zs d))

-- and the number of a word is what it reads
machine_number : (x : ℕ) → x < 4294967296 → to_z w32 x ≡ twos_number x
machine_number x h =
    ap (to_z w32) (sym (word_back x h) ∙ sym (machine_is (twos_number x))) ∙ to_z-of_z {w = w32} {z = twos_number x} (record { sfits = in_range x h })

pub machine_numbers : (xs : List ℕ) → length xs ≡ 4 → ((d : ℕ) → Fits w32 (at xs d)) → array (λ d. to_z w32 (at xs d)) ≡ twos_numbers xs
machine_numbers xs e f =
    sym (is_array (pos 0) (twos_numbers xs) _ (numbers_length xs ∙ e) (λ d h. numbers_at xs d ∙ sym (machine_number (at xs d) (f d).fits)))
