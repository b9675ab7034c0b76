-- Arrays of four entries, one a dimension, and sums and products over the dimensions.
use Rattle.std.specs.Prelude.{ℕ, zero, suc, ◌+◌, ◌*◌, Bool, true, false, cond, ◌||◌, ◌&&◌, List, [], ◌∷◌, ltb, eqb, get_or}

-- entry d
abbrev pub at : List ℕ → ℕ → ℕ
at xs d = get_or xs d 0

-- v if d is below the rank n, else z
abbrev pub below : {A : Type 0} → A → ℕ → ℕ → A → A
below z n d v = cond (ltb d n) v z

-- the array of four entries
abbrev pub array : {A : Type 0} → (ℕ → A) → List A
array f = f 0 ∷ f 1 ∷ f 2 ∷ f 3 ∷ []

-- the array with the entries of f below the rank n, and z at and past it
unfoldable pub firsts_or : {A : Type 0} → A → ℕ → (ℕ → A) → List A
firsts_or z n f = array (λ d. below z n d (f d))

-- and 0 at and past it
abbrev pub firsts : ℕ → (ℕ → ℕ) → List ℕ
firsts n f = firsts_or 0 n f

abbrev pub zeros : List ℕ
zeros = 0 ∷ 0 ∷ 0 ∷ 0 ∷ []

-- f 0 + f 1 + .. + f (n - 1)
unfoldable pub sum : ℕ → (ℕ → ℕ) → ℕ
sum zero f = 0
sum (suc k) f = sum k f + f k

-- f 0 x f 1 x .. x f (n - 1)
unfoldable pub product : ℕ → (ℕ → ℕ) → ℕ
product zero f = 1
product (suc k) f = product k f * f k

-- how many of 0, 1, .., n - 1 p holds of
unfoldable pub how_many : ℕ → (ℕ → Bool) → ℕ
how_many zero p = 0
how_many (suc k) p = how_many k p + cond (p k) 1 0

-- whether p holds of one of 0, 1, .., n - 1
unfoldable pub some : ℕ → (ℕ → Bool) → Bool
some zero p = false
some (suc k) p = some k p || p k

-- whether p holds of each of 0, 1, .., n - 1
unfoldable pub every : ℕ → (ℕ → Bool) → Bool
every zero p = true
every (suc k) p = every k p && p k

-- s, and p where s is 0
abbrev pub or0 : ℕ → ℕ → ℕ
or0 s p = cond (eqb s 0) p s
