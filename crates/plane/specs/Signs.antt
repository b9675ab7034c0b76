-- Signed numbers: the size and the sign. `pos n` is n, and `negsuc n` is -1 - n.
use Rattle.std.specs.Prelude.{ℕ, Bool, true, false, cond, List, [], ◌∷◌, map, ℤ, pos, negsuc, neg_ℤ, nat_abs, get_or}

-- the number without its sign
abbrev pub size_of : ℤ → ℕ
size_of z = nat_abs z

-- whether it is below 0
abbrev pub is_down : ℤ → Bool
is_down (pos n) = false
is_down (negsuc n) = true

-- the number of size n, below 0 if down; -0 is 0
abbrev pub signed : Bool → ℕ → ℤ
signed down n = cond down (neg_ℤ (pos n)) (pos n)

-- entry d of an array of signed numbers
abbrev pub at_z : List ℤ → ℕ → ℤ
at_z xs d = get_or xs d (pos 0)

abbrev pub zeros_z : List ℤ
zeros_z = pos 0 ∷ pos 0 ∷ pos 0 ∷ pos 0 ∷ []

-- the sizes of an array's numbers
unfoldable pub sizes : List ℤ → List ℕ
sizes xs = map size_of xs
