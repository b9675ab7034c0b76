-- The bytes of a move record: which field stands where. What read and write have to agree on is here, but that a configuration's arrays
-- stand in the order of plane's `arrays` (Settings).
use Rattle.std.specs.Prelude.{ℕ, zero, suc, ◌+◌, ◌-◌, ◌*◌, cond, List, [], ◌∷◌, ◌++◌, map, ltb, eqb, ℤ, pos, negsuc, get_or, take, drop}
use Rattle.plane.specs.declared.Tensor.{Tensor}
use Rattle.plane.specs.declared.Config.{Config}
use Rattle.plane.specs.Arrays.{at, array, sum}
use Rattle.plane.specs.Settings.{array_count, arrays}
use Rattle.plane.specs.Numbers.{little, number}

-- ---- Parts of lists, and lists one after the other

-- the n bytes from byte p on
abbrev pub part : ℕ → ℕ → List ℕ → List ℕ
part p n bs = take n (drop p bs)

-- f 0, f 1, .., f (n - 1), one after the other
unfoldable pub consecutive : ℕ → (ℕ → List ℕ) → List ℕ
consecutive zero f = []
consecutive (suc k) f = consecutive k f ++ f k

-- ---- Signed numbers as words of 32 bits, in two's complement: `pos n` is n, and `negsuc n` is -1 - n

-- the word of a number: that of one below 0 is 4,294,967,296 above it
abbrev pub twos_word : ℤ → ℕ
twos_word (pos n) = n
twos_word (negsuc n) = 4294967296 - suc n

-- the number that a word is: one of 2,147,483,648 and above is the number 4,294,967,296 below it
unfoldable pub twos_number : ℕ → ℤ
twos_number x = cond (ltb x 2147483648) (pos x) (negsuc (4294967296 - suc x))

-- and of the four of a group
unfoldable pub twos_words : List ℤ → List ℕ
twos_words zs = map twos_word zs

unfoldable pub twos_numbers : List ℕ → List ℤ
twos_numbers xs = map twos_number xs

-- ---- The table: seven bytes, ten groups of four numbers, and in version 2 the fill

-- mark, version, rank and element size
abbrev pub head_length : ℕ
head_length = 7

-- how many groups there are, ten, and how many of them, the first, have numbers of four bytes; the others have single bytes
abbrev pub group_count : ℕ
group_count = 2 + array_count

abbrev pub wide_groups : ℕ
wide_groups = 7

-- where the groups end, 131: the bytes of a record of version 1, and where in version 2 the fill stands
abbrev pub record_length : ℕ
record_length = head_length + wide_groups * (4 * 4) + (group_count - wide_groups) * (4 * 1)

-- the bytes of the fill that stand there: none in version 1, four in version 2
abbrev pub fill_width : ℕ → ℕ
fill_width v = cond (eqb v 2) 4 0

-- the bytes of a record of version v: 131 or 135
abbrev pub length_of : ℕ → ℕ
length_of v = record_length + fill_width v

-- the version of a record of n bytes
abbrev pub version_by_length : ℕ → ℕ
version_by_length n = cond (eqb n (length_of 2)) 2 1

-- the version that a configuration is written as: a fill of 0 as version 1
abbrev pub version_for : Config → ℕ
version_for c = cond (eqb c.fill 0) 1 2

-- R, M, V
abbrev pub mark : List ℕ
mark = 82 ∷ 77 ∷ 86 ∷ []

-- the version, in two bytes from byte 3 on
abbrev pub version_in : List ℕ → ℕ
version_in bs = number (part 3 2 bs)

abbrev pub rank_in : List ℕ → ℕ
rank_in bs = at bs 5

abbrev pub size_in : List ℕ → ℕ
size_in bs = at bs 6

-- mark, version, rank and element size
abbrev pub head_bytes : ℕ → ℕ → ℕ → List ℕ
head_bytes version rank size = mark ++ little 2 version ++ rank ∷ size ∷ []

-- the fill, from byte 131 on; of version 1, which ends there, it is 0
abbrev pub fill_in : List ℕ → ℕ
fill_in bs = number (part record_length (fill_width 2) bs)

-- the groups, in the record's order: the tensor record's two arrays, strides as words, and the configuration's in their order
abbrev pub groups : Tensor → Config → List (List ℕ)
groups t c = t.shape ∷ twos_words t.stride ∷ arrays c

abbrev pub group : Tensor → Config → ℕ → List ℕ
group t c k = get_or (groups t c) k []

-- the bytes of a number of group k
abbrev pub width : ℕ → ℕ
width k = cond (ltb k wide_groups) 4 1

-- the byte at which group k starts: where the one before it ends
unfoldable pub start : ℕ → ℕ
start k = head_length + sum k (λ j. 4 * width j)

-- ---- A group of four numbers of w bytes each

-- as it stands from byte p on
abbrev pub four_in : ℕ → ℕ → List ℕ → List ℕ
four_in p w bs = array (λ d. number (part (p + d * w) w bs))

-- its bytes
abbrev pub four_bytes : ℕ → List ℕ → List ℕ
four_bytes w xs = consecutive 4 (λ d. little w (at xs d))
