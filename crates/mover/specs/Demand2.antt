-- Demand 2: what is claimed of the destination after an accepted move, and after its first elements, on the paper's terms.
use Rattle.std.specs.Prelude.{◌≡◌, ℕ, ◌+◌, ◌*◌, ◌<◌, ◌≤◌, ◌⊎◌, List, length, ◌≢◌, slice_index}
use Rattle.plane.specs.declared.Tensor.{Tensor}
use Rattle.plane.specs.declared.Config.{Config}
use Rattle.plane.specs.Arrays.{at}
use Rattle.plane.specs.Moves.{count, judge_of}
use Rattle.mover.specs.Element.{dim_of, k_of, source_place, place, padded}
use Rattle.mover.specs.Moved.{extent_at, total, coord_of, moved, move_memory}

-- ---- one element, at the coordinates x

-- x is a destination coordinate: in each dimension it is below the extent
abbrev pub IsCoordinate : Tensor → Config → (ℕ → ℕ) → Type 0
IsCoordinate t c x = (i : ℕ) → i < t.rank → x i < extent_at t c i

-- in destination dimension i, which is source dimension s = perm[i], k = x[i] - pre[s] is from 0 to count - 1
abbrev pub KeptAt : Tensor → Config → (ℕ → ℕ) → ℕ → Type 0
KeptAt t c x i = (at c.pre (dim_of c i) ≤ x i) × (k_of c i (x i) < count t c (dim_of c i))

-- the byte at which it starts in the destination, the byte past its last there, and the byte at which its source element starts
abbrev pub byte_at : Tensor → Config → (ℕ → ℕ) → ℕ
byte_at t c x = place t c x * t.element_size

abbrev pub end_at : Tensor → Config → (ℕ → ℕ) → ℕ
end_at t c x = byte_at t c x + t.element_size

abbrev pub source_byte : Tensor → Config → (ℕ → ℕ) → ℕ
source_byte t c x = source_place t c x * t.element_size

-- byte k is none of its bytes
abbrev pub Spares : Tensor → Config → (ℕ → ℕ) → ℕ → Type 0
Spares t c x k = (k < byte_at t c x) ⊎ (end_at t c x ≤ k)

-- it is in place in the destination e
pub record InPlaceAt (t : Tensor) (c : Config) (src e : List ℕ) (x : ℕ → ℕ) : Type 0 where
  -- it lies in the destination
  pub inside : end_at t c x ≤ length e
  -- if every k is from 0 to count - 1, each byte is the source element's, which lies in the source
  pub source : ((i : ℕ) → i < t.rank → KeptAt t c x i) → (b : ℕ) → b < t.element_size →
      (source_byte t c x + b < length src) × (slice_index e (byte_at t c x + b) ≡ slice_index src (source_byte t c x + b))
  -- if some k is not, each byte is a padded element's
  pub filled : (i : ℕ) → i < t.rank → (KeptAt t c x i → ⊥) → (b : ℕ) → b < t.element_size →
      slice_index e (byte_at t c x + b) ≡ slice_index (padded t c) b

-- ---- the whole move: the destination dst has become e

pub record Meant (t : Tensor) (c : Config) (src dst e : List ℕ) : Type 0 where
  -- it is as long as it was
  pub long : length e ≡ length dst
  -- the element of every coordinate is in place
  pub placed : (x : ℕ → ℕ) → IsCoordinate t c x → InPlaceAt t c src e x
  -- coordinates that differ have no byte in common
  pub apart : (x y : ℕ → ℕ) → IsCoordinate t c x → IsCoordinate t c y → (i : ℕ) → i < t.rank → (x i ≢ y i) →
      (end_at t c x ≤ byte_at t c y) ⊎ (end_at t c y ≤ byte_at t c x)
  -- a byte that belongs to the element of no coordinate is as it was
  pub rest : (k : ℕ) → ((x : ℕ → ℕ) → IsCoordinate t c x → Spares t c x k) → slice_index e k ≡ slice_index dst k

-- what it says of bytes that belong to no element
abbrev pub RestStays : Tensor → Config → List ℕ → List ℕ → Type 0
RestStays t c dst e = (k : ℕ) → ((x : ℕ → ℕ) → IsCoordinate t c x → Spares t c x k) → slice_index e k ≡ slice_index dst k

-- ---- the first n elements, in destination order with the last coordinate fastest: element number q is that of coordinate coord_of t c q

-- with these moved, the destination dst has become e
pub record FirstsMeant (t : Tensor) (c : Config) (src dst : List ℕ) (n : ℕ) (e : List ℕ) : Type 0 where
  -- it is as long as it was
  pub long : length e ≡ length dst
  -- each of them is in place, and ends before the next begins
  pub placed : (q : ℕ) → q < n → InPlaceAt t c src e (coord_of t c q)
  pub apart : (q r : ℕ) → q < r → r < n → end_at t c (coord_of t c q) ≤ byte_at t c (coord_of t c r)
  -- a byte that belongs to none of them is as it was
  pub rest : (k : ℕ) → ((q : ℕ) → q < n → Spares t c (coord_of t c q) k) → slice_index e k ≡ slice_index dst k

-- ---- the sentences

-- the move is accepted
abbrev pub Accepted : Tensor → Config → List ℕ → List ℕ → Type 0
Accepted t c src dst = (judge_of t c (length src) (length dst)).status ≡ 0

-- what an accepted move leaves; and no other destination is so
abbrev pub AcceptedMeant : Type 0
AcceptedMeant =
    (t : Tensor) (c : Config) (src dst : List ℕ) → Accepted t c src dst → Meant t c src dst (move_memory t c src dst)

abbrev pub AcceptedOnly : Type 0
AcceptedOnly =
    (t : Tensor) (c : Config) (src dst : List ℕ) → Accepted t c src dst →
    (e : List ℕ) → Meant t c src dst e → e ≡ move_memory t c src dst

-- what the first n elements of an accepted one leave; and no other destination is so
abbrev pub AcceptedFirsts : Type 0
AcceptedFirsts =
    (t : Tensor) (c : Config) (src dst : List ℕ) → Accepted t c src dst →
    (n : ℕ) → n ≤ total t c → FirstsMeant t c src dst n (moved t c src 0 n dst)

abbrev pub AcceptedFirstsOnly : Type 0
AcceptedFirstsOnly =
    (t : Tensor) (c : Config) (src dst : List ℕ) → Accepted t c src dst →
    (n : ℕ) (e : List ℕ) → n ≤ total t c → FirstsMeant t c src dst n e → e ≡ moved t c src 0 n dst

-- a refused move leaves the destination as it was
abbrev pub RefusedUnchanged : Type 0
RefusedUnchanged = (t : Tensor) (c : Config) (src dst : List ℕ) → (Accepted t c src dst → ⊥) → move_memory t c src dst ≡ dst
