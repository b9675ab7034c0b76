-- The elements of a move in destination order, the last coordinate fastest, and the memory after a whole move.
use Rattle.std.specs.Prelude.{ℕ, zero, suc, ◌+◌, ◌-◌, ◌*◌, ◌/◌, ◌%◌, List, length}
use Rattle.std.proofs.lemmas.List.Edits.{sets}
use Rattle.plane.specs.declared.Tensor.{Tensor}
use Rattle.plane.specs.declared.Config.{Config}
use Rattle.plane.specs.Arrays.{at, product}
use Rattle.faults.specs.Faults.{if_fault}
use Rattle.plane.specs.Moves.{dst_extents, move_fault}
use Rattle.mover.specs.Element.{place, element}

abbrev pub extent_at : Tensor → Config → ℕ → ℕ
extent_at t c i = at (dst_extents t c) i

-- how many elements the destination has
unfoldable pub total : Tensor → Config → ℕ
total t c = product t.rank (extent_at t c)

-- how many elements one step in dimension i passes: the product of the extents after it
unfoldable pub per_step : Tensor → Config → ℕ → ℕ
per_step t c i = product (t.rank - suc i) (λ k. extent_at t c (suc i + k))

-- coordinate i of element number q
unfoldable pub coord_of : Tensor → Config → ℕ → ℕ → ℕ
coord_of t c q i = q / per_step t c i % extent_at t c i

-- the destination dst with element number q stored. (`sets dst b e` is dst with the bytes from b on replaced by e)
unfoldable pub stored : Tensor → Config → List ℕ → ℕ → List ℕ → List ℕ
stored t c src q dst = sets dst (place t c (coord_of t c q) * t.element_size) (element t c src (coord_of t c q))

-- the destination with the n elements from number `from` on stored, in order
unfoldable pub moved : Tensor → Config → List ℕ → ℕ → ℕ → List ℕ → List ℕ
moved t c src from zero dst = dst
moved t c src from (suc n) dst = stored t c src (from + n) (moved t c src from n dst)

-- the destination after a move: a refused one changes nothing
unfoldable pub move_memory : Tensor → Config → List ℕ → List ℕ → List ℕ
move_memory t c src dst =
    if_fault (move_fault t c (length src) (length dst)) dst (moved t c src 0 (total t c) dst)
