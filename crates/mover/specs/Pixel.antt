-- One element of the destination, before anything is moved: the coordinate x is an array by destination dimension.
use Rattle.std.specs.Prelude.{ℕ, Bool, false, not, List, length, nat_le, nat_lt}
use Rattle.faults.specs.declared.Fault.{Fault}
use Rattle.faults.specs.Faults.{if_fault, Rules, overall, from_first, ◌then◌, first_fault}
use Rattle.plane.specs.declared.Tensor.{Tensor}
use Rattle.plane.specs.declared.Config.{Config}
use Rattle.plane.specs.Arrays.{at, firsts, zeros}
use Rattle.plane.specs.Planes.{span, source_rules}
use Rattle.plane.specs.Moves.{config_rules, dst_rules}
use Rattle.mover.specs.declared.PixelAnswer.{PixelAnswer}
use Rattle.mover.specs.Element.{are_kept, element}
use Rattle.mover.specs.Moved.{extent_at}

-- 35: a coordinate at or above its extent
abbrev pub bad_coordinate : ℕ → ℕ → Bool
bad_coordinate extent x = nat_le extent x

-- 1 to 12 as for a move, then 35: no destination is lent, so there is no 13
abbrev pub pixel_rules : Tensor → Config → ℕ → List ℕ → Rules
pixel_rules t c srcLen x =
    source_rules t then
    overall 5 (nat_lt srcLen (span t)) then
    config_rules t c then
    dst_rules t c then
    from_first 35 t.rank (λ i. bad_coordinate (extent_at t c i) (at x i))

unfoldable pub pixel_fault : Tensor → Config → ℕ → List ℕ → Fault
pixel_fault t c srcLen x = first_fault (pixel_rules t c srcLen x)

-- the bytes of the element at x, with 0 past the element size
abbrev pub pixel_bytes : Tensor → Config → List ℕ → List ℕ → List ℕ
pixel_bytes t c src x = firsts t.element_size (at (element t c src (at x)))

-- these, and whether it is padding; besides a fault zeros, and not padding
unfoldable pub pixel_of : Tensor → Config → List ℕ → List ℕ → PixelAnswer
pixel_of t c src x =
    let f = pixel_fault t c (length src) x in
    record {
      status = f.status;
      dim = f.dim;
      bytes = if_fault f zeros (pixel_bytes t c src x);
      padding = if_fault f false (not (are_kept t c (at x)));
    }
