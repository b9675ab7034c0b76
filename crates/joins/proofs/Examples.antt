-- A plane that can be set into a larger one, and two that can be joined, with what the moves leave. Assumes nothing.
use Prim.Native.Nat.{ℕ, zero, suc, ◌+◌, ◌≤◌, ◌<◌}
use native.Mathlib.Omega.{arith}
use mathlib.Core.Path.{◌≡◌, refl}
use mathlib.Core.Bool.{false}
use Rattle.plane.specs.Arrays.{at, firsts_or, sum, product, some, every}
use Rattle.faults.specs.Faults.{when, ◌or_else◌, first, lowest, outward}
use Rattle.plane.specs.Signs.{sizes}
use Rattle.plane.specs.Planes.{shape_at, down_at, inner, resolved, bad_stride_at, span, source_fault}
use Rattle.plane.specs.Moves.{count, extent, dst_extents, need, bad_dst_offset_at, config_fault, dst_fault, move_fault}
use Rattle.plane.proofs.Good.{source_good}
use Rattle.ready_made.specs.ReadyMade.{cut_to, made_for}
use Rattle.mover.specs.Element.{is_kept, are_kept, source_place, place, element}
use Rattle.mover.specs.Moved.{total, per_step, coord_of, stored, moved, move_memory}
use Rattle.joins.specs.Claims.{joined_of}
use Rattle.joins.specs.Examples.{square, rows, right, colour, alpha, joined_strides, Met}

-- dimension by dimension
fits : (i : ℕ) → i < 2 → (at right i + shape_at square i ≤ shape_at rows i) × (at right i ≤ 65535)
fits zero h = (omega arith, omega arith)
fits (suc zero) h = (omega arith, omega arith)
fits (suc (suc i)) h = (omega arith, omega arith)

up : (i : ℕ) → down_at rows i ≡ false
up zero = refl
up (suc zero) = refl
up (suc (suc zero)) = refl
up (suc (suc (suc zero))) = refl
up (suc (suc (suc (suc i)))) = refl

shape : (i : ℕ) → (i ≡ 2 → ⊥) → shape_at alpha i ≡ shape_at colour i
shape zero n = refl
shape (suc zero) n = refl
shape (suc (suc zero)) n = absurd (n refl)
shape (suc (suc (suc i))) n = refl

pub met : Met
unfolding sizes source_fault when ◌or_else◌ lowest first outward bad_stride_at resolved inner firsts_or span sum product some every made_for cut_to move_memory move_fault config_fault dst_fault need extent count dst_extents bad_dst_offset_at moved stored coord_of per_step total element place source_place are_kept is_kept
met = record {
  settable = record {
    rank = refl;
    element = refl;
    source = (refl, omega arith);
    strides = (source_good rows refl).strides;
    up = λ i h. up i;
    fits = λ i h. (fits i h).0;
    limit = λ i h. (fits i h).1;
    room = omega arith;
  };
  set = refl;
  joinable = record {
    along = omega arith;
    rank = refl;
    element = refl;
    shape = λ i h n. shape i n;
    first = (refl, omega arith);
    second = (refl, omega arith);
    strides = (source_good (joined_of colour alpha 2 joined_strides) refl).strides;
    room = omega arith;
  };
  joined = refl;
}
