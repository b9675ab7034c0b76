-- How much is moved: at most as many elements as the destination has bytes, and in a stretch no more bytes change than the budget pays
-- for. Assumes nothing.
use Rattle.std.proofs.Common.{ℕ, zero, suc, ◌+◌, ◌-◌, ◌*◌, ◌<◌, ◌≤◌, List, length, refl, le_trans, mul-le-mul_right, suc-mul, mul-le-mul_left, mul-one, arith}
use native.Mathlib.Nat.{min-le_left}
use native.Mathlib.Decide.{ℕ_discrete}
use Rattle.plane.specs.declared.Tensor.{Tensor}
use Rattle.plane.specs.declared.Config.{Config}
use Rattle.plane.specs.Moves.{need}
use Rattle.plane.specs.Good.{GoodMove}
use Rattle.plane.proofs.Bounds.{element_small}
use Rattle.faults.proofs.Faults.{if_fault_lem, if_none}
use Rattle.parts.specs.Parts.{bytes_of}
use Rattle.mover.specs.declared.Job.{Job}
use Rattle.mover.specs.Element.{place, element}
use Rattle.mover.specs.Moved.{total, coord_of, stored, moved}
use Rattle.mover.specs.Within.{job_fault, verdict_of, total_of, advanced_by, further, advance_of, advance_memory}
use Rattle.mover.specs.Work.{Bounded, MoveWork, JobWork, differing, Paid, AdvanceWork}
use Rattle.mover.proofs.Laws.{judged_good, total_positive, destination_fits, job_good, moved_length, advanced_length}
use Rattle.mover.proofs.Stored.{length_element}
use Rattle.mover.proofs.Differing.{differing_none, differing_sets, differing_part}
use Rattle.mover.proofs.Fitting.{place_fits}
use Rattle.mover.proofs.Spacing.{coord_below, places_rise}

module _ {t : Tensor} {c : Config} {srcLen dstLen : ℕ} (g : GoodMove t c srcLen dstLen) where
  -- places rise with the numbers, so that of number q is at least q
  place_least : (q : ℕ) → q < total t c → q ≤ place t c (coord_of t c q)
  place_least zero h = omega arith
  place_least (suc q) h =
      omega (arith, place_least q (omega arith), places_rise g.source g.config g.destination q (suc q) (omega arith) h)

  -- the last element ends within the need
  bytes_within : total t c * t.element_size ≤ need t c
  bytes_within =
      let last = total t c - 1 in
      let some = total_positive t c g.source g.config in
      le_trans
      (mul-le-mul_right t.element_size (omega (arith, place_least last (omega arith))))
      (place_fits g.config (coord_of t c last) (coord_below g.source g.config g.destination last))

  bounded : Bounded t c dstLen
  bounded =
      let size = (element_small t.element_size g.source.element).0 in
      let most : total t c * 1 ≤ total t c * t.element_size = mul-le-mul_left (total t c) size in
      record {
        bytes = bytes_within;
        room = g.room;
        few = omega (arith, rw mul-one at most, bytes_within, g.room);
      }

pub move_work : MoveWork
move_work t c srcLen dstLen z = bounded (judged_good t c srcLen dstLen z)

pub job_work : JobWork
unfolding verdict_of
job_work n j z = ((bounded (job_good n j z)).few, omega (arith, destination_fits n j z))

-- ---- bytes that differ

-- each element changes at most as many as it has
moved_work : (t : Tensor) (c : Config) (src : List ℕ) (from n : ℕ) (dst : List ℕ) →
    differing dst (moved t c src from n dst) ≤ n * t.element_size
unfolding moved stored
moved_work t c src from zero dst = omega (arith, differing_none dst)
moved_work t c src from (suc n) dst =
    let x = coord_of t c (from + n) in
    omega (
      arith,
      suc-mul n t.element_size,
      moved_work t c src from n dst,
      length_element t c src x,
      differing_sets (element t c src x) dst (moved t c src from n dst) (place t c x * t.element_size),
    )

-- what is moved further, and no element at all, are paid for
pub advanced_work : (j : Job) (from budget : ℕ) (m : List ℕ) →
    Paid budget (further j from budget) j.tensor.element_size m (advanced_by j from (further j from budget) m)
unfolding advanced_by
advanced_work j from budget m =
    let n = further j from budget in
    let src = bytes_of j.source m in
    let dst = bytes_of j.destination m in
    record {
      few = min-le_left budget (total_of j - from);
      long = advanced_length j from n m;
      bytes = rw
          (differing_part m (moved j.tensor j.config src from n dst) j.destination.start j.destination.length
          (moved_length j.tensor j.config src from n dst))
          (moved_work j.tensor j.config src from n dst);
    }

pub none_paid : (budget size : ℕ) (m : List ℕ) → Paid budget 0 size m m
none_paid budget size m = record { few = omega arith; long = refl; bytes = omega (arith, differing_none m) }

pub advance_work : AdvanceWork
unfolding advance_of advance_memory
advance_work j from budget m =
    let f = job_fault (length m) j in
    let n = further j from budget in
    elim (ℕ_discrete f.status 0) [
      | yes z ↦ rw (if_none f 0 n z, if_none f m (advanced_by j from n m) z) (advanced_work j from budget m)
      | no z ↦ rw (if_fault_lem f 0 n z, if_fault_lem f m (advanced_by j from n m) z) (none_paid budget j.tensor.element_size m)
    ]
