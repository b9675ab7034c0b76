-- The mover keeps the laws that the crate serial asks for. Assumes nothing.
use mathlib.Core.Path.{◌≡◌, refl, sym, ◌∙◌}
use mathlib.Core.Logic.{⊎_elim}
use Prim.Native.Nat.{ℕ}
use native.Mathlib.Omega.{arith}
use mathlib.Core.Bool.{false, ◌||◌}
use mathlib.Core.List.{List, [], ◌∷◌}
use lib.ListN.{length}
use lib.Seq.{length-sets}
use Rattle.faults.proofs.Bools.{either_clear}
use Rattle.mover.specs.declared.Job.{Job}
use Rattle.mover.specs.Within.{meets, job_fault, total_of, advanced_by}
use Rattle.mover.proofs.Laws.{moved_none, moved_more, moved_length, source_fits, destination_fits, job_apart, job_whole, job_judged, advanced_length, advanced_outside, advanced_whole}
use Rattle.mover.proofs.Demand2.{demand_2}
use Rattle.mover.proofs.Meeting.{meets_apart}
use Rattle.parts.specs.Parts.{Apart, bytes_of, replaced}
use Rattle.serial.specs.Machine.{applied, whole_move, Clear}
use Rattle.serial.specs.Claims.{Lawful, Every, one_by_one}
use Rattle.serial.proofs.Applied.{applied_whole}
use Rattle.transfers.specs.Slots.{breaks}
use Rattle.transfers.specs.Demand3.{the_mover, Log, Passes, WholeMeant, EachMeant, WholeMoves}

own_apart : (n : ℕ) (j : Job) → (job_fault n j).status ≡ 0 → Apart j.source j.destination
own_apart n j z i a b = ⊎_elim {C = ⊥} (λ u. omega arith) (λ v. omega arith) (job_apart n j z)

pub lawful : Lawful the_mover
lawful = record {
  source_fits = source_fits;
  destination_fits = destination_fits;
  parts_apart = own_apart;
  none = λ j n s d. moved_none j.tensor j.config s n d;
  more = λ j n k l s d. moved_more j.tensor j.config s n k l d;
  same_length = λ j n k s d. moved_length j.tensor j.config s n k d;
  whole = λ n j s d z p q. job_whole n j z s d p q;
}

-- what a step moves is what the mover says
pub applied_advanced : (j : Job) (n k : ℕ) (m : List ℕ) → applied the_mover j n k m ≡ advanced_by j n k m
unfolding applied replaced advanced_by
applied_advanced j n k m = refl

-- ---- a whole move inside one memory is the move of demand 2 between the two parts

module _ (m : List ℕ) (j : Job) (z : (job_fault (length m) j).status ≡ 0) where
  -- all its elements
  whole_advanced : whole_move the_mover j m ≡ advanced_by j 0 (total_of j) m
  whole_advanced = sym (applied_whole the_mover lawful (length m) j z m refl) ∙ applied_advanced j 0 (total_of j) m

  whole_meant : WholeMeant j m
  whole_meant = record {
    passed = z;
    destination =
        rw (whole_advanced, advanced_whole m j z)
        (demand_2 j.tensor j.config (bytes_of j.source m) (bytes_of j.destination m) (job_judged m j z));
    outside = λ k o. rw whole_advanced (advanced_outside j 0 (total_of j) m k o);
    long = rw whole_advanced (advanced_length j 0 (total_of j) m);
  }

-- and so is each of those done one after another, for every memory between is as long as the first
module _ (m₀ : List ℕ) where
  one_by_one_long : (log : Log) → length (one_by_one the_mover m₀ log) ≡ length m₀
  unfolding one_by_one whole_move replaced
  one_by_one_long [] = refl
  one_by_one_long (e ∷ older) = simp length-sets (one_by_one_long older)

  each_meant : (log : Log) → Every (λ e. Passes (length m₀) e.job) log → EachMeant m₀ log
  each_meant [] p = tt
  each_meant (e ∷ older) p =
      (whole_meant (one_by_one the_mover m₀ older) e.job (rw (one_by_one_long older) p.0), each_meant older p.1)

pub whole_moves : WholeMoves
whole_moves = record { one = whole_meant; each = each_meant; long = one_by_one_long }

-- ---- the rule between two slots

pub clear_of : (j k : Job) → breaks j k ≡ false → Clear the_mover j k
unfolding breaks
clear_of j k e =
    let a = either_clear (meets j.destination k.destination || meets j.destination k.source) (meets j.source k.destination) e in
    let b = either_clear (meets j.destination k.destination) (meets j.destination k.source) a.0 in
    record {
      to_source = meets_apart j.destination k.source b.1;
      to_destination = meets_apart j.destination k.destination b.0;
      from_source = λ i x y. meets_apart j.source k.destination a.1 i y x;
    }
