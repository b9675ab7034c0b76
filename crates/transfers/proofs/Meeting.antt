-- When two jobs break the rule. Assumes nothing.
use mathlib.Core.Path.{◌≡◌, refl}
use mathlib.Core.Bool.{Bool, true, false, ◌||◌, or_comm}
use Rattle.mover.specs.declared.Job.{Job}
use Rattle.mover.specs.Within.{meets}
use Rattle.mover.proofs.Meeting.{meets_either, empty_meets}
use Rattle.transfers.specs.Slots.{breaks}

swapped : (a b c : Bool) → (a || b || c) ≡ (a || c || b)
swapped true b c = refl
swapped false b c = or_comm b c

-- the rule is the same both ways
pub breaks_either : (j k : Job) → breaks j k ≡ breaks k j
unfolding breaks
breaks_either j k =
    rw (meets_either j.destination k.destination, meets_either j.destination k.source, meets_either j.source k.destination)
    (swapped (meets k.destination j.destination) (meets k.source j.destination) (meets k.destination j.source))

-- empty parts break it with none
pub empty_breaks : (j k : Job) → j.source.length ≡ 0 → j.destination.length ≡ 0 → breaks j k ≡ false
unfolding breaks
empty_breaks j k p q =
    rw (empty_meets j.destination k.destination q, empty_meets j.destination k.source q, empty_meets j.source k.destination p)
