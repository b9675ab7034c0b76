use Rattle.std.proofs.Common.{◌≡◌, ◌*◌}
use Rattle.mover.proofs.Filling.{Thirds}
use Rattle.mover.proofs.shuffles.threes.Given as goal

abbrev pub invariant-loop : goal.invariant-loop
invariant-loop l = Thirds l.t l.o l.j × (l.k ≡ l.counter * 4) × (l.j ≡ l.counter * 3)
