-- What a count answers where it is refused, and where not. Assumes nothing.
use Prim.Native.Nat.{ℕ}
use mathlib.Core.Path.{◌≡◌}
use Rattle.faults.specs.declared.Fault.{Fault}
use Rattle.plane.specs.Helpers.{no_count, count_answer}
use Rattle.faults.proofs.Faults.{if_fault_lem, if_none}

pub count_answer_refused : (f : Fault) (x : ℕ) → (f.status ≡ 0 → ⊥) → count_answer f x ≡ no_count f
unfolding count_answer
count_answer_refused f x h = if_fault_lem f (no_count f) (record { status = 0; dim = 0; count = x }) h

pub count_answer_given : (f : Fault) (x : ℕ) → f.status ≡ 0 → count_answer f x ≡ record { status = 0; dim = 0; count = x }
unfolding count_answer
count_answer_given f x h = if_none f (no_count f) (record { status = 0; dim = 0; count = x }) h
