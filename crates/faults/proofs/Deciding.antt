-- A contract that is an equation decides its outcome (`specs/Decided.antt`). Assumes nothing.
use mathlib.Core.Path.{◌≡◌, sym, ◌∙◌}
use Rattle.faults.specs.Decided.{Decided}

-- a contract that says what the result is
pub by_equation : {K : Type 0} {A R E : K → Type 0} {f : (κ : K) → A κ → R κ} → Decided {E = E} (λ κ a. Unit) (λ κ a x s. x ≡ f κ a)
by_equation = record { free = λ κ a. tt; one = λ κ a x y s t p q. p ∙ sym q }

-- and what is left of what was lent
pub by_first : {K : Type 0} {A R E : K → Type 0} {f : (κ : K) → A κ → R κ} {rest : (κ : K) → A κ → R κ → E κ → Type 0} → Decided (λ κ a. Unit) (λ κ a x s. (x ≡ f κ a) × rest κ a x s)
by_first = record { free = λ κ a. tt; one = λ κ a x y s t p q. p.0 ∙ sym q.0 }
