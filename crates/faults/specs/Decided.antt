-- What "the contract decides the outcome" says. `pre` and `post` are a call's contract as the checker reads it off the source: κ are
-- lifetimes, a the arguments, x and y results, s and t what was lent, as it is at the exit.
use Rattle.std.specs.Prelude.{◌≡◌}

-- nothing is asked of the caller, and two results that the contract allows are one
pub record Decided
    {K : Type 0} {A R E : K → Type 0}
    (pre : (κ : K) → A κ → Type 0) (post : (κ : K) → A κ → R κ → E κ → Type 0) : Type 0 where
  pub free : (κ : K) (a : A κ) → pre κ a
  pub one : (κ : K) (a : A κ) (x y : R κ) (s t : E κ) → post κ a x s → post κ a y t → x ≡ y

-- what is read off the result or off what was lent: two outcomes that the contract allows have the same
pub record OneLeft
    {K : Type 0} {A R E : K → Type 0} {B : Type 0}
    (post : (κ : K) → A κ → R κ → E κ → Type 0) (off : (κ : K) → R κ → E κ → B) : Type 0 where
  pub one : (κ : K) (a : A κ) (x y : R κ) (s t : E κ) → post κ a x s → post κ a y t → off κ x s ≡ off κ y t
