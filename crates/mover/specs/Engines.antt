-- Two engines: what is claimed of the first engine's calls and the plain one's. `post` and `plain` are the contracts of two such calls, as
-- the checker reads them off the source: κ are lifetimes, a the arguments, x and y answers, s and t what was lent, as it is at the
-- exit, of which `mem` is the memory. Neither asks anything of its caller (`Decided`), so a is any input.
use Rattle.std.specs.Prelude.{◌≡◌, ℕ, ◌+◌, List}
use Rattle.mover.specs.declared.Job.{Job}
use Rattle.mover.specs.Within.{advance_memory}

-- the same status, answer and memory on all inputs, refused ones included
pub record SameOnAll
    {K : Type 0} {A R E : K → Type 0}
    (post plain : (κ : K) → A κ → R κ → E κ → Type 0) (mem : (κ : K) → E κ → List ℕ) : Type 0 where
  -- whatever the first engine may answer and leave, the plain one may, and the other way round
  pub there : (κ : K) (a : A κ) (x : R κ) (s : E κ) → post κ a x s → plain κ a x s
  pub back : (κ : K) (a : A κ) (x : R κ) (s : E κ) → plain κ a x s → post κ a x s
  -- and where one has answered x and left s, and the other y and t, these are the same
  pub answer : (κ : K) (a : A κ) (x y : R κ) (s t : E κ) → post κ a x s → plain κ a y t → x ≡ y
  pub memory : (κ : K) (a : A κ) (x y : R κ) (s t : E κ) → post κ a x s → plain κ a y t → mem κ s ≡ mem κ t

-- a stretch of k elements, then one of l more, leave what one of k + l leaves
abbrev pub StretchesJoin : Type 0
StretchesJoin =
    (j : Job) (k l : ℕ) (m : List ℕ) → advance_memory j k l (advance_memory j 0 k m) ≡ advance_memory j 0 (k + l) m

-- an engine goes on from the first n elements of a memory m, whichever engine put them there: after `budget` more the first n + budget
-- are in place. So stretches may be moved by either engine, in any mixture. `lent`, `job`, `from` and `budget` are a stretch's arguments
pub record GoesOn
    {K : Type 0} {A R E : K → Type 0} (post : (κ : K) → A κ → R κ → E κ → Type 0)
    (lent : (κ : K) → A κ → List ℕ) (job : (κ : K) → A κ → Job) (from budget : (κ : K) → A κ → ℕ)
    (mem : (κ : K) → E κ → List ℕ) : Type 0 where
  pub onward : (κ : K) (a : A κ) (x : R κ) (s : E κ) (m : List ℕ) →
      lent κ a ≡ advance_memory (job κ a) 0 (from κ a) m → post κ a x s →
      mem κ s ≡ advance_memory (job κ a) 0 (from κ a + budget κ a) m
