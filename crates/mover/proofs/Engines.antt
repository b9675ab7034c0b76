-- The plain engine's two calls give the same status, answer and memory as the first engine's on all inputs, refused ones included, and
-- for every number of elements at which they stop; so stretches may be moved by either, in any mixture. Assumes nothing.
use Rattle.std.proofs.Common.{◌≡◌, ℕ, ◌+◌, List, length, sym, ap, ◌∙◌, zero-add, arith}
use native.Mathlib.Decide.{ℕ_discrete, dec_le}
use Rattle.faults.proofs.Faults.{if_none}
use Rattle.mover.specs.declared.Job.{Job}
use Rattle.mover.specs.Within.{job_fault, total_of, further, advanced_by, advance_of, advance_memory}
use Rattle.mover.proofs.Exact.{advance_unchanged}
use Rattle.mover.specs.Engines.{SameOnAll, StretchesJoin, GoesOn}
use Rattle.mover.proofs.Laws.{advanced_length, advanced_none, advanced_more}
use Rattle.mover.proofs.moves.move_plane.Reads as move-plane
use Rattle.mover.proofs.plain.move_plane.Reads as plain-move-plane
use Rattle.mover.proofs.within.advance.Reads as advance
use Rattle.mover.proofs.plain.advance.Reads as plain-advance

-- ---- the same on all inputs

pub move_plane_same : SameOnAll move-plane.Post plain-move-plane.Post (λ κ s. s.1.1.1.0.now)
move_plane_same = record { there = λ κ a x s p. p; back = λ κ a x s p. p; answer = λ κ a x y s t p q. p.0 ∙ sym q.0; memory = λ κ a x y s t p q. p.1 ∙ sym q.1 }

-- from every number on, and for every budget
pub advance_same : SameOnAll advance.Post plain-advance.Post (λ κ s. s.0.now)
advance_same = record { there = λ κ a x s p. p; back = λ κ a x s p. p; answer = λ κ a x y s t p q. p.0 ∙ sym q.0; memory = λ κ a x y s t p q. p.1 ∙ sym q.1 }

-- ---- stretches join

-- what a stretch leaves where no number refuses the job
accepted : (j : Job) (from budget : ℕ) (m : List ℕ) → (job_fault (length m) j).status ≡ 0 → advance_memory j from budget m ≡ advanced_by j from (further j from budget) m
unfolding advance_memory
accepted j from budget m z = if_none (job_fault (length m) j) m (advanced_by j from (further j from budget) m) z

module _ (j : Job) (k l : ℕ) (m : List ℕ) (z : (job_fault (length m) j).status ≡ 0) where
  abbrev then : List ℕ
  then = advanced_by j 0 (further j 0 k) m

  then_clear : (job_fault (length then) j).status ≡ 0
  then_clear = rw (advanced_length j 0 (further j 0 k) m) z

  one_stretch : advanced_by j k (further j k l) then ≡ advanced_by j 0 (further j 0 (k + l)) m
  one_stretch = elim (dec_le k (total_of j)) [
    | yes h ↦
        let a : further j 0 k ≡ k = omega arith in
        let b : k + further j k l ≡ further j 0 (k + l) = omega arith in
        ap (λ (n : ℕ). advanced_by j k (further j k l) (advanced_by j 0 n m)) a ∙
        rw (zero-add k) at (advanced_more m j z 0 k (further j k l)) ∙ ap (λ (n : ℕ). advanced_by j 0 n m) b
    | no h ↦
        let a : further j k l ≡ 0 = omega arith in
        let b : further j 0 k ≡ further j 0 (k + l) = omega arith in
        ap (λ (n : ℕ). advanced_by j k n then) a ∙ advanced_none then j then_clear k ∙ ap (λ (n : ℕ). advanced_by j 0 n m) b
  ]

pub stretches_join : StretchesJoin
unfolding advance_of
stretches_join j k l m = elim (ℕ_discrete (job_fault (length m) j).status 0) [
  | yes z ↦
      ap (λ (e : List ℕ). advance_memory j k l e) (accepted j 0 k m z) ∙ accepted j k l (advanced_by j 0 (further j 0 k) m) (then_clear j k l m z) ∙
      one_stretch j k l m z ∙ sym (accepted j 0 (k + l) m z)
  | no z ↦ ap (λ (e : List ℕ). advance_memory j k l e) (advance_unchanged j 0 k m z) ∙ advance_unchanged j k l m z ∙ sym (advance_unchanged j 0 (k + l) m z)
]

-- a contract that says of the memory left what a stretch's does
module _ {K : Type 0} {A R E : K → Type 0} (told : (κ : K) → A κ → R κ → E κ → Type 0)
    (lent : (κ : K) → A κ → List ℕ) (job : (κ : K) → A κ → Job) (from budget : (κ : K) → A κ → ℕ) (left : (κ : K) → E κ → List ℕ) where
  by_memory : GoesOn (λ κ a x s. told κ a x s × (left κ s ≡ advance_memory (job κ a) (from κ a) (budget κ a) (lent κ a))) lent job from budget left
  by_memory = record {
    onward = λ κ a x s m e p.
        p.1 ∙ ap (λ (l : List ℕ). advance_memory (job κ a) (from κ a) (budget κ a) l) e ∙
        stretches_join (job κ a) (from κ a) (budget κ a) m;
  }

pub advance_goes_on : GoesOn advance.Post (λ κ a. a.0.now) (λ κ a. a.1.0) (λ κ a. a.1.1.0) (λ κ a. a.1.1.1.0) (λ κ s. s.0.now)
advance_goes_on = by_memory _ _ _ _ _ _

pub plain_advance_goes_on : GoesOn plain-advance.Post (λ κ a. a.0.now) (λ κ a. a.1.0) (λ κ a. a.1.1.0) (λ κ a. a.1.1.1.0) (λ κ s. s.0.now)
plain_advance_goes_on = by_memory _ _ _ _ _ _
