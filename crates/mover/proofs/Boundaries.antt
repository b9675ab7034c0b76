-- Every element of a job that passes stands on a boundary of its size: the parts start on one, and all places count elements. Of a job
-- that 34 refuses, one does not. Assumes nothing.
use Rattle.std.proofs.Common.{◌≡◌, ℕ, ◌+◌, ◌*◌, ◌%◌, ◌<◌, false, not, ◌&&◌, eqb, sym, refl, ap, ◌∙◌, true≢false, arith, eq-eqb, ne_eqb, eqb-true}
use native.Mathlib.Nat.{add-mul-mod_self_right}
use native.Mathlib.Decide.{ℕ_discrete}
use borrow.Author.Tests.{not-false}
use Rattle.faults.proofs.Bools.{either_clear, neither, not_second}
use Rattle.faults.proofs.Chains.{unbroken, exact_fault}
use Rattle.plane.specs.Arrays.{at}
use Rattle.plane.specs.Good.{GoodMove}
use Rattle.plane.specs.Helpers.{sub_byte}
use Rattle.plane.proofs.Rules.{count_positive}
use Rattle.parts.specs.declared.Part.{Part}
use Rattle.mover.specs.declared.Job.{Job}
use Rattle.mover.specs.Element.{dim_of}
use Rattle.mover.specs.Within.{off_boundary, off_boundaries, job_rules, job_fault}
use Rattle.mover.specs.Demand2.{IsCoordinate, KeptAt}
use Rattle.mover.specs.Claims.{Boundary, OnBoundaries, JobOnBoundaries, JobOffBoundaries, SubOnBoundary}
use Rattle.mover.proofs.Exact.{given_34}
use Rattle.mover.proofs.Making.{extent_is}

-- ---- a part, and what stands k elements behind its start

on_boundary : (z : ℕ) (p : Part) → off_boundary z p ≡ false → (k : ℕ) → Boundary z (p.start + k * z)
on_boundary z p e k h =
    let w : not (eqb (p.start % z) 0) ≡ false = rw (ne_eqb z 3 h) at e in
    add-mul-mod_self_right p.start k z ∙ eqb-true (p.start % z) 0 (not-false (eqb (p.start % z) 0) w)

pub not_off : (z : ℕ) (p : Part) → Boundary z p.start → off_boundary z p ≡ false
not_off z p b = elim (ℕ_discrete z 3) [
  | yes h ↦ simp (eq-eqb z 3 h)
  | no h ↦ not_second (not (eqb z 3)) _ (ap not (eq-eqb (p.start % z) 0 (b h)))
]

behind_not_off : (z : ℕ) (p : Part) (k : ℕ) → Boundary z (p.start + k * z) → off_boundary z p ≡ false
behind_not_off z p k b = not_off z p (λ h. sym (add-mul-mod_self_right p.start k z) ∙ b h)

-- ---- a job that passes

pub job_on_boundaries : JobOnBoundaries
unfolding job_fault
job_on_boundaries n j z =
    let s = j.tensor.element_size in
    let w = either_clear (off_boundary s j.source) (off_boundary s j.destination) (unbroken (job_rules n j) (omega arith) z).1.1.0 in
    record {
      destination = λ x k. on_boundary s j.destination w.1 _;
      source = λ x k kept. on_boundary s j.source w.0 _;
    }

-- ---- a job that 34 refuses

module _ (j : Job) (g : GoodMove j.tensor j.config j.source.length j.destination.length) where
  -- the first element that is kept
  abbrev first : ℕ → ℕ
  first i = at j.config.pre (dim_of j.config i)

  first_kept : (i : ℕ) → i < j.tensor.rank → KeptAt j.tensor j.config first i
  first_kept i h = (omega arith, omega (arith, count_positive g.config (dim_of j.config i) (g.config.perm i h)))

  first_is : IsCoordinate j.tensor j.config first
  first_is i h = omega (arith, extent_is j.config g.source i h, count_positive g.config (dim_of j.config i) (g.config.perm i h))

  not_off_boundaries : OnBoundaries j → off_boundaries j ≡ false
  not_off_boundaries on =
      neither _ _
      (behind_not_off j.tensor.element_size j.source _ (on.source first first_is first_kept))
      (behind_not_off j.tensor.element_size j.destination _ (on.destination first first_is))

pub job_off_boundaries : JobOffBoundaries
unfolding job_fault
job_off_boundaries n j e on =
    let w = given_34 n j _ (((exact_fault (job_rules n j) (omega arith)).gives 34 _ (omega arith)).0 (e, refl)) in
    true≢false (sym w.1 ∙ not_off_boundaries j w.0 on)

-- ---- a sub-tensor

pub sub_on_boundary : SubOnBoundary
unfolding sub_byte
sub_on_boundary t s p q e =
    let z = t.element_size in
    ap (λ (k : ℕ). not (eqb z 3) && not (eqb k 0)) (ap (λ (k : ℕ). k % z) e ∙ add-mul-mod_self_right p.start _ z)
