-- Laws of a run: where it ends, what its elements leave, `run_stored`, and a loop that stores them. Assumes nothing.
use Rattle.std.proofs.Common.{◌≡◌, ℕ, zero, suc, ◌+◌, ◌-◌, ◌%◌, ◌^◌, ◌<◌, ◌≤◌, min, Bool, true, false, leb, ◌⊎◌, List, length, get_or, drop, sym, refl, ap, ◌∙◌, inl, inr, ⊎_elim, add-one, arith, le-ltb}
use borrow.Author.Tests.{lt-leb}
use lib.Seq.{sets, length-sets}
use Rattle.faults.proofs.Bools.{not_second}
use Rattle.mover.specs.declared.plan.Axis.{Axis}
use Rattle.mover.specs.declared.elements.Course.{Course}
use Rattle.mover.specs.declared.elements.Origin.{Origin}
use Rattle.mover.specs.declared.elements.Origin.TheVariants.{Lent, Inside}
use Rattle.mover.specs.Private.Elements.{source_bytes, axis_kept}
use Rattle.mover.specs.Private.Adding.{along}
use Rattle.mover.specs.Private.Runs.{Alike, run_stored, kept_bytes, Parted}
use Rattle.mover.proofs.Keeping.{range_test}
use Rattle.mover.proofs.Bytes.{get_d_sets_out, length_take_most, bytes_same}
use Rattle.mover.proofs.Adding.{along_none, along_next}

-- ---- the run from a coordinate on

module _ (x : Axis) (c most : ℕ) {n : ℕ} (f : x.pre + x.count ≤ x.extent) (l : c < x.extent) (m : 0 < most) where
  -- padding before, what is kept, padding after it, and where another coordinate is padding
  pub run_before : c < x.pre → n ≡ min (x.pre - c) most → Alike x true c most (record { kept = false; n = n })
  unfolding axis_kept
  run_before h e = record {
    some = omega arith;
    cut = omega arith;
    row = omega arith;
    same = λ k g. rw (lt-leb x.pre (c + k) (omega arith));
    full = λ g. inl (omega arith);
  }

  pub run_kept : x.pre ≤ c → c - x.pre < x.count → n ≡ min (x.count - (c - x.pre)) most → Alike x true c most (record { kept = true; n = n })
  unfolding axis_kept
  run_kept h g e = record {
    some = omega arith;
    cut = omega arith;
    row = omega arith;
    same = λ k i. range_test x.pre (c + k) x.count (omega arith, omega arith);
    full = λ i. inr (omega arith);
  }

  pub run_behind : {outer : Bool} → (outer ≡ false) ⊎ ((x.pre ≤ c) × (x.count ≤ c - x.pre)) → n ≡ min (x.extent - c) most → Alike x outer c most (record { kept = false; n = n })
  unfolding axis_kept
  run_behind {outer} h e = record {
    some = omega arith;
    cut = omega arith;
    row = omega arith;
    same = λ k i.
        ⊎_elim
        (λ u. rw u)
        (λ v. not_second outer (axis_kept x (c + k)) (rw (le-ltb (c + k - x.pre) x.count (omega arith)) (not_second (leb x.pre (c + k)) false refl)))
        h;
    full = λ i. inr (omega arith);
  }

-- ---- what it stores

module _ (e : ℕ → List ℕ) (to stride : ℕ) where
  pub length_run : (n : ℕ) (d : List ℕ) → length (run_stored e to stride n d) ≡ length d
  unfolding run_stored
  length_run zero d = refl
  length_run (suc n) d = simp length-sets (length_run n d)

  -- a byte that belongs to none of the elements is as it was
  pub run_out : (n : ℕ) (d : List ℕ) (k : ℕ) → ((j : ℕ) → j < n → (k < along to stride j) ⊎ (along to stride j + length (e j) ≤ k))
      → get_or (run_stored e to stride n d) k 0 ≡ get_or d k 0
  unfolding run_stored
  run_out zero d k h = refl
  run_out (suc n) d k h =
      get_d_sets_out (e n) (run_stored e to stride n d) (along to stride n) k (h n (omega arith)) ∙ run_out n d k (λ j l. h j (omega arith))

-- while kept elements are stored, all that are read are as they were
pub keeps_any : (o : Origin) (d v : List ℕ) (c : Course) (k j : ℕ) → Parted o c → k ≤ c.n → j < c.n
    → kept_bytes (source_bytes o (run_stored (kept_bytes v c) c.to c.stride k d)) c j ≡ kept_bytes (source_bytes o d) c j
keeps_any (Lent s) d v c k j p g h = refl
keeps_any Inside d v c k j p g h =
    bytes_same (run_stored (kept_bytes v c) c.to c.stride k d) d (along c.at c.jump j) c.size (length_run (kept_bytes v c) c.to c.stride k d)
    (λ i a b.
    run_out (kept_bytes v c) c.to c.stride k d i
    (λ x l.
    let m = length_take_most c.size (drop (along c.at c.jump x) v) in
    ⊎_elim (λ y. inl (omega arith)) (λ y. inr (omega arith)) (p j x h (omega arith))))

-- the next among them
pub run_keeps : (o : Origin) (d v : List ℕ) (c : Course) (k : ℕ) → Parted o c → k < c.n
    → kept_bytes (source_bytes o (run_stored (kept_bytes v c) c.to c.stride k d)) c k ≡ kept_bytes (source_bytes o d) c k
run_keeps o d v c k p h = keeps_any o d v c k k p (omega arith) h

-- ---- a loop that stores n elements: k are, and the next stands at t

pub record Done (e : ℕ → List ℕ) (to stride n : ℕ) (d₀ d : List ℕ) (t k : ℕ) : Type 0 where
  pub within : k ≤ n
  pub place : t ≡ along to stride k
  pub bytes : d ≡ run_stored e to stride k d₀

pub done_start : (e : ℕ → List ℕ) (to stride n : ℕ) (d : List ℕ) → to < 2 ^ 64 → Done e to stride n d d to 0
unfolding run_stored
done_start e to stride n d h = record { within = omega arith; place = sym (along_none to stride h); bytes = refl }

module _ {e : ℕ → List ℕ} {to stride n : ℕ} {d₀ d : List ℕ} {t k : ℕ} (a : Done e to stride n d₀ d t k) where
  pub done_length : length d ≡ length d₀
  done_length = ap length a.bytes ∙ length_run e to stride k d₀

  pub done_next : {t' : ℕ} {d' : List ℕ} → k < n → t' ≡ (t + stride) % 2 ^ 64 → d' ≡ sets d t (e k) → Done e to stride n d₀ d' t' (k + 1)
  unfolding run_stored
  done_next h p b =
      record {
        within = omega arith;
        place = p ∙ ap (λ (y : ℕ). (y + stride) % 2 ^ 64) a.place ∙ along_next to stride k;
        bytes = b ∙ rw (a.bytes, a.place, add-one);
      }

  pub done_end : n ≤ k → (t ≡ along to stride n) × (d ≡ run_stored e to stride n d₀)
  done_end h =
      let w = a.within in
      let q : k ≡ n = omega arith in
      (a.place ∙ ap (along to stride) q, a.bytes ∙ ap (λ (j : ℕ). run_stored e to stride j d₀) q)
