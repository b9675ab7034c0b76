-- What a move is to those who run it in steps: no element, more elements, all of them; where a job's parts lie, and what it leaves as
-- it was. Assumes nothing.
use Rattle.std.proofs.Common.{◌≡◌, ℕ, zero, suc, ◌+◌, ◌-◌, ◌<◌, ◌≤◌, min, max, false, ◌||◌, ltb, ◌⊎◌, List, length, get_or, take, drop, sym, refl, ◌∙◌, subst, inl, inr, ⊎_elim, append_assoc, add-zero, add_assoc, add-suc, mul-pos, arith, length-drop, take-append-drop, length-take-le, drop-drop, ltb-false}
use native.Mathlib.Decide.{dec_le}
use lib.Seq.{sets, sets-eq, length-sets}
use Rattle.plane.specs.declared.Tensor.{Tensor}
use Rattle.plane.specs.declared.Config.{Config}
use Rattle.plane.proofs.Arrays.{product_positive}
use Rattle.plane.specs.Planes.{span}
use Rattle.plane.specs.Moves.{need, move_rules, move_fault, judge_of}
use Rattle.faults.proofs.Bools.{either_clear}
use Rattle.faults.proofs.Faults.{if_fault_lem, if_none}
use Rattle.faults.proofs.Chains.{unbroken, unbroken_accepts}
use Rattle.plane.specs.Good.{GoodMove, GoodSource, GoodConfig}
use Rattle.plane.proofs.Good.{move_good}
use Rattle.plane.proofs.Bounds.{element_small}
use Rattle.plane.proofs.Rules.{answer_status, dst_extent}
use Rattle.parts.specs.Parts.{Has, bytes_of}
use Rattle.parts.specs.declared.Part.{Part}
use Rattle.mover.specs.declared.Job.{Job}
use Rattle.mover.specs.Moved.{extent_at, total, stored, moved, move_memory}
use Rattle.mover.specs.Within.{leaves, meets, job_rules, job_fault, total_of, advanced_by}
use Rattle.mover.specs.Claims.{MoveLaws, JobLaws}
use Rattle.mover.proofs.Bytes.{get_d_sets_out, length_take_most}
use Rattle.mover.proofs.Parts.{part_own, part_other, part_again}

-- ---- elements

module _ (t : Tensor) (c : Config) (src : List ℕ) where
  -- no element moved changes nothing
  pub moved_none : (from : ℕ) (dst : List ℕ) → moved t c src from 0 dst ≡ dst
  unfolding moved
  moved_none from dst = refl

  -- k elements, then l more, are k + l
  pub moved_more : (n k l : ℕ) (dst : List ℕ) → moved t c src (n + k) l (moved t c src n k dst) ≡ moved t c src n (k + l) dst
  unfolding moved
  moved_more n k zero dst = rw add-zero
  moved_more n k (suc l) dst = rw (add-suc, moved_more n k l dst, add_assoc)

  -- the destination keeps its length
  pub moved_length : (from n : ℕ) (dst : List ℕ) → length (moved t c src from n dst) ≡ length dst
  unfolding moved stored
  moved_length from zero dst = refl
  moved_length from (suc n) dst = simp length-sets (moved_length from n dst)

-- ---- a whole move

module _ (t : Tensor) (c : Config) where
  pub judged : (srcLen dstLen : ℕ) → (judge_of t c srcLen dstLen).status ≡ (move_fault t c srcLen dstLen).status
  unfolding judge_of
  judged srcLen dstLen = answer_status (move_fault t c srcLen dstLen) t c

  pub judged_good : (srcLen dstLen : ℕ) → (judge_of t c srcLen dstLen).status ≡ 0 → GoodMove t c srcLen dstLen
  judged_good srcLen dstLen z = move_good t c srcLen dstLen (sym (judged srcLen dstLen) ∙ z)

  -- all the elements are the whole move, where it is accepted
  pub moved_whole : (src dst : List ℕ) → (move_fault t c (length src) (length dst)).status ≡ 0 → move_memory t c src dst ≡ moved t c src 0 (total t c) dst
  unfolding move_memory
  moved_whole src dst z = if_none (move_fault t c (length src) (length dst)) dst (moved t c src 0 (total t c) dst) z

  -- and a refused one changes nothing
  pub moved_refused : (src dst : List ℕ) → ((judge_of t c (length src) (length dst)).status ≡ 0 → ⊥) → move_memory t c src dst ≡ dst
  unfolding move_memory
  moved_refused src dst h =
      if_fault_lem (move_fault t c (length src) (length dst)) dst (moved t c src 0 (total t c) dst)
      (λ z. h (judged (length src) (length dst) ∙ z))

  -- an accepted move has an element
  pub total_positive : GoodSource t → GoodConfig t c → 0 < total t c
  unfolding total
  total_positive g k = product_positive t.rank (extent_at t c) (λ i h. (dst_extent k i g.rank.1 h).0)

-- ---- a job over a memory of n bytes

-- a part that does not leave the memory
pub part_fits : (n : ℕ) (p : Part) → leaves n p ≡ false → p.start + p.length ≤ n
part_fits n p e =
    let w = either_clear (ltb n p.start) (ltb (n - p.start) p.length) e in
    omega (arith, ltb-false n p.start w.0, ltb-false (n - p.start) p.length w.1)

-- the later start does not lie before the earlier end
parts_apart : (p q : Part) → meets p q ≡ false → 0 < p.length → 0 < q.length → (p.start + p.length ≤ q.start) ⊎ (q.start + q.length ≤ p.start)
parts_apart p q e h k =
    let l = ltb-false (max p.start q.start) (min (p.start + p.length) (q.start + q.length)) e in
    elim (dec_le (p.start + p.length) q.start) [
      | yes a ↦ inl a
      | no b ↦ inr (omega arith)
    ]

module _ (n : ℕ) (j : Job) (z : (job_fault n j).status ≡ 0) where
  parts : (leaves n j.source || leaves n j.destination) ≡ false
  unfolding job_fault
  parts = (unbroken (job_rules n j) (omega arith) z).0

  pub source_fits : j.source.start + j.source.length ≤ n
  source_fits = part_fits n j.source (either_clear _ _ parts).0

  pub destination_fits : j.destination.start + j.destination.length ≤ n
  destination_fits = part_fits n j.destination (either_clear (leaves n j.source) _ parts).1

  pub job_clear : (move_fault j.tensor j.config j.source.length j.destination.length).status ≡ 0
  unfolding job_fault move_fault
  job_clear = unbroken_accepts (move_rules _ _ _ _) (unbroken (job_rules n j) (omega arith) z).1.0

  pub job_good : GoodMove j.tensor j.config j.source.length j.destination.length
  job_good = move_good j.tensor j.config j.source.length j.destination.length job_clear

  -- its parts share no byte
  pub job_apart : (j.source.start + j.source.length ≤ j.destination.start) ⊎ (j.destination.start + j.destination.length ≤ j.source.start)
  unfolding job_fault span need
  job_apart =
      let b = (element_small j.tensor.element_size job_good.source.element).0 in
      let s : 0 < span j.tensor = mul-pos (omega arith) b in
      let d : 0 < need j.tensor j.config = mul-pos (omega arith) b in
      parts_apart j.source j.destination
      (unbroken (job_rules n j) (omega arith) z).1.1.1
      (omega (arith, job_good.long)) (omega (arith, job_good.room))

  pub job_total : 0 < total_of j
  job_total = total_positive j.tensor j.config job_good.source job_good.config

  -- all the elements of the job are the whole move between its parts
  pub job_whole : (src dst : List ℕ) → length src ≡ j.source.length → length dst ≡ j.destination.length → move_memory j.tensor j.config src dst ≡ moved j.tensor j.config src 0 (total_of j) dst
  job_whole src dst p q = moved_whole j.tensor j.config src dst (rw (p, q) job_clear)

-- ---- a job in steps

module _ (j : Job) (from n : ℕ) (m : List ℕ) where
  pub advanced_length : length (advanced_by j from n m) ≡ length m
  unfolding advanced_by
  advanced_length = simp length-sets

  -- only bytes of the destination part change
  pub advanced_outside : (k : ℕ) → (k < j.destination.start) ⊎ (j.destination.start + j.destination.length ≤ k) → get_or (advanced_by j from n m) k 0 ≡ get_or m k 0
  unfolding advanced_by
  advanced_outside k o =
      let l = moved_length j.tensor j.config (bytes_of j.source m) from n (bytes_of j.destination m) in
      let w = length_take_most j.destination.length (drop j.destination.start m) in
      get_d_sets_out (moved j.tensor j.config (bytes_of j.source m) from n (bytes_of j.destination m)) m j.destination.start k
      (⊎_elim (λ u. inl u) (λ v. inr (omega arith)) o)

-- a part read and stored again
pub put_back : (m : List ℕ) (b l : ℕ) → b + l ≤ length m → sets m b (take l (drop b m)) ≡ m
put_back m b l h =
    let e : length (take l (drop b m)) ≡ l = length-take-le l (drop b m) (simp length-drop (omega arith)) in
    rw (sets-eq (take l (drop b m)) m b (omega arith), e, ← drop-drop l b m, append_assoc, take-append-drop l (drop b m))
    (take-append-drop b m)

-- a part of length l stored, and read
own : (m e : List ℕ) (b l : ℕ) → length e ≡ l → b + l ≤ length m → take l (drop b (sets m b e)) ≡ e
own m e b l p h = subst (λ (k : ℕ). take k (drop b (sets m b e)) ≡ e) p (part_own m e b (omega arith))

part_length : (p : Part) (m : List ℕ) → p.start + p.length ≤ length m → length (bytes_of p m) ≡ p.length
part_length p m h = length-take-le p.length (drop p.start m) (simp length-drop (omega arith))

module _ (m : List ℕ) (j : Job) (z : (job_fault (length m) j).status ≡ 0) where
  source_length : length (bytes_of j.source m) ≡ j.source.length
  source_length = part_length j.source m (source_fits (length m) j z)

  destination_length : length (bytes_of j.destination m) ≡ j.destination.length
  destination_length = part_length j.destination m (destination_fits (length m) j z)

  -- the move between its parts is an accepted one
  pub job_judged : (judge_of j.tensor j.config (length (bytes_of j.source m)) (length (bytes_of j.destination m))).status ≡ 0
  job_judged = judged j.tensor j.config _ _ ∙ rw (source_length, destination_length) (job_clear (length m) j z)

  module _ (from n : ℕ) where
    -- what n elements leave of the destination part
    written : List ℕ
    written = moved j.tensor j.config (bytes_of j.source m) from n (bytes_of j.destination m)

    written_length : length written ≡ j.destination.length
    unfolding written
    written_length = moved_length j.tensor j.config (bytes_of j.source m) from n (bytes_of j.destination m) ∙ destination_length

    -- the source part is as it was, and the destination part is what was written there
    pub advanced_source : bytes_of j.source (advanced_by j from n m) ≡ bytes_of j.source m
    unfolding advanced_by written
    advanced_source =
        part_other m written j.destination.start j.source.start j.source.length
        (⊎_elim (λ u. inl u) (λ v. inr (omega (arith, written_length))) (job_apart (length m) j z))

    pub advanced_destination : bytes_of j.destination (advanced_by j from n m) ≡ moved j.tensor j.config (bytes_of j.source m) from n (bytes_of j.destination m)
    unfolding advanced_by written
    advanced_destination =
        own m written j.destination.start j.destination.length written_length (destination_fits (length m) j z)

  -- no element moved changes nothing
  pub advanced_none : (from : ℕ) → advanced_by j from 0 m ≡ m
  unfolding advanced_by
  advanced_none from = rw moved_none (put_back m j.destination.start j.destination.length (destination_fits (length m) j z))

  -- k elements, then l more, are k + l
  pub advanced_more : (n k l : ℕ) → advanced_by j (n + k) l (advanced_by j n k m) ≡ advanced_by j n (k + l) m
  unfolding advanced_by written
  advanced_more n k l =
      let a = written_length n k in
      let b = written_length n (k + l) in
      rw (advanced_source n k, advanced_destination n k, moved_more j.tensor j.config (bytes_of j.source m) n k l)
      (part_again m (written n k) (written n (k + l)) j.destination.start (omega arith))

  -- all of them leave in the destination part what the whole move leaves there
  pub advanced_whole : bytes_of j.destination (advanced_by j 0 (total_of j) m) ≡ move_memory j.tensor j.config (bytes_of j.source m) (bytes_of j.destination m)
  advanced_whole =
      advanced_destination 0 (total_of j) ∙
      sym (job_whole (length m) j z (bytes_of j.source m) (bytes_of j.destination m) source_length destination_length)

-- ---- together

pub move_laws : MoveLaws
move_laws t c src = record {
  none = moved_none t c src;
  more = moved_more t c src;
  long = moved_length t c src;
  whole = λ dst z. moved_whole t c src dst (sym (judged t c (length src) (length dst)) ∙ z);
}

-- a byte that is none of a part's lies before it or past it
beside : (p : Part) (k : ℕ) → (Has p k → ⊥) → (k < p.start) ⊎ (p.start + p.length ≤ k)
beside p k h = elim (dec_le (p.start + p.length) k) [
  | yes a ↦ inr a
  | no a ↦ elim (dec_le p.start k) [
    | yes b ↦ absurd (h (b, omega arith))
    | no b ↦ inl (omega arith)
  ]
]

pub job_laws : JobLaws
job_laws m j z = record {
  source = source_fits (length m) j z;
  destination = destination_fits (length m) j z;
  apart = λ i a b. ⊎_elim (λ (e : j.source.start + j.source.length ≤ j.destination.start). omega (arith, a.1, b.0)) (λ e. omega (arith, a.0, b.1)) (job_apart (length m) j z);
  accepted = job_judged m j z;
  none = advanced_none m j z;
  more = advanced_more m j z;
  whole = advanced_whole m j z;
  outside = λ from n k h. advanced_outside j from n m k (beside j.destination k h);
  long = λ from n. advanced_length j from n m;
}
