-- The destination as one row, and what the plain engine's two calls leave. Assumes nothing.
use Rattle.std.proofs.Common.{◌≡◌, ℕ, ◌+◌, ◌-◌, ◌≤◌, min, Some, List, length, sym, refl, ap, ◌∙◌, subst, ap₂, one-mul, zero-mul, arith, take_all}
use native.Mathlib.Nat.{sub-zero, min-eq_left, min-eq_right, min-le_right}
use native.Mathlib.Decide.{ℕ_discrete}
use lib.Seq.{sets, length-sets, take-length}
use Rattle.std.specs.Borrow.{Bor}
use Rattle.plane.specs.declared.Tensor.{Tensor}
use Rattle.plane.specs.declared.Config.{Config}
use Rattle.plane.specs.Arrays.{sum, product, every}
use Rattle.plane.specs.Planes.{span}
use Rattle.plane.specs.Moves.{need, room_fault, accepted, room_of}
use Rattle.plane.specs.Good.{GoodMove}
use Rattle.plane.proofs.Bounds.{product_most}
use Rattle.plane.proofs.Good.{move_clear}
use Rattle.plane.proofs.Rules.{answer_given, dst_extent}
use Rattle.faults.specs.Faults.{if_fault}
use Rattle.faults.proofs.Faults.{if_fault_lem, if_none}
use Rattle.parts.specs.declared.Part.{Part}
use Rattle.parts.specs.Parts.{bytes_of}
use Rattle.mover.specs.declared.Job.{Job}
use Rattle.mover.specs.declared.Verdict.{Verdict}
use Rattle.mover.specs.declared.elements.Origin.{Origin}
use Rattle.mover.specs.declared.elements.Origin.TheVariants.{Lent, Inside}
use Rattle.mover.specs.declared.plain.Row.{Row}
use Rattle.mover.specs.Moved.{extent_at, total, moved, move_memory}
use Rattle.mover.specs.Within.{job_fault, total_of, verdict_of, advanced_by, further, advance_of, advance_memory}
use Rattle.mover.specs.Private.Elements.{source_bytes}
use Rattle.mover.specs.Private.Runs.{BytesApart}
use Rattle.mover.specs.Private.Rows.{outermost_of, elements_in, first_of, past_of, RowOf, Stands, stretch_in, Comes}
use Rattle.mover.proofs.Judged.{move_room}
use Rattle.mover.proofs.Laws.{moved_length, moved_whole, put_back, source_fits, destination_fits, job_good, job_apart, advanced_none}
use Rattle.mover.proofs.Making.{room_source, room_config, room_dst, room_strides}
use Rattle.mover.proofs.Parts.{part_own}
use Rattle.mover.proofs.Stretches.{elements_all}

-- ---- the destination as one row

module _ (t : Tensor) (c : Config) (z : (room_fault t c).status ≡ 0) where
  its_answer : (room_of t c).answer ≡ accepted t c
  unfolding room_of
  its_answer = answer_given (room_fault t c) t c z

  -- the source starts at byte p, and the row at byte r
  pub outermost_row : (o : Origin) (p r : ℕ) → RowOf p r 0 (outermost_of t c o p r)
  unfolding product every sum
  outermost_row o p r = record {
    good_source = room_source t c z;
    good_config = room_config t c z;
    good_dst = room_dst t c z;
    answer = its_answer;
    strides = room_strides t c z refl;
    within = omega arith;
    at_source = ap (λ (n : ℕ). Some n) (omega (arith, zero-mul t.element_size));
    at_place = omega (arith, zero-mul t.element_size);
  }

-- between a part p of the source and a part r of the destination
module _ (t : Tensor) (c : Config) (o : Origin) (p r : Part) (d : List ℕ) (z : (room_fault t c).status ≡ 0)
    (ps : p.start + p.length ≤ length (source_bytes o d)) (rd : r.start + r.length ≤ length d)
    (apart : BytesApart o p.start (p.start + p.length) r.start (r.start + r.length)) (long : span t ≤ p.length) (enough : need t c ≤ r.length) where
  abbrev all : Row
  all = outermost_of t c o p.start r.start

  all_stands : Stands all t.rank d
  all_stands = record {
    p = p;
    r = r;
    few = omega arith;
    row =
        let e : 0 ≡ t.rank - t.rank = omega arith in
        subst (λ (i : ℕ). RowOf p.start r.start i all) e (outermost_row t c z o p.start r.start);
    source = ps;
    destination = rd;
    apart = apart;
    long = long;
    enough = enough;
  }

  all_elements : past_of all t.rank ≡ total t c
  all_elements = one-mul (elements_in all t.rank) ∙ elements_all all (its_answer t c z)

  -- no element is stored yet
  none_yet : (first last : ℕ) → d ≡ stretch_in all p r first last (first_of all t.rank) d
  unfolding stretch_in moved
  none_yet first last =
      let k : min last (first_of all t.rank) - first ≡ 0 = omega (arith, min-le_right last (first_of all t.rank), zero-mul (elements_in all t.rank)) in
      sym (ap (λ (i : ℕ). sets d r.start (moved t c (bytes_of p (source_bytes o d)) first i (bytes_of r d))) k ∙ put_back d r.start r.length rd)

  all_stored : (first last : ℕ) {out : List ℕ}
      → ((h : Stands all t.rank d) → Comes h first last (first_of all t.rank) (past_of all t.rank) out)
      → out ≡ sets d r.start (moved t c (bytes_of p (source_bytes o d)) first (min last (total t c) - first) (bytes_of r d))
  unfolding stretch_in all_stands
  all_stored first last f =
      f all_stands d (none_yet first last) ∙ ap (λ (i : ℕ). stretch_in all p r first last i d) all_elements

-- an accepted move has no more elements than 64 bits count
pub total_most : {t : Tensor} {c : Config} {n k : ℕ} → GoodMove t c n k → total t c ≤ 18446744073709551615
unfolding total
total_most {t} {c} g =
    omega (arith, product_most t.rank (extent_at t c) g.source.rank.1 (λ i h. (dst_extent g.config i g.source.rank.1 h).1))

-- ---- a whole move between two lent slices

-- a memory all of which is stored
sets_whole : (m e : List ℕ) → length e ≡ length m → sets m 0 e ≡ e
sets_whole m e h =
    let n : length (sets m 0 e) ≡ length e = length-sets m 0 e ∙ sym h in
    sym (take_all (length e) (sets m 0 e) (omega arith)) ∙ part_own m e 0 (omega arith)

module _ (t : Tensor) (c : Config) (s : Bor (List ℕ)) (dst : List ℕ) (g : GoodMove t c (length s.now) (length dst)) where
  abbrev full : List ℕ → Part
  full l = record { start = 0; length = length l }

  pub move_stands : Stands (outermost_of t c (Lent s) 0 0) t.rank dst
  move_stands =
      all_stands t c (Lent s) (full s.now) (full dst) dst (move_room t c g) (omega arith) (omega arith) tt g.long g.room

  -- all elements of it
  pub move_stored : (last : ℕ) {w : Row} {out : List ℕ} → total t c ≤ last → w ≡ outermost_of t c (Lent s) 0 0
      → ((h : Stands w t.rank dst) → Comes h 0 last (first_of w t.rank) (past_of w t.rank) out)
      → out ≡ move_memory t c s.now dst
  move_stored last {w} {out} l ew f =
      let k : min last (total t c) ≡ total t c = min-eq_right l in
      all_stored t c (Lent s) (full s.now) (full dst) dst (move_room t c g) (omega arith) (omega arith) tt g.long g.room 0 last
      (subst (λ (v : Row). (h : Stands v t.rank dst) → Comes h 0 last (first_of v t.rank) (past_of v t.rank) out) ew f) ∙
      ap₂ (λ (x y : List ℕ). sets dst 0 (moved t c x 0 (min last (total t c) - 0) y)) (take-length s.now) (take-length dst) ∙
      ap (λ (i : ℕ). sets dst 0 (moved t c s.now 0 i dst)) (ap (λ (i : ℕ). i - 0) k ∙ sub-zero (total t c)) ∙
      sets_whole dst (moved t c s.now 0 (total t c) dst) (moved_length t c s.now 0 (total t c) dst) ∙
      sym (moved_whole t c s.now dst (move_clear t c (length s.now) (length dst) g))

-- ---- a stretch between two parts of one memory

cut : (from k n : ℕ) → from + k ≤ n → min (from + k) n - from ≡ k
cut from k n h = let e : min (from + k) n ≡ from + k = min-eq_left h in omega arith

module _ (j : Job) (from budget : ℕ) (m : List ℕ) {v : Verdict} (ev : v ≡ verdict_of (length m) j) {count : ℕ} (ec : count ≡ min budget (v.total - from)) where
  status_is : v.status ≡ (job_fault (length m) j).status
  unfolding verdict_of
  status_is = ap (λ (x : Verdict). x.status) ev

  total_is : v.total ≡ if_fault (job_fault (length m) j) 0 (total_of j)
  unfolding verdict_of
  total_is = ap (λ (x : Verdict). x.total) ev

  -- the count that is told
  count_is : count ≡ if_fault (job_fault (length m) j) 0 (further j from budget)
  count_is = elim (ℕ_discrete (job_fault (length m) j).status 0) [
    | yes z ↦ ec ∙ ap (λ (n : ℕ). min budget (n - from)) (total_is ∙ if_none (job_fault (length m) j) 0 (total_of j) z) ∙
        sym (if_none (job_fault (length m) j) 0 (further j from budget) z)
    | no z ↦ let e : v.total ≡ 0 = total_is ∙ if_fault_lem (job_fault (length m) j) 0 (total_of j) z in
        let k : count ≡ 0 = omega (arith, min-le_right budget (v.total - from)) in
        k ∙ sym (if_fault_lem (job_fault (length m) j) 0 (further j from budget) z)
  ]

  pub advance_told : record { status = v.status; dim = v.dim; count = count } ≡ advance_of j from budget m
  unfolding advance_of verdict_of
  advance_told =
      let d = ap (λ (x : Verdict). x.dim) ev in
      λ i. record { status = status_is i; dim = d i; count = count_is i }

  -- none is moved
  pub advance_none : count ≡ 0 → m ≡ advance_memory j from budget m
  unfolding advance_memory
  advance_none e = elim (ℕ_discrete (job_fault (length m) j).status 0) [
    | yes z ↦
        let k : further j from budget ≡ 0 = sym (count_is ∙ if_none (job_fault (length m) j) 0 (further j from budget) z) ∙ e in
        sym (if_none (job_fault (length m) j) m (advanced_by j from (further j from budget) m) z ∙ ap (λ (n : ℕ). advanced_by j from n m) k ∙ advanced_none m j z from)
    | no z ↦ sym (if_fault_lem (job_fault (length m) j) m (advanced_by j from (further j from budget) m) z)
  ]

  -- some are
  module _ (some : count ≡ 0 → ⊥) where
    advance_clear : (job_fault (length m) j).status ≡ 0
    advance_clear = elim (ℕ_discrete (job_fault (length m) j).status 0) [
      | yes z ↦ z
      | no z ↦ absurd (some (count_is ∙ if_fault_lem (job_fault (length m) j) 0 (further j from budget) z))
    ]

    counted : count ≡ further j from budget
    counted = count_is ∙ if_none (job_fault (length m) j) 0 (further j from budget) advance_clear

    advance_end : from + count ≤ total_of j
    advance_end = omega (arith, counted, min-le_right budget (total_of j - from), some)

    good : GoodMove j.tensor j.config j.source.length j.destination.length
    good = job_good (length m) j advance_clear

    abbrev row : Row
    row = outermost_of j.tensor j.config Inside j.source.start j.destination.start

    pub advance_stands : Stands row j.tensor.rank m
    advance_stands =
        all_stands j.tensor j.config Inside j.source j.destination m (move_room j.tensor j.config good)
        (source_fits (length m) j advance_clear) (destination_fits (length m) j advance_clear) (job_apart (length m) j advance_clear)
        good.long good.room

    pub advance_stored : {w : Row} {out : List ℕ} → w ≡ row
        → ((h : Stands w j.tensor.rank m) → Comes h from (from + count) (first_of w j.tensor.rank) (past_of w j.tensor.rank) out)
        → out ≡ advance_memory j from budget m
    unfolding advance_memory advanced_by
    advance_stored {w} {out} ew f =
        let n : min (from + count) (total_of j) - from ≡ further j from budget = cut from count (total_of j) advance_end ∙ counted in
        all_stored j.tensor j.config Inside j.source j.destination m (move_room j.tensor j.config good)
        (source_fits (length m) j advance_clear) (destination_fits (length m) j advance_clear) (job_apart (length m) j advance_clear)
        good.long good.room from (from + count)
        (subst (λ (v : Row). (h : Stands v j.tensor.rank m) → Comes h from (from + count) (first_of v j.tensor.rank) (past_of v j.tensor.rank) out) ew f) ∙
        ap (λ (i : ℕ). sets m j.destination.start (moved j.tensor j.config (bytes_of j.source m) from i (bytes_of j.destination m))) n ∙
        sym (if_none (job_fault (length m) j) m (advanced_by j from (further j from budget) m) advance_clear)
