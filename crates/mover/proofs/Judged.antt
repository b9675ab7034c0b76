-- From what the code's checks answer, in their order, to the definitions: a whole move, the answer of a job, its verdict, and an
-- advance. Assumes nothing.
use Rattle.std.proofs.Common.{◌≡◌, ℕ, Result, Ok, Err, ◌+◌, ◌-◌, ◌^◌, ◌<◌, ◌≤◌, min, Bool, true, false, List, length, drop, refl, sym, ap, ◌∙◌, subst, ap₂, arith, length-drop, length-take-le}
use lib.Seq.{sets}
use Rattle.plane.specs.declared.Tensor.{Tensor}
use Rattle.plane.specs.declared.Config.{Config}
use Rattle.faults.specs.declared.Fault.{Fault}
use Rattle.plane.specs.declared.Answer.{Answer}
use Rattle.plane.specs.Arrays.{at, product}
use Rattle.faults.specs.Faults.{none, fault, when, ◌or_else◌, if_fault, outcome}
use Rattle.plane.specs.Moves.{move_fault, room_rules, room_fault, refused, accepted, judge_of}
use Rattle.faults.proofs.Bools.{either_first, either_second, neither}
use Rattle.faults.proofs.Chains.{unbroken_none, unbroken, unbroken_accepts}
use Rattle.faults.proofs.Faults.{status, is_fault, or_none, when_bad, when_good, given, spared, if_fault_lem, if_none}
use Rattle.faults.proofs.Outcomes.{passes, refuses, ends, halts, tells_ok, tells_err, answer_err}
use Rattle.plane.specs.Good.{GoodMove}
use Rattle.plane.proofs.Bounds.{element_small}
use Rattle.plane.proofs.Good.{source_told, config_told, dst_told, move_clear, move_good}
use Rattle.plane.proofs.Rules.{answer_refused, answer_given}
use Rattle.parts.specs.declared.Part.{Part}
use Rattle.parts.specs.Parts.{bytes_of}
use Rattle.mover.specs.declared.Job.{Job}
use Rattle.mover.specs.declared.Verdict.{Verdict}
use Rattle.mover.specs.declared.plan.Plan.{Plan}
use Rattle.mover.specs.declared.elements.Origin.TheVariants.{Lent}
use Rattle.mover.specs.Moved.{total, move_memory}
use Rattle.mover.specs.Within.{leaves, off_boundary, off_boundaries, meets, job_rules, job_fault, total_of, verdict_of, advanced_by, further, advance_of, advance_memory}
use Rattle.mover.specs.Private.Plans.{plan_of}
use Rattle.mover.specs.Private.Elements.{lent, plan_total, moved_by}
use Rattle.mover.specs.Private.Ready.{Ready}
use Rattle.mover.proofs.Laws.{judged, moved_whole, moved_none, put_back, source_fits, destination_fits, job_good, total_positive}
use Rattle.mover.proofs.Parts.{bytes_at}
use Rattle.mover.proofs.Planned.{planned_total, planned_ready, moved_planned}

-- ---- a whole move

pub move_room : (t : Tensor) (c : Config) {srcLen dstLen : ℕ} → GoodMove t c srcLen dstLen → (room_fault t c).status ≡ 0
unfolding room_fault
move_room t c g =
    unbroken_accepts (room_rules t c) (source_told t g.source, (config_told t c g.config, dst_told t c g.destination))

module _ (t : Tensor) (c : Config) (srcLen dstLen : ℕ) where
  -- the answer as a Result is the outcome of the rules
  abbrev pub outcome_at : Result Answer Fault
  outcome_at = outcome (move_fault t c srcLen dstLen) (accepted t c)

  abbrev f : Fault
  f = move_fault t c srcLen dstLen

  module _ {a : Answer} (e : a ≡ judge_of t c srcLen dstLen) where
    its : a.status ≡ f.status
    its = ap (λ (x : Answer). x.status) e ∙ judged t c srcLen dstLen

    pub outcome_err : (a.status ≡ 0 → ⊥) → Err (record { status = a.status; dim = a.dim }) ≡ outcome_at
    unfolding judge_of
    outcome_err h =
        let z : f.status ≡ 0 → ⊥ = λ y. h (its ∙ y) in
        refuses (accepted t c) (sym (ap (λ (x : Answer). record { status = x.status; dim = x.dim }) (e ∙ answer_refused f t c z))) h

    pub outcome_ok : a.status ≡ 0 → Ok a ≡ outcome_at
    unfolding judge_of
    outcome_ok h =
        let z : f.status ≡ 0 = sym its ∙ h in
        ap Ok (e ∙ answer_given f t c z) ∙ passes f (accepted t c) z

  -- what it tells of a move that is accepted
  module _ {a : Answer} (e : Ok a ≡ outcome_at) where
    clear : (a ≡ accepted t c) × (f.status ≡ 0)
    clear = tells_ok f (accepted t c) e

    pub judged_move : GoodMove t c srcLen dstLen
    judged_move = move_good t c srcLen dstLen clear.1

    pub judged_accepted : ((room_fault t c).status ≡ 0) × (a ≡ accepted t c)
    judged_accepted = (move_room t c judged_move, clear.0)

    pub judged_answer : a ≡ judge_of t c srcLen dstLen
    unfolding judge_of
    judged_answer = clear.0 ∙ sym (answer_given f t c clear.1)

  -- and of one that is refused
  module _ {g : Fault} (e : Err g ≡ outcome_at) where
    pub judged_stopped : (judge_of t c srcLen dstLen).status ≡ 0 → ⊥
    judged_stopped z =
        (tells_err f (accepted t c) e).1 (sym (judged t c srcLen dstLen) ∙ z)

    pub refused_answer : {r : Answer} → r ≡ refused g → r ≡ judge_of t c srcLen dstLen
    unfolding judge_of
    refused_answer er =
        let w = tells_err f (accepted t c) e in
        er ∙ ap (λ (x : Fault). refused x) w.0 ∙ sym (answer_refused f t c w.1)

-- the product of an accepted answer's extents
pub total_is : (t : Tensor) (c : Config) {a : Answer} {all : ℕ} → a ≡ accepted t c → all ≡ product a.rank (at a.extent) → all ≡ total t c
unfolding total
total_is t c e p = p ∙ ap (λ (x : Answer). product x.rank (at x.extent)) e

module _ (t : Tensor) (c : Config) (src dst : List ℕ) (g : GoodMove t c (length src) (length dst)) {plan : Plan} (ep : plan ≡ plan_of t c) where
  pub move_ready : (at : ℕ × ℕ) → length src < 2 ^ 63 → Ready (Lent (record { ref_ptr = at; now = src })) plan dst
  move_ready at few =
      subst (λ (p : Plan). Ready (Lent (record { ref_ptr = at; now = src })) p dst) (sym ep) (planned_ready c g.source g.config g.destination at src dst few g.long g.room)

  pub move_some : 0 < plan_total plan
  move_some = rw (ep, planned_total c g.source) (total_positive t c g.source g.config)

  pub move_written : {all r : ℕ} {out : List ℕ} → all ≡ total t c → r ≡ min all (plan_total plan - 0) → out ≡ moved_by plan src 0 r dst → out ≡ move_memory t c src dst
  move_written {all} {r} ea er eo =
      let p : plan_total plan ≡ total t c = ap plan_total ep ∙ planned_total c g.source in
      let q : r ≡ total t c = omega arith in
      eo ∙
      ap₂ (λ (p : Plan) (n : ℕ). moved_by p src 0 n dst) ep q ∙
      sym (moved_whole t c src dst (move_clear t c (length src) (length dst) g) ∙
      moved_planned c g.source g.config src 0 (total t c) dst (omega arith))

-- ---- the answer of a job

abbrev pub answer_at : ℕ → Job → Result Answer Fault
answer_at n j = outcome (job_fault n j) (accepted j.tensor j.config)

module _ (n : ℕ) (j : Job) where
  abbrev off : Part → Bool
  off p = off_boundary j.tensor.element_size p

  -- a rule of the whole that is the first to be broken
  stops : {r : Fault} (num : ℕ) → 0 < num → r ≡ fault num 0 → job_fault n j ≡ fault num 0 → Err r ≡ answer_at n j
  stops num p e q =
      refuses (accepted j.tensor j.config) (q ∙ sym e) (is_fault num 0 p e)

  -- 20
  pub source_leaves : {r : Fault} → leaves n j.source ≡ true → r ≡ fault 20 0 → Err r ≡ answer_at n j
  unfolding job_fault move_fault
  source_leaves h e =
      stops 20 (omega arith) e (given 20 0 _ _ (omega arith) (either_first (leaves n j.source) (leaves n j.destination) h))

  pub destination_leaves : {r : Fault} → leaves n j.destination ≡ true → r ≡ fault 20 0 → Err r ≡ answer_at n j
  unfolding job_fault move_fault
  destination_leaves h e =
      stops 20 (omega arith) e (given 20 0 _ _ (omega arith) (either_second (leaves n j.source) (leaves n j.destination) h))

  module _ (p : leaves n j.source ≡ false) (q : leaves n j.destination ≡ false) where
    abbrev moves : Fault
    moves = move_fault j.tensor j.config j.source.length j.destination.length

    stays : job_fault n j ≡ (moves or_else when 34 0 (off_boundaries j) or_else when 21 0 (meets j.source j.destination))
    unfolding job_fault move_fault
    stays = spared 20 0 _ _ (neither (leaves n j.source) (leaves n j.destination) p q)

    -- 1 to 13
    pub move_refused : {g : Fault} → Err g ≡ outcome_at j.tensor j.config j.source.length j.destination.length → Err g ≡ answer_at n j
    move_refused e =
        let x = accepted j.tensor j.config in
        sym (ap (λ (f : Fault). outcome f x) stays ∙ halts moves x _ x e refl)

    module _ {a : Answer} (e : Ok a ≡ outcome_at j.tensor j.config j.source.length j.destination.length) where
      moves_on : job_fault n j ≡ (when 34 0 (off_boundaries j) or_else when 21 0 (meets j.source j.destination))
      moves_on =
          stays ∙ or_none _ _ (tells_ok moves (accepted j.tensor j.config) e).1

      -- the element size is not 0, so a start can be divided by it
      pub some_size : 0 < j.tensor.element_size
      some_size =
          (element_small j.tensor.element_size (judged_move j.tensor j.config j.source.length j.destination.length e).source.element).0

      -- 34
      pub source_off : {r : Fault} → off j.source ≡ true → r ≡ fault 34 0 → Err r ≡ answer_at n j
      source_off h er =
          stops 34 (omega arith) er (moves_on ∙ given 34 0 _ _ (omega arith) (either_first (off j.source) (off j.destination) h))

      pub destination_off : {r : Fault} → off j.destination ≡ true → r ≡ fault 34 0 → Err r ≡ answer_at n j
      destination_off h er =
          stops 34 (omega arith) er (moves_on ∙ given 34 0 _ _ (omega arith) (either_second (off j.source) (off j.destination) h))

      module _ (s : off j.source ≡ false) (d : off j.destination ≡ false) where
        on : job_fault n j ≡ when 21 0 (meets j.source j.destination)
        on = moves_on ∙ spared 34 0 _ _ (neither (off j.source) (off j.destination) s d)

        -- 21
        pub parts_meet : {r : Fault} → meets j.source j.destination ≡ true → r ≡ fault 21 0 → Err r ≡ answer_at n j
        parts_meet h er = stops 21 (omega arith) er (on ∙ when_bad 21 0 _ h)

        pub job_given : meets j.source j.destination ≡ false → Ok a ≡ answer_at n j
        job_given h =
            ap Ok (tells_ok moves (accepted j.tensor j.config) e).0 ∙ passes (job_fault n j) (accepted j.tensor j.config) (status (on ∙ when_good 21 0 _ h))

  -- ---- what is told of a job: its fault and a number, which is 0 besides one

  -- no fault names no dimension
  job_none : (job_fault n j).status ≡ 0 → none ≡ job_fault n j
  unfolding job_fault
  job_none z =
      sym (unbroken_none (job_rules n j) (unbroken (job_rules n j) (omega arith) z))

  abbrev told : ℕ → Verdict
  told x = record { status = (job_fault n j).status; dim = (job_fault n j).dim; total = if_fault (job_fault n j) 0 x }

  told_ok : (x : ℕ) {r : ℕ} → (job_fault n j).status ≡ 0 → r ≡ x → record { status = 0; dim = 0; total = r } ≡ told x
  told_ok x z e =
      let w = e ∙ sym (if_none (job_fault n j) 0 x z) in
      let f = job_none z in
      λ i. record { status = (f i).status; dim = (f i).dim; total = w i }

  told_err : (x : ℕ) {g : Fault} → ((job_fault n j).status ≡ 0 → ⊥) → g ≡ job_fault n j → record { status = g.status; dim = g.dim; total = 0 } ≡ told x
  told_err x h e =
      let w = sym (if_fault_lem (job_fault n j) 0 x h) in
      λ i. record { status = (e i).status; dim = (e i).dim; total = w i }

  module _ {g : Fault} (e : Err g ≡ answer_at n j) where
    stopped_at : (g ≡ job_fault n j) × ((job_fault n j).status ≡ 0 → ⊥)
    stopped_at = tells_err (job_fault n j) (accepted j.tensor j.config) e

    pub verdict_refused : record { status = g.status; dim = g.dim; total = 0 } ≡ verdict_of n j
    unfolding verdict_of
    verdict_refused = told_err (total_of j) stopped_at.1 stopped_at.0

  module _ {a : Answer} (e : Ok a ≡ answer_at n j) where
    pub job_clear : (job_fault n j).status ≡ 0
    job_clear = (tells_ok (job_fault n j) (accepted j.tensor j.config) e).1

    pub job_accepted : ((room_fault j.tensor j.config).status ≡ 0) × (a ≡ accepted j.tensor j.config)
    job_accepted =
        (move_room j.tensor j.config (job_good n j job_clear), (tells_ok (job_fault n j) (accepted j.tensor j.config) e).0)

    pub verdict_given : {all : ℕ} → all ≡ total_of j → record { status = 0; dim = 0; total = all } ≡ verdict_of n j
    unfolding verdict_of
    verdict_given p = told_ok (total_of j) job_clear p

-- ---- a stretch

part_length : (m : List ℕ) (b k : ℕ) → b + k ≤ length m → length (bytes_at m b k) ≡ k
part_length m b k h = length-take-le k (drop b m) (simp length-drop (omega arith))

module _ (j : Job) (from budget : ℕ) (m : List ℕ) where
  abbrev its_fault : Fault
  its_fault = job_fault (length m) j

  abbrev pub moved_at : Result ℕ Fault
  moved_at = outcome its_fault (further j from budget)

  pub stretch_refused : {g : Fault} → Err g ≡ answer_at (length m) j → (Err g ≡ moved_at) × (m ≡ advance_memory j from budget m)
  unfolding advance_memory
  stretch_refused e = (
    sym (ends its_fault (accepted j.tensor j.config) (further j from budget) e refl),
    answer_err its_fault (accepted j.tensor j.config) m (advanced_by j from (further j from budget) m) e,
  )

  -- what the caller is told of it
  pub advance_given : {r : ℕ} → Ok r ≡ moved_at → record { status = 0; dim = 0; count = r } ≡ advance_of j from budget m
  unfolding advance_of
  advance_given e =
      let w = tells_ok its_fault (further j from budget) e in
      ap (λ (v : Verdict). record { status = v.status; dim = v.dim; count = v.total }) (told_ok (length m) j (further j from budget) w.1 w.0)

  pub advance_refused : {g : Fault} → Err g ≡ moved_at → record { status = g.status; dim = g.dim; count = 0 } ≡ advance_of j from budget m
  unfolding advance_of
  advance_refused e =
      let w = tells_err its_fault (further j from budget) e in
      ap (λ (v : Verdict). record { status = v.status; dim = v.dim; count = v.total }) (told_err (length m) j (further j from budget) w.1 w.0)

  module _ {a : Answer} (e : Ok a ≡ answer_at (length m) j) where
    is_clear : its_fault.status ≡ 0
    is_clear = job_clear (length m) j e

    advanced : {r : ℕ} {out : List ℕ} → r ≡ further j from budget → out ≡ advanced_by j from r m → (Ok r ≡ moved_at) × (out ≡ advance_memory j from budget m)
    unfolding advance_memory
    advanced er eo = (
      ap Ok er ∙ passes its_fault (further j from budget) is_clear,
      eo ∙ ap (λ (n : ℕ). advanced_by j from n m) er ∙
          sym (if_none its_fault m (advanced_by j from (further j from budget) m) is_clear),
    )

    -- where no element is left, none is moved
    pub advance_past : {all : ℕ} → all ≡ total_of j → all ≤ from → (Ok 0 ≡ moved_at) × (m ≡ advance_memory j from budget m)
    unfolding advanced_by
    advance_past p l =
        advanced (omega arith)
        (sym (ap (λ (x : List ℕ). sets m j.destination.start x) (moved_none j.tensor j.config (bytes_of j.source m) from (bytes_of j.destination m)) ∙
        put_back m j.destination.start j.destination.length (destination_fits (length m) j is_clear)))

    module _ {plan : Plan} (ep : plan ≡ plan_of j.tensor j.config) where
      all_is : plan_total plan ≡ total_of j
      all_is = ap plan_total ep ∙ planned_total j.config (job_good (length m) j is_clear).source

      -- what the engine asks
      pub advance_ready : length m < 2 ^ 63 → Ready (lent (bytes_of j.source m)) plan (bytes_of j.destination m)
      advance_ready few =
          let g = job_good (length m) j is_clear in
          let s = part_length m j.source.start j.source.length (source_fits (length m) j is_clear) in
          let d = part_length m j.destination.start j.destination.length (destination_fits (length m) j is_clear) in
          subst (λ (p : Plan). Ready (lent (bytes_of j.source m)) p (bytes_of j.destination m)) (sym ep)
          (planned_ready j.config g.source g.config g.destination (0, 0) (bytes_of j.source m) (bytes_of j.destination m)
          (omega (arith, source_fits (length m) j is_clear)) (omega (arith, g.long)) (omega (arith, g.room)))

      pub advance_from : {all : ℕ} → all ≡ total_of j → from < all → from < plan_total plan
      advance_from p l = let q = all_is in omega arith

      -- and what it leaves
      pub advance_written : {r : ℕ} {out : List ℕ} → from < plan_total plan → r ≡ min budget (plan_total plan - from) →
          out ≡ sets m j.destination.start (moved_by plan (bytes_of j.source m) from r (bytes_of j.destination m)) →
          (Ok r ≡ moved_at) × (out ≡ advance_memory j from budget m)
      unfolding advanced_by
      advance_written {r} l er eo =
          let g = job_good (length m) j is_clear in
          let q = all_is in
          advanced (er ∙ ap (λ (n : ℕ). min budget (n - from)) q)
          (eo ∙
          ap (λ (x : List ℕ). sets m j.destination.start x)
          (ap (λ (p : Plan). moved_by p (bytes_of j.source m) from r (bytes_of j.destination m)) ep ∙
          sym (moved_planned j.config g.source g.config (bytes_of j.source m) from r (bytes_of j.destination m) (omega arith))))
