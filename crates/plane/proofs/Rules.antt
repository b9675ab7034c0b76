-- From what the code's checks answer, in their order, to the definitions of the answers. Assumes nothing.
use Prim.Native.Nat.{ℕ, ◌+◌, ◌-◌, ◌*◌, ◌≤◌, ◌<◌}
use native.Mathlib.Nat.{add-div_right}
use native.Mathlib.Decide.{ℕ_discrete}
use native.Mathlib.Omega.{arith}
use mathlib.Core.Path.{◌≡◌, sym, ap, ap₂, subst, subst₂, ◌∙◌}
use mathlib.Core.List.{List}
use borrow.Author.Tests.{eq-eqb, ne_eqb}
use Rattle.plane.specs.declared.Tensor.{Tensor}
use Rattle.plane.specs.declared.Config.{Config}
use Rattle.faults.specs.declared.Fault.{Fault}
use Rattle.plane.specs.declared.Answer.{Answer}
use Rattle.plane.specs.declared.Source.{Source}
use Rattle.plane.specs.Arrays.{at, zeros}
use Rattle.std.specs.Prelude.{Result}
use Rattle.std.proofs.Common.{rules}
use Rattle.faults.specs.Faults.{none, lowest, outward, if_fault, outcome}
use Rattle.faults.proofs.Chains.{unbroken, unbroken_none}
use Rattle.plane.specs.Planes.{bad_shape, bad_stride_at, shape_at, stride_at, strides, src_strides, span, source_rules, source_fault, source_of}
use Rattle.plane.specs.Signs.{sizes}
use Rattle.plane.specs.Moves.{upward, taken, count, extent, dst_extents, dst_strides, need, bad_dst_offset_at, bad_dst_offset_of, room_fault, refused, accepted, answer_of, room_of}
use Rattle.plane.specs.Private.{reach, source_accepted, room_accepted}
use Rattle.plane.proofs.Arrays.{zeros_at, sum_same, firsts_at}
use Rattle.faults.proofs.Faults.{status, if_fault_lem, if_none, lowest_clear}
use Rattle.plane.specs.Good.{GoodConfig}
use Rattle.plane.proofs.Good.{positive, dst_offset_small, shapes_good}

-- ---- a tensor record by itself

module _ (t : Tensor) where
  -- where it is refused, and where not
  pub source_answer : if_fault (source_fault t) (record { fault = source_fault t; stride = zeros; span = 0 }) (source_accepted t) ≡ source_of t
  unfolding source_of source_fault
  source_answer = elim (ℕ_discrete (source_fault t).status 0) [
    | yes z ↦
        let n = unbroken_none (source_rules t) (unbroken (source_rules t) (search rules) z) in
        let st = if_none (source_fault t) zeros (src_strides t) z in
        let sp = if_none (source_fault t) 0 (span t) z in
        if_none (source_fault t) _ _ z ∙ (λ i. record { fault = sym n i; stride = sym st i; span = sym sp i })
    | no z ↦
        let st = if_fault_lem (source_fault t) zeros (src_strides t) z in
        let sp = if_fault_lem (source_fault t) 0 (span t) z in
        if_fault_lem (source_fault t) _ _ z ∙ (λ i. record { fault = source_fault t; stride = sym st i; span = sym sp i })
  ]

  -- what `resolve` answers, of the sizes of the strides
  pub source_strides : {l : List ℕ} {r : Result (List ℕ) Fault} → l ≡ sizes t.stride → r ≡ outcome (outward 4 t.rank (bad_stride_at t.rank (shape_at t) (at l))) (strides t.rank (shape_at t) (at l))
      → r ≡ outcome (outward 4 t.rank (bad_stride_at t.rank (shape_at t) (stride_at t))) (src_strides t)
  source_strides {l} {r} e p =
      subst (λ (x : List ℕ). r ≡ outcome (outward 4 t.rank (bad_stride_at t.rank (shape_at t) (at x))) (strides t.rank (shape_at t) (at x))) e p

  -- the box of a plane: its shapes from coordinate 0 on
  pub span_is : {l : List ℕ} → l ≡ src_strides t → reach t.rank (at zeros) (shape_at t) (at l) * t.element_size ≡ span t
  unfolding span
  span_is e =
      ap (λ (x : ℕ). (1 + x) * t.element_size)
      (sum_same t.rank _ _ (λ d h. ap₂ (λ (x y : ℕ). x * y) (from_zero d) (ap (λ (x : List ℕ). at x d) e)))
    where
      from_zero : (d : ℕ) → at zeros d + shape_at t d - 1 ≡ shape_at t d - 1
      from_zero d = let z = zeros_at d in omega arith

  pub source_is : {f : Fault} {l : List ℕ} {b : ℕ} → f ≡ none → l ≡ src_strides t → b ≡ reach t.rank (at zeros) (shape_at t) (at l) * t.element_size → record { fault = f; stride = l; span = b } ≡ source_accepted t
  source_is e p q = let sp = q ∙ span_is p in λ i. record { fault = e i; stride = p i; span = sp i }

  pub shape_box : (lowest 3 t.rank (λ d. bad_shape (shape_at t d))).status ≡ 0 → (d : ℕ) → d < t.rank → (0 < shape_at t d) × (at zeros d + shape_at t d ≤ 131072)
  shape_box z d h =
      let w = shapes_good t z d h in
      let o = zeros_at d in
      (omega arith, omega arith)

-- what the judgement of a tensor record tells its callers
module _ (t : Tensor) {s : Source} (es : s ≡ source_of t) where
  pub its_fault : s.fault ≡ source_fault t
  unfolding source_of
  its_fault = ap (λ (x : Source). x.fault) es

  module _ (z : s.fault.status ≡ 0) where
    clear : (source_fault t).status ≡ 0
    clear = sym (status its_fault) ∙ z

    pub its_strides : s.stride ≡ src_strides t
    unfolding source_of
    its_strides = ap (λ (x : Source). x.stride) es ∙ if_none (source_fault t) zeros (src_strides t) clear

-- ---- extents

-- one or more of which every step-th is kept leave one or more
upward_positive : (m s : ℕ) → 0 < m → 0 < s → 0 < upward m s
upward_positive m s h p =
    let e : m + (s - 1) ≡ (m - 1) + s = omega arith in
    rw (e, add-div_right (m - 1) p) (omega arith)

module _ {t : Tensor} {c : Config} (g : GoodConfig t c) where
  taken_positive : (d : ℕ) → d < t.rank → 0 < taken t c d
  taken_positive d h = elim (ℕ_discrete (at c.size d) 0) [
    | yes z ↦ let o = g.offset d h in rw (eq-eqb (at c.size d) 0 z) (omega arith)
    | no z ↦ rw (ne_eqb (at c.size d) 0 z) (positive (at c.size d) z)
  ]

  pub count_positive : (d : ℕ) → d < t.rank → 0 < count t c d
  unfolding count
  count_positive d h = upward_positive (taken t c d) (at c.step d) (taken_positive d h) (g.step d h).0

  pub extent_positive : (d : ℕ) → d < t.rank → 0 < extent t c d
  unfolding extent
  extent_positive d h = let w = count_positive d h in omega arith

  -- the extents in destination order are within 1 and 65,535
  pub dst_extent : (i : ℕ) → t.rank ≤ 4 → i < t.rank → (0 < at (dst_extents t c) i) × (at (dst_extents t c) i ≤ 65535)
  unfolding dst_extents
  dst_extent i m h =
      let e = firsts_at 0 t.rank (λ i. extent t c (at c.perm i)) i m h in
      let p = g.perm i h in
      let w = extent_positive (at c.perm i) p in
      let v = g.extent (at c.perm i) p in
      (omega arith, omega arith)

-- ---- the answers

pub answer_refused : (f : Fault) (t : Tensor) (c : Config) → (f.status ≡ 0 → ⊥) → answer_of f t c ≡ refused f
unfolding answer_of
answer_refused f t c h = if_fault_lem f (refused f) (accepted t c) h

pub answer_given : (f : Fault) (t : Tensor) (c : Config) → f.status ≡ 0 → answer_of f t c ≡ accepted t c
unfolding answer_of
answer_given f t c h = if_none f (refused f) (accepted t c) h

pub answer_status : (f : Fault) (t : Tensor) (c : Config) → (answer_of f t c).status ≡ f.status
answer_status f t c = elim (ℕ_discrete f.status 0) [
  | yes z ↦ ap (λ (a : Answer). a.status) (answer_given f t c z) ∙ sym z
  | no z ↦ ap (λ (a : Answer). a.status) (answer_refused f t c z)
]

-- the code refuses with f, which the rules g give
pub refuses : (t : Tensor) (c : Config) {f g : Fault} {r : Answer} → r ≡ refused f → (f.status ≡ 0 → ⊥) → g ≡ f → r ≡ answer_of g t c
refuses t c {f} e h p = e ∙ sym (ap (λ (x : Fault). answer_of x t c) p ∙ answer_refused f t c h)

pub need_is : (t : Tensor) (c : Config) {e l : List ℕ} → e ≡ dst_extents t c → l ≡ dst_strides t c → reach t.rank (at c.dst_offset) (at e) (at l) * t.element_size ≡ need t c
unfolding need
need_is t c p q =
    ap₂ (λ (x y : List ℕ). reach t.rank (at c.dst_offset) (at x) (at y) * t.element_size) p q

pub accepts : (t : Tensor) (c : Config) {e l : List ℕ} {b : ℕ} → e ≡ dst_extents t c → l ≡ dst_strides t c → b ≡ reach t.rank (at c.dst_offset) (at e) (at l) * t.element_size →
    record { status = 0; dim = 0; rank = t.rank; element_size = t.element_size; extent = e; stride = l; need = b } ≡ accepted t c
accepts t c p q r =
    let n = r ∙ need_is t c p q in
    λ i. record { status = 0; dim = 0; rank = t.rank; element_size = t.element_size; extent = p i; stride = q i; need = n i }

-- ---- 11 and 12: extents e, resolved strides l

module _ (t : Tensor) (c : Config) {e : List ℕ} (ee : e ≡ dst_extents t c) where
  pub place_strides : {r : Result (List ℕ) Fault} → r ≡ outcome (outward 11 t.rank (bad_stride_at t.rank (at e) (at c.dst_stride))) (strides t.rank (at e) (at c.dst_stride))
      → r ≡ outcome (outward 11 t.rank (bad_stride_at t.rank (at (dst_extents t c)) (at c.dst_stride))) (dst_strides t c)
  place_strides {r} p =
      subst (λ (x : List ℕ). r ≡ outcome (outward 11 t.rank (bad_stride_at t.rank (at x) (at c.dst_stride))) (strides t.rank (at x) (at c.dst_stride))) ee p

  pub place_offsets : {l : List ℕ} {r : Result Unit Fault} → l ≡ dst_strides t c → r ≡ outcome (lowest 12 t.rank (bad_dst_offset_at (at e) (at l) (at c.dst_offset))) tt
      → r ≡ outcome (lowest 12 t.rank (bad_dst_offset_of t c)) tt
  place_offsets {l} {r} el p =
      subst₂ (λ (x y : List ℕ). r ≡ outcome (lowest 12 t.rank (bad_dst_offset_at (at x) (at y) (at c.dst_offset))) tt) ee el p

pub place_offset_small : (t : Tensor) (c : Config) (e l : List ℕ) → (lowest 12 t.rank (bad_dst_offset_at (at e) (at l) (at c.dst_offset))).status ≡ 0 → (i : ℕ) → i < t.rank → at c.dst_offset i ≤ 65535
place_offset_small t c e l z i h =
    dst_offset_small (at e) (at l) (at c.dst_offset) i
    (lowest_clear 12 t.rank (bad_dst_offset_at (at e) (at l) (at c.dst_offset)) i (omega arith) z h)

-- ---- the room question, from the judgements of the source, `s`, and of the destination, `a`

module _ (t : Tensor) (c : Config) where
  pub room_is : {s : Source} {a : Answer} → s ≡ source_accepted t → a ≡ accepted t c → record { answer = a; span = s.span } ≡ room_accepted t c
  room_is es ea = let sp = ap (λ (x : Source). x.span) es in λ i. record { answer = ea i; span = sp i }

  -- where it is refused, and where not
  pub room_answer : if_fault (room_fault t c) (record { answer = refused (room_fault t c); span = 0 }) (room_accepted t c) ≡ room_of t c
  unfolding room_of answer_of
  room_answer = elim (ℕ_discrete (room_fault t c).status 0) [
    | yes z ↦
        let an = if_none (room_fault t c) (refused (room_fault t c)) (accepted t c) z in
        let sp = if_none (room_fault t c) 0 (span t) z in
        if_none (room_fault t c) _ _ z ∙ (λ i. record { answer = sym an i; span = sym sp i })
    | no z ↦
        let an = if_fault_lem (room_fault t c) (refused (room_fault t c)) (accepted t c) z in
        let sp = if_fault_lem (room_fault t c) 0 (span t) z in
        if_fault_lem (room_fault t c) _ _ z ∙ (λ i. record { answer = sym an i; span = sym sp i })
  ]
