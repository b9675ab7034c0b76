-- Entries at or past the rank are not looked at, nor are bytes of the fill past the element size: with records and configurations that
-- agree in the rest, moves leave the same memory and answer the same, and pixels are the same. Assumes nothing.
use Rattle.std.proofs.Common.{◌≡◌, ℕ, zero, suc, ◌+◌, ◌-◌, ◌*◌, ◌/◌, ◌%◌, ◌<◌, min, false, cond, not, ◌&&◌, ◌||◌, ltb, leb, List, length, take, drop, sym, refl, ap, ◌∙◌, ap₂, arith}
use native.Mathlib.Decide.{ℕ_discrete}
use lib.Seq.{sets}
use Rattle.plane.specs.declared.Tensor.{Tensor}
use Rattle.plane.specs.declared.Config.{Config}
use Rattle.plane.specs.declared.SubTensor.{SubTensor}
use Rattle.faults.specs.declared.Fault.{Fault}
use Rattle.plane.specs.Arrays.{at, firsts, zeros, sum, product, every}
use Rattle.plane.specs.Numbers.{little}
use Rattle.faults.specs.Faults.{when, lowest, if_fault}
use Rattle.plane.specs.Planes.{shape_at, down_at, up, src_strides, source_at}
use Rattle.plane.specs.Moves.{count, dst_strides, need, move_fault}
use Rattle.plane.proofs.Arrays.{sum_same, every_same}
use Rattle.faults.proofs.Faults.{status, or_path, lowest_same, if_fault_lem, if_none}
use Rattle.plane.specs.Good.{GoodConfig}
use Rattle.plane.proofs.Good.{move_good}
use Rattle.plane.specs.Unseen.{SameTensor, SameArrays, UnseenSub}
use Rattle.plane.proofs.Configs.{same_offset, same_step, same_dst_offset, same_perm, same_pre}
use Rattle.plane.proofs.Unseen.{fault_unseen, strides_unseen, down_unseen, kept_unseen, extents_unseen, dst_strides_unseen, sub_unseen}
use Rattle.parts.specs.Parts.{bytes_of}
use Rattle.mover.specs.declared.Job.{Job}
use Rattle.mover.specs.Claims.{SameFill, SameAsked, SameJob, MovesUnseen, PixelUnseen}
use Rattle.mover.specs.Element.{dim_of, k_of, is_kept, are_kept, source_place, place, padded, element}
use Rattle.mover.specs.Pixel.{bad_coordinate, pixel_fault, pixel_of}
use Rattle.mover.specs.Moved.{extent_at, total, per_step, coord_of, stored, moved, move_memory}
use Rattle.mover.specs.Within.{leaves, off_boundary, meets, job_fault, total_of, verdict_of, advanced_by, further, advance_of, advance_memory}
use Rattle.mover.specs.SubPart.{sub_part}
use Rattle.mover.proofs.Keeping.{kept_same, element_same}
use Rattle.mover.proofs.Laws.{job_good}
use Rattle.mover.proofs.Picking.{outside, refused_alike, passed_alike, passed_just}
use Rattle.mover.proofs.SubParts.{part_by, part_by_lem}

-- equal faults, and equal values where there is none
same_if_fault : {A : Type 0} (f f' : Fault) (y x x' : A) → f ≡ f' → (f.status ≡ 0 → x ≡ x') → if_fault f y x ≡ if_fault f' y x'
same_if_fault f f' y x x' e h = elim (ℕ_discrete f.status 0) [
  | yes z ↦ if_none f y x z ∙ h z ∙ sym (if_none f' y x' (sym (status e) ∙ z))
  | no z ↦ if_fault_lem f y x z ∙ sym (if_fault_lem f' y x' (λ w. z (status e ∙ w)))
]

-- ---- the move

module _ (t t' : Tensor) (c c' : Config) (a : SameTensor t t') (b : SameArrays t.rank c c') where
  -- a configuration whose permutation is refused names dimensions past the rank; such a move is refused
  module _ (g : GoodConfig t c) where
    -- what is read at the source dimension of destination dimension i
    at_dim : (f f' : ℕ → ℕ) → ((d : ℕ) → d < t.rank → f d ≡ f' d) → (i : ℕ) → i < t.rank → f (dim_of c i) ≡ f' (dim_of c' i)
    at_dim f f' e i h = e (dim_of c i) (g.perm i h) ∙ ap f' (same_perm b i h)

    same_kept : (x : ℕ → ℕ) → are_kept t c x ≡ are_kept t' c' x
    unfolding are_kept is_kept
    same_kept x =
        every_same t.rank _ _
        (λ i h.
        ap₂ (λ (p n : ℕ). leb p (x i) && ltb (x i - p) n)
        (at_dim (at c.pre) (at c'.pre) (same_pre b) i h)
        (at_dim (count t c) (count t' c') (kept_unseen t t' a c c' b) i h)) ∙
        ap (λ (n : ℕ). every n (λ i. is_kept t' c' i (x i))) a.rank

    same_source : (x : ℕ → ℕ) → source_place t c x ≡ source_place t' c' x
    unfolding source_place
    same_source x =
        sum_same t.rank _ _
        (λ i h.
        let o = at_dim (at c.offset) (at c'.offset) (same_offset b) i h in
        let p = at_dim (at c.pre) (at c'.pre) (same_pre b) i h in
        let s = at_dim (at c.step) (at c'.step) (same_step b) i h in
        let w = at_dim (at (src_strides t)) (at (src_strides t')) (λ d l. ap (λ (y : List ℕ). at y d) (strides_unseen t t' a)) i h in
        let z = at_dim (shape_at t) (shape_at t') a.shape i h in
        let v = down_unseen t t' a (dim_of c i) (g.perm i h) ∙ ap (down_at t') (same_perm b i h) in
        λ k. up (v k) (z k) (o k + (x i - p k) * s k) * w k) ∙
        ap (λ (n : ℕ). sum n (λ i. source_at t' (dim_of c' i) (at c'.offset (dim_of c' i) + k_of c' i (x i) * at c'.step (dim_of c' i)))) a.rank

    -- it goes to the same place
    same_place : (x : ℕ → ℕ) → place t c x ≡ place t' c' x
    unfolding place
    same_place x =
        sum_same t.rank _ _ (λ i h. ap (λ (y : ℕ). (y + x i) * at (dst_strides t c) i) (same_dst_offset b i h)) ∙
        ap₂ (λ (n : ℕ) (w : List ℕ). sum n (λ i. (at c'.dst_offset i + x i) * at w i)) a.rank (dst_strides_unseen t t' a c c' b g)

    -- in the same order
    same_coord : (q : ℕ) → coord_of t c q ≡ coord_of t' c' q
    unfolding coord_of per_step
    same_coord q =
        ap₂ (λ (n : ℕ) (e : List ℕ). λ (i : ℕ). q / product (n - suc i) (λ k. at e (suc i + k)) % at e i) a.rank (extents_unseen t t' a c c' b g)

    pub total_unseen : total t c ≡ total t' c'
    unfolding total
    total_unseen = ap₂ (λ (n : ℕ) (e : List ℕ). product n (at e)) a.rank (extents_unseen t t' a c c' b g)

    -- where the fills put the same into a padded element
    module _ (f : SameFill t.element_size c c') where
      same_padded : padded t c ≡ padded t' c'
      unfolding padded
      same_padded = f ∙ ap (λ (z : ℕ). little z c'.fill) a.element

      same_element : (src : List ℕ) (x : ℕ → ℕ) → element t c src x ≡ element t' c' src x
      unfolding element
      same_element src x =
          λ i. cond (same_kept x i) (take (a.element i) (drop (same_source x i * a.element i) src)) (same_padded i)

      same_stored : (src : List ℕ) (q : ℕ) (dst : List ℕ) → stored t c src q dst ≡ stored t' c' src q dst
      unfolding stored
      same_stored src q dst = rw (same_coord q, same_place (coord_of t' c' q), same_element src (coord_of t' c' q), a.element)

      -- any stretch of elements
      pub moved_unseen : (src : List ℕ) (from n : ℕ) (dst : List ℕ) → moved t c src from n dst ≡ moved t' c' src from n dst
      unfolding moved
      moved_unseen src from zero dst = refl
      moved_unseen src from (suc n) dst =
          same_stored src (from + n) (moved t c src from n dst) ∙ ap (stored t' c' src (from + n)) (moved_unseen src from n dst)

-- a whole move
move_unseen : (src dst : List ℕ) (t t' : Tensor) → SameTensor t t' → (c c' : Config) → SameArrays t.rank c c' → SameFill t.element_size c c' → move_memory t c src dst ≡ move_memory t' c' src dst
unfolding move_memory
move_unseen src dst t t' a c c' b f =
    same_if_fault (move_fault t c (length src) (length dst)) _ dst _ _ (fault_unseen t t' a c c' b (length src) (length dst))
    (λ z.
    let g = (move_good t c (length src) (length dst) z).config in
    moved_unseen t t' c c' a b g f src 0 (total t c) dst ∙ ap (λ (n : ℕ). moved t' c' src 0 n dst) (total_unseen t t' c c' a b g))

-- ---- one pixel, whose coordinates agree below the rank

module _ (t t' : Tensor) (c c' : Config) (a : SameTensor t t') (b : SameArrays t.rank c c') (x x' : List ℕ) (h : (i : ℕ) → i < t.rank → at x i ≡ at x' i) where
  same_outside : GoodConfig t c → outside t c x ≡ outside t' c' x'
  same_outside g =
      lowest_same 35 t.rank _ _ (λ i l. ap₂ (λ (e : List ℕ) (y : ℕ). bad_coordinate (at e i) y) (extents_unseen t t' a c c' b g) (h i l)) ∙
      ap (λ (n : ℕ). lowest 35 n (λ i. bad_coordinate (extent_at t' c' i) (at x' i))) a.rank

  -- judged beside a move into a destination that is long enough for both
  abbrev most : ℕ
  most = need t c + need t' c'

  pixel_fault_unseen : (n : ℕ) → pixel_fault t c n x ≡ pixel_fault t' c' n x'
  pixel_fault_unseen n =
      let e = fault_unseen t t' a c c' b n most in
      elim (ℕ_discrete (move_fault t c n most).status 0) [
        | yes z ↦
            let g = move_good t c n most z in
            passed_alike t c n most x g ∙ same_outside g.config ∙ sym (passed_alike t' c' n most x' (move_good t' c' n most (sym (status e) ∙ z)))
        | no z ↦
            refused_alike t c n most x (λ _ _ _ _. omega arith) z ∙ e ∙
            sym (refused_alike t' c' n most x' (λ _ _ _ _. omega arith) (λ w. z (status e ∙ w)))
      ]

  -- all but the bytes; and these where the fills put the same into a padded element
  module _ (src : List ℕ) where
    abbrev found : Fault
    found = pixel_fault t c (length src) x

    abbrev found' : Fault
    found' = pixel_fault t' c' (length src) x'

    same_found : found ≡ found'
    same_found = pixel_fault_unseen (length src)

    padding_unseen : (pixel_of t c src x).padding ≡ (pixel_of t' c' src x').padding
    unfolding pixel_of
    padding_unseen =
        same_if_fault found found' false _ _ same_found
        (λ z. ap not (kept_same t c (at x) (at x') h ∙ same_kept t t' c c' a b (passed_just t c (length src) x z).config (at x')))

    bytes_unseen : SameFill t.element_size c c' → (pixel_of t c src x).bytes ≡ (pixel_of t' c' src x').bytes
    unfolding pixel_of
    bytes_unseen f =
        same_if_fault found found' zeros _ _ same_found
        (λ z.
        let s = element_same t c (at x) (at x') h src ∙ same_element t t' c c' a b (passed_just t c (length src) x z).config f src (at x') in
        λ i. firsts (a.element i) (at (s i)))

    pixel_unseen : let p = pixel_of t c src x in let p' = pixel_of t' c' src x' in
        (p.status ≡ p'.status) × (p.dim ≡ p'.dim) × (p.padding ≡ p'.padding) × (SameFill t.element_size c c' → p.bytes ≡ p'.bytes)
    unfolding pixel_of
    pixel_unseen = (ap (λ (f : Fault). f.status) same_found, ap (λ (f : Fault). f.dim) same_found, padding_unseen, bytes_unseen)

-- ---- a move between two parts of one memory: jobs with the same parts

module _ (j j' : Job) (s : SameAsked j j') where
  pub job_fault_unseen : (n : ℕ) → job_fault n j ≡ job_fault n j'
  unfolding job_fault move_fault
  job_fault_unseen n =
      let e = s.source in
      let f = s.destination in
      let z = s.tensor.element in
      or_path (λ i. when 20 0 (leaves n (e i) || leaves n (f i)))
      (or_path
      (fault_unseen j.tensor j'.tensor s.tensor j.config j'.config s.arrays j.source.length j.destination.length ∙
      (λ i. move_fault j'.tensor j'.config (e i).length (f i).length))
      (or_path (λ i. when 34 0 (off_boundary (z i) (e i) || off_boundary (z i) (f i)))
      (λ i. when 21 0 (meets (e i) (f i)))))

  module _ (n : ℕ) (z : (job_fault n j).status ≡ 0) where
    same_total : total_of j ≡ total_of j'
    same_total = total_unseen j.tensor j'.tensor j.config j'.config s.tensor s.arrays (job_good n j z).config

    same_advanced : SameFill j.tensor.element_size j.config j'.config → (from k : ℕ) (m : List ℕ) → advanced_by j from k m ≡ advanced_by j' from k m
    unfolding advanced_by
    same_advanced fill from k m =
        let e = s.source in
        let f = s.destination in
        ap (sets m j.destination.start)
        (moved_unseen j.tensor j'.tensor j.config j'.config s.tensor s.arrays (job_good n j z).config fill (bytes_of j.source m) from k (bytes_of j.destination m)) ∙
        (λ i. sets m (f i).start (moved j'.tensor j'.config (bytes_of (e i) m) from k (bytes_of (f i) m)))

    same_further : (from budget : ℕ) → further j from budget ≡ further j' from budget
    same_further from budget = ap (λ (x : ℕ). min budget (x - from)) same_total

-- its judgement
pub job_unseen : (n : ℕ) (j j' : Job) → SameAsked j j' → verdict_of n j ≡ verdict_of n j'
unfolding verdict_of
job_unseen n j j' s =
    let e = job_fault_unseen j j' s n in
    let w = same_if_fault (job_fault n j) (job_fault n j') 0 (total_of j) (total_of j') e (same_total j j' s n) in
    λ i. record { status = (e i).status; dim = (e i).dim; total = w i }

-- a stretch of it: the answer, and the memory
advance_unseen : (from budget : ℕ) (m : List ℕ) (j j' : Job) → SameAsked j j' → advance_of j from budget m ≡ advance_of j' from budget m
unfolding advance_of
advance_unseen from budget m j j' s =
    let e = job_fault_unseen j j' s (length m) in
    let w = same_if_fault (job_fault (length m) j) (job_fault (length m) j') 0 (further j from budget) (further j' from budget) e
    (λ z. same_further j j' s (length m) z from budget) in
    λ i. record { status = (e i).status; dim = (e i).dim; count = w i }

pub advance_memory_unseen : (from budget : ℕ) (m : List ℕ) (j j' : Job) → SameJob j j' → advance_memory j from budget m ≡ advance_memory j' from budget m
unfolding advance_memory
advance_memory_unseen from budget m j j' s =
    same_if_fault (job_fault (length m) j) (job_fault (length m) j') m _ _ (job_fault_unseen j j' s.asked (length m))
    (λ z.
    same_advanced j j' s.asked (length m) z s.fill from (further j from budget) m ∙
    ap (λ (k : ℕ). advanced_by j' from k m) (same_further j j' s.asked (length m) z from budget))

-- ---- the part of a source at which a sub-tensor starts

pub part_unseen : (src : List ℕ) → UnseenSub (λ t s. sub_part t s src)
part_unseen src t t' a s s' b =
    part_by_lem t s src ∙ ap (λ (r : SubTensor). part_by r src) (sub_unseen (length src) t t' a s s' b) ∙ sym (part_by_lem t' s' src)

pub moves_unseen : MovesUnseen
moves_unseen =
    record { move = move_unseen; part = part_unseen; job = job_unseen; advance = advance_unseen; memory = advance_memory_unseen }

pub one_pixel_unseen : PixelUnseen
one_pixel_unseen src x x' t t' a c c' b h = pixel_unseen t t' c c' a b x x' h src
