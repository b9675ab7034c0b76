-- Entries at or past the rank are not looked at, nor is the fill: records and configurations whose entries below the rank agree have
-- the same answers. Assumes nothing.
use Prim.Native.Nat.{ℕ, zero, suc, ◌+◌, ◌-◌, ◌*◌, ◌≤◌, ◌<◌}
use native.Mathlib.Decide.{ℕ_discrete}
use native.Mathlib.Omega.{arith}
use mathlib.Core.Path.{◌≡◌, refl, sym, ap, ap₂, ◌∙◌}
use mathlib.Core.Bool.{Bool, cond, ◌||◌, ◌&&◌}
use mathlib.Core.List.{List, [], ◌∷◌, ◌++◌}
use lib.Dec.{leb, ltb, eqb}
use Rattle.plane.specs.declared.Tensor.{Tensor}
use Rattle.plane.specs.declared.Config.{Config}
use Rattle.plane.specs.declared.SubConfig.{SubConfig}
use Rattle.faults.specs.declared.Fault.{Fault}
use Rattle.plane.specs.declared.SubTensor.{SubTensor}
use lib.IntN.{ℤ, pos}
use Rattle.plane.specs.Arrays.{at, zeros, or0}
use Rattle.plane.specs.Signs.{size_of, is_down, signed, at_z}
use Rattle.faults.specs.Faults.{when, ◌or_else◌, lowest, if_fault}
use Rattle.plane.specs.Planes.{bad_shape, bad_stride, shape_at, stride_at, down_at, up, inner, resolved, bad_stride_at, strides, src_strides, span, source_fault, source_of}
use Rattle.plane.specs.Moves.{upward, count, extent, dst_extents, dst_strides, need, bad_perm_at, bad_offset, bad_step, bad_extent, bad_dst_offset_at, bad_dst_offset_of, config_fault, dst_fault, move_fault, room_fault, accepted, answer_of, judge_of, room_of}
use Rattle.plane.specs.Helpers.{elements, count_fault, count_answer, count_of, is_unit, staying, sub_dim, rank_fault, sub_fault, resolved_at, lowest_in, sub_of, sub_byte, no_sub, sub_answer, sub_tensor_of}
use Rattle.plane.specs.Mirrors.{SameSizes, SignsUnjudged}
use Rattle.plane.specs.Unseen.{SameTensor, SameArrays, SameSub, UnseenTensor, UnseenConfig, UnseenSub, CallsUnseen}
use Rattle.plane.proofs.Configs.{same_offset, same_size, same_step, same_dst_offset, same_dst_stride, same_perm, same_pre, same_post}
use Rattle.plane.proofs.Arrays.{firsts_same, sum_same, product_same, how_many_same, some_same}
use Rattle.plane.proofs.Signed.{sizes_at}
use Rattle.faults.proofs.Faults.{status, or_path, or_found, or_clear, lowest_same, outward_same, if_fault_lem, if_none}
use Rattle.plane.specs.Good.{GoodConfig}
use Rattle.plane.proofs.Good.{config_good, config_clear}
use Rattle.plane.proofs.Rules.{answer_refused, answer_given}
use Rattle.plane.proofs.SubTensors.{sub_good, sub_dim_below}

-- ---- strides

module _ (n : ℕ) (s s' p p' : ℕ → ℕ) (es : (d : ℕ) → d < n → s d ≡ s' d) (ep : (d : ℕ) → d < n → p d ≡ p' d) where
  inner_same : (k : ℕ) → k ≤ n → inner n s p k ≡ inner n s' p' k
  unfolding inner
  inner_same zero h = refl
  inner_same (suc k) h =
      let q : n - suc k < n = omega arith in
      ap₂ (λ (x y : ℕ). x * y) (ap₂ or0 (ep (n - suc k) q) (inner_same k (omega arith))) (es (n - suc k) q)

  resolved_same : (d : ℕ) → d < n → resolved n s p d ≡ resolved n s' p' d
  unfolding resolved
  resolved_same d h = ap₂ or0 (ep d h) (inner_same (n - suc d) (omega arith))

  bad_stride_at_same : (d : ℕ) → d < n → bad_stride_at n s p d ≡ bad_stride_at n s' p' d
  unfolding bad_stride_at
  bad_stride_at_same d h = ap₂ bad_stride (resolved_same d h) (inner_same (n - suc d) (omega arith))

  strides_same : strides n s p ≡ strides n s' p'
  strides_same = firsts_same 0 n (resolved n s p) (resolved n s' p') resolved_same

-- two tensor records of one rank that agree but for their strides, and these resolve alike
pub record Alike (t t' : Tensor) : Type 0 where
  pub rank : t.rank ≡ t'.rank
  pub element : t.element_size ≡ t'.element_size
  pub shape : (d : ℕ) → d < t.rank → shape_at t d ≡ shape_at t' d
  pub inner : (k : ℕ) → k ≤ t.rank → inner t.rank (shape_at t) (stride_at t) k ≡ inner t.rank (shape_at t') (stride_at t') k
  pub resolved : (d : ℕ) → d < t.rank → resolved t.rank (shape_at t) (stride_at t) d ≡ resolved t.rank (shape_at t') (stride_at t') d

-- ---- two such tensor records, of rank n and element size z

abbrev tensor : ℕ → ℕ → List ℕ → List ℤ → Tensor
tensor n z shape stride = record { rank = n; element_size = z; shape = shape; stride = stride }

module _ (n z : ℕ) (s s' : List ℕ) (p p' : List ℤ) (a : Alike (tensor n z s p) (tensor n z s' p')) where
  abbrev T : Tensor
  T = tensor n z s p

  abbrev T' : Tensor
  T' = tensor n z s' p'

  shapes_same : lowest 3 n (λ d. bad_shape (shape_at T d)) ≡ lowest 3 n (λ d. bad_shape (shape_at T' d))
  shapes_same = lowest_same 3 n _ _ (λ d h. ap bad_shape (a.shape d h))

  source_same : source_fault T ≡ source_fault T'
  unfolding source_fault bad_stride_at
  source_same =
      or_path refl (or_path refl (or_path shapes_same
      (outward_same 4 n _ _ (λ d h. ap₂ bad_stride (a.resolved d h) (a.inner (n - suc d) (omega arith))))))

  src_strides_same : src_strides T ≡ src_strides T'
  src_strides_same = firsts_same 0 n _ _ a.resolved

  span_same : span T ≡ span T'
  unfolding span
  span_same =
      ap (λ (x : ℕ). (1 + x) * z)
      (sum_same n _ _ (λ d h. ap₂ (λ (x : ℕ) (l : List ℕ). (x - 1) * at l d) (a.shape d h) src_strides_same))

  its_same : source_of T ≡ source_of T'
  unfolding source_of
  its_same =
      λ i. record { fault = source_same i; stride = if_fault (source_same i) zeros (src_strides_same i); span = if_fault (source_same i) 0 (span_same i) }

  -- ---- the move

  module _ (c c' : Config) (b : SameArrays n c c') where
    extent_same : (d : ℕ) → d < n → extent T c d ≡ extent T' c' d
    unfolding extent count
    extent_same d h =
        let w = ap₂ or0 (same_size b d h) (ap₂ (λ (x y : ℕ). x - y) (a.shape d h) (same_offset b d h)) in
        ap₂ (λ (x y : ℕ). x + y) (ap₂ (λ (x y : ℕ). x + y) (same_pre b d h) (ap₂ upward w (same_step b d h))) (same_post b d h)

    perm_same : (i : ℕ) → i < n → bad_perm_at n (at c.perm) i ≡ bad_perm_at n (at c'.perm) i
    perm_same i h =
        ap₂ (λ (x y : Bool). x || y) (ap (leb n) (same_perm b i h)) (some_same i _ _ (λ j q. ap₂ eqb (same_perm b j (omega arith)) (same_perm b i h)))

    config_same : config_fault T c ≡ config_fault T' c'
    unfolding config_fault
    config_same =
        or_path (lowest_same 6 n _ _ perm_same)
        (or_path (lowest_same 7 n _ _ (λ d h. ap₂ bad_offset (a.shape d h) (same_offset b d h)))
        (or_path (lowest_same 8 n _ _ (λ d h. ap₂ (λ (x y : ℕ). ltb x y) (a.shape d h) (ap₂ (λ (x y : ℕ). x + y) (same_size b d h) (same_offset b d h))))
        (or_path (lowest_same 9 n _ _ (λ d h. ap bad_step (same_step b d h))) (lowest_same 10 n _ _ (λ d h. ap bad_extent (extent_same d h))))))

    -- the destination is looked at only where no number up to 10 is given
    module _ (g : (config_fault T c).status ≡ 0) where
      extents_same : dst_extents T c ≡ dst_extents T' c'
      unfolding dst_extents
      extents_same =
          firsts_same 0 n _ _ (λ i h. extent_same (at c.perm i) ((config_good T c g).perm i h) ∙ ap (extent T' c') (same_perm b i h))

      extent_at_lem : (d : ℕ) → d < n → at (dst_extents T c) d ≡ at (dst_extents T' c') d
      extent_at_lem d h = ap (λ (l : List ℕ). at l d) extents_same

      dst_strides_same : dst_strides T c ≡ dst_strides T' c'
      dst_strides_same = strides_same n _ _ _ _ extent_at_lem (same_dst_stride b)

      place_at : (i : ℕ) → i < n → bad_dst_offset_of T c i ≡ bad_dst_offset_of T' c' i
      unfolding bad_dst_offset_at
      place_at i h =
          ap₂ (λ (x o : ℕ). ltb 65535 o || (ltb 0 i && ltb (at (dst_strides T c) (i - 1)) ((o + x) * at (dst_strides T c) i))) (extent_at_lem i h) (same_dst_offset b i h) ∙
          ap (λ (l : List ℕ). bad_dst_offset_at (at (dst_extents T' c')) (at l) (at c'.dst_offset) i) dst_strides_same

      place_same : dst_fault T c ≡ dst_fault T' c'
      unfolding dst_fault
      place_same =
          or_path (outward_same 11 n _ _ (bad_stride_at_same n _ _ _ _ extent_at_lem (same_dst_stride b)))
          (lowest_same 12 n _ _ place_at)

      need_same : need T c ≡ need T' c'
      unfolding need
      need_same =
          ap (λ (x : ℕ). (1 + x) * z)
          (sum_same n _ _
          (λ i h.
          ap₂ (λ (x y : ℕ). x * y)
          (ap₂ (λ (x : ℕ) (l : List ℕ). x + at l i - 1) (same_dst_offset b i h) extents_same)
          (ap (λ (l : List ℕ). at l i) dst_strides_same)))

      accepted_same : accepted T c ≡ accepted T' c'
      accepted_same =
          λ i. record { status = 0; dim = 0; rank = n; element_size = z; extent = extents_same i; stride = dst_strides_same i; need = need_same i }

    -- a fault g that stands behind the configuration's
    behind : (g g' : Fault) → ((config_fault T c).status ≡ 0 → g ≡ g') → (config_fault T c or_else g) ≡ (config_fault T' c' or_else g')
    behind g g' h = elim (ℕ_discrete (config_fault T c).status 0) [
      | yes y ↦ or_path config_same (h y)
      | no y ↦ or_found _ g y ∙ config_same ∙ sym (or_found _ g' (λ x. y (status config_same ∙ x)))
    ]

    answer_same : (f : Fault) → (f.status ≡ 0 → (config_fault T c).status ≡ 0) → answer_of f T c ≡ answer_of f T' c'
    answer_same f h = elim (ℕ_discrete f.status 0) [
      | yes y ↦ answer_given f T c y ∙ accepted_same (h y) ∙ sym (answer_given f T' c' y)
      | no y ↦ answer_refused f T c y ∙ sym (answer_refused f T' c' y)
    ]

    room_same : room_of T c ≡ room_of T' c'
    unfolding room_of room_fault source_fault config_fault dst_fault
    room_same =
        let e : room_fault T c ≡ room_fault T' c' = or_path source_same (behind _ _ place_same) in
        let w : answer_of (room_fault T c) T c ≡ answer_of (room_fault T' c') T' c' =
        answer_same (room_fault T c) (λ y. (or_clear _ _ (or_clear _ _ y).1).0) ∙ ap (λ (f : Fault). answer_of f T' c') e in
        let v : if_fault (room_fault T c) 0 (span T) ≡ if_fault (room_fault T' c') 0 (span T') = ap₂ (λ (f : Fault) (x : ℕ). if_fault f 0 x) e span_same in
        λ i. record { answer = w i; span = v i }

    move_same : (sl dl : ℕ) → move_fault T c sl dl ≡ move_fault T' c' sl dl
    unfolding move_fault source_fault config_fault dst_fault
    move_same sl dl =
        or_path source_same
        (or_path (ap (λ (x : ℕ). when 5 0 (ltb sl x)) span_same)
        (behind _ _ (λ y. or_path (place_same y) (ap (λ (x : ℕ). when 13 0 (ltb dl x)) (need_same y)))))

    judge_same : (sl dl : ℕ) → judge_of T c sl dl ≡ judge_of T' c' sl dl
    unfolding judge_of move_fault source_fault config_fault dst_fault
    judge_same sl dl =
        answer_same (move_fault T c sl dl) (λ y. (or_clear _ _ (or_clear _ _ (or_clear _ _ y).1).1).0) ∙
        ap (λ (f : Fault). answer_of f T' c') (move_same sl dl)

  -- ---- the helpers

  elements_same : (start : ℕ) → elements T start ≡ elements T' start
  unfolding elements
  elements_same start = product_same (n - start) _ _ (λ k h. a.shape (start + k) (omega arith))

  count_same : (start : ℕ) → count_of T start ≡ count_of T' start
  unfolding count_of count_fault
  count_same start = ap₂ count_answer (or_path refl (or_path shapes_same refl)) (elements_same start)

  -- the sub-tensor's rank is one number m, so that its output's rank is one too; here the signs count
  module _ (g : (d : ℕ) → d < n → at_z p d ≡ at_z p' d) (m : ℕ) (o o' q q' : List ℕ) (b : SameSub n (record { offset = o; size = q; rank = m }) (record { offset = o'; size = q'; rank = m })) where
    abbrev S : SubConfig
    S = record { offset = o; size = q; rank = m }

    abbrev S' : SubConfig
    S' = record { offset = o'; size = q'; rank = m }

    unit_same : (d : ℕ) → d < n → is_unit (at q) d ≡ is_unit (at q') d
    unit_same d h = ap (λ (x : ℕ). eqb x 1) (b.size d h)

    staying_same : (x d : ℕ) → d ≤ n → staying (at q) x d ≡ staying (at q') x d
    unfolding staying
    staying_same x zero h = refl
    staying_same x (suc d) h =
        ap₂ (λ (l k : List ℕ). l ++ k) (staying_same x d (omega arith))
        (ap₂ (λ (u : Bool) (k : ℕ). cond (u && ltb k x) [] (d ∷ [])) (unit_same d h)
        (how_many_same d _ _ (λ k r. unit_same k (omega arith))))

    rank_same : rank_fault T S ≡ rank_fault T' S'
    unfolding rank_fault
    rank_same = or_path refl (ap (λ (x : ℕ). when 15 0 (ltb x (n - m))) (how_many_same n _ _ unit_same))

    sub_fault_same : (sl : ℕ) → sub_fault T S sl ≡ sub_fault T' S' sl
    unfolding sub_fault source_fault rank_fault
    sub_fault_same sl =
        or_path source_same
        (or_path (ap (λ (x : ℕ). when 5 0 (ltb sl x)) span_same)
        (or_path (lowest_same 7 n _ _ (λ d h. ap₂ bad_offset (a.shape d h) (b.offset d h)))
        (or_path
        (lowest_same 8 n _ _
        (λ d h.
        ap₂ (λ (x y : Bool). x || y) (ap (λ (x : ℕ). eqb x 0) (b.size d h))
        (ap₂ (λ (x y : ℕ). ltb x y) (a.shape d h) (ap₂ (λ (x y : ℕ). x + y) (b.size d h) (b.offset d h)))))
        rank_same)))

    down_same : (d : ℕ) → d < n → down_at T d ≡ down_at T' d
    down_same d h = ap is_down (g d h)

    low_same : (d : ℕ) → d < n → up (down_at T d) (shape_at T d) (lowest_in (down_at T d) (at o d) (at q d)) ≡ up (down_at T' d) (shape_at T' d) (lowest_in (down_at T' d) (at o' d) (at q' d))
    low_same d h = λ i. up (down_same d h i) (a.shape d h i) (lowest_in (down_same d h i) (b.offset d h i) (b.size d h i))

    byte_same : sub_byte T S ≡ sub_byte T' S'
    unfolding sub_byte
    byte_same =
        ap (λ (x : ℕ). x * z) (sum_same n _ _ (λ d h. ap₂ (λ (x : ℕ) (l : List ℕ). x * at l d) (low_same d h) src_strides_same))

    of_same : (sl : ℕ) → (sub_fault T S sl).status ≡ 0 → sub_of T S ≡ sub_of T' S'
    unfolding sub_of
    of_same sl y =
        let dims : staying (at q) (n - m) n ≡ staying (at q') (n - m) n = staying_same (n - m) n (omega arith) in
        let shape = firsts_same 0 m (λ i. at q (sub_dim T S i)) (λ i. at q' (sub_dim T' S' i))
        (λ i h. b.size (sub_dim T S i) (sub_dim_below (sub_good T S sl y) i h) ∙ ap (λ (l : List ℕ). at q' (at l i)) dims) in
        let stride = firsts_same (pos 0) m (λ i. resolved_at T (sub_dim T S i)) (λ i. resolved_at T' (sub_dim T' S' i))
        (λ i h.
        ap₂ (λ (v : Bool) (l : List ℕ). signed v (at l (sub_dim T S i))) (down_same (sub_dim T S i) (sub_dim_below (sub_good T S sl y) i h)) src_strides_same ∙
        ap (λ (l : List ℕ). resolved_at T' (at l i)) dims) in
        λ i. record { rank = m; element_size = z; shape = shape i; stride = stride i }

    sub_same : (sl : ℕ) → sub_tensor_of T S sl ≡ sub_tensor_of T' S' sl
    unfolding sub_tensor_of sub_answer
    sub_same sl =
        let f = sub_fault T S sl in
        let f' = sub_fault T' S' sl in
        let e = sub_fault_same sl in
        let x : SubTensor = record { status = 0; dim = 0; tensor = sub_of T S; byte = sub_byte T S } in
        let x' : SubTensor = record { status = 0; dim = 0; tensor = sub_of T' S'; byte = sub_byte T' S' } in
        elim (ℕ_discrete f.status 0) [
          | yes y ↦ if_none f (no_sub f) x y ∙
              (λ i. record { status = 0; dim = 0; tensor = of_same sl y i; byte = byte_same i }) ∙
              sym (if_none f' (no_sub f') x' (sym (status e) ∙ y))
          | no y ↦ if_fault_lem f (no_sub f) x y ∙ ap no_sub e ∙ sym (if_fault_lem f' (no_sub f') x' (λ z. y (status e ∙ z)))
        ]

-- ---- the theorems

module _ (t t' : Tensor) (a : SameSizes t t') where
  -- the same arrays as t', at t's rank and element size
  abbrev like : Tensor
  like = tensor t.rank t.element_size t'.shape t'.stride

  across : {A : Type 0} (f : Tensor → A) → f like ≡ f t'
  across f = ap₂ (λ (n z : ℕ). f (tensor n z t'.shape t'.stride)) a.rank a.element

  alike : Alike t like
  alike = record {
    rank = refl;
    element = refl;
    shape = a.shape;
    inner = inner_same t.rank (shape_at t) (shape_at t') (stride_at t) (stride_at t') a.shape a.stride;
    resolved = resolved_same t.rank (shape_at t) (shape_at t') (stride_at t) (stride_at t') a.shape a.stride;
  }

  pub sizes_alike : src_strides t' ≡ src_strides t
  sizes_alike = sym (src_strides_same _ _ _ _ _ _ alike ∙ across (λ (x : Tensor). src_strides x))

same_arrays : (n : ℕ) (c : Config) → SameArrays n c c
same_arrays n c = record { each = λ k l d h. refl }

-- what resolves alike is judged alike
module _ (n z : ℕ) (s : List ℕ) (p p' : List ℤ) (a : Alike (tensor n z s p) (tensor n z s p')) where
  pub alike_source : source_of (tensor n z s p) ≡ source_of (tensor n z s p')
  alike_source = its_same n z s s p p' a

  pub alike_strides : src_strides (tensor n z s p) ≡ src_strides (tensor n z s p')
  alike_strides = src_strides_same n z s s p p' a

  pub alike_judge : (c : Config) (sl dl : ℕ) → judge_of (tensor n z s p) c sl dl ≡ judge_of (tensor n z s p') c sl dl
  alike_judge c sl dl = judge_same n z s s p p' a c c (same_arrays n c) sl dl

-- signs are not judged
pub signs_unjudged : SignsUnjudged
signs_unjudged = record {
  source = λ t t' a. its_same _ _ _ _ _ _ (alike t t' a) ∙ across t t' a (λ (x : Tensor). source_of x);
  room = λ t t' a c. room_same _ _ _ _ _ _ (alike t t' a) c c (same_arrays t.rank c) ∙ across t t' a (λ (x : Tensor). room_of x c);
  judge = λ t t' a c sl dl. judge_same _ _ _ _ _ _ (alike t t' a) c c (same_arrays t.rank c) sl dl ∙ across t t' a (λ (x : Tensor). judge_of x c sl dl);
}

pub same_sizes : {t t' : Tensor} → SameTensor t t' → SameSizes t t'
same_sizes {t} {t'} a = record {
  rank = a.rank;
  element = a.element;
  shape = a.shape;
  stride = λ d h. sizes_at t.stride d ∙ ap size_of (a.stride d h) ∙ sym (sizes_at t'.stride d);
}

module _ (t t' : Tensor) (e : SameTensor t t') where
  abbrev a : SameSizes t t'
  a = same_sizes e

  agrees : Alike t (like t t' a)
  agrees = alike t t' a

  -- for the layers above: the fault of a move, and what an accepted move looks at
  pub fault_unseen : (c c' : Config) → SameArrays t.rank c c' → (srcLen dstLen : ℕ) → move_fault t c srcLen dstLen ≡ move_fault t' c' srcLen dstLen
  fault_unseen c c' b sl dl = move_same _ _ _ _ _ _ agrees c c' b sl dl ∙ across t t' a (λ (x : Tensor). move_fault x c' sl dl)

  pub strides_unseen : src_strides t ≡ src_strides t'
  strides_unseen = src_strides_same _ _ _ _ _ _ agrees ∙ across t t' a (λ (x : Tensor). src_strides x)

  pub down_unseen : (d : ℕ) → d < t.rank → down_at t d ≡ down_at t' d
  down_unseen d h = ap is_down (e.stride d h)

  module _ (c c' : Config) (b : SameArrays t.rank c c') where
    pub kept_unseen : (d : ℕ) → d < t.rank → count t c d ≡ count t' c' d
    unfolding count
    kept_unseen d h =
        ap₂ upward (ap₂ or0 (same_size b d h) (ap₂ (λ (x y : ℕ). x - y) (a.shape d h) (same_offset b d h))) (same_step b d h)

    module _ (g : GoodConfig t c) where
      pub extents_unseen : dst_extents t c ≡ dst_extents t' c'
      extents_unseen = extents_same _ _ _ _ _ _ agrees c c' b (config_clear t c g) ∙ across t t' a (λ (x : Tensor). dst_extents x c')

      pub dst_strides_unseen : dst_strides t c ≡ dst_strides t' c'
      dst_strides_unseen = dst_strides_same _ _ _ _ _ _ agrees c c' b (config_clear t c g) ∙ across t t' a (λ (x : Tensor). dst_strides x c')

pub source_unseen : UnseenTensor source_of
source_unseen t t' a = signs_unjudged.source t t' (same_sizes a)

pub room_unseen : UnseenConfig room_of
room_unseen t t' a c c' b = room_same _ _ _ _ _ _ (agrees t t' a) c c' b ∙ across t t' (same_sizes a) (λ (x : Tensor). room_of x c')

pub judge_unseen : (srcLen dstLen : ℕ) → UnseenConfig (λ t c. judge_of t c srcLen dstLen)
judge_unseen sl dl t t' a c c' b = judge_same _ _ _ _ _ _ (agrees t t' a) c c' b sl dl ∙ across t t' (same_sizes a) (λ (x : Tensor). judge_of x c' sl dl)

pub count_unseen : (start : ℕ) → UnseenTensor (λ t. count_of t start)
count_unseen start t t' a = count_same _ _ _ _ _ _ (agrees t t' a) start ∙ across t t' (same_sizes a) (λ (x : Tensor). count_of x start)

pub sub_unseen : (srcLen : ℕ) → UnseenSub (λ t s. sub_tensor_of t s srcLen)
sub_unseen sl t t' a s s' b =
    sub_same _ _ _ _ _ _ (agrees t t' a) a.stride s.rank s.offset s'.offset s.size s'.size (record { offset = b.offset; size = b.size; rank = refl }) sl ∙
    across t t' (same_sizes a) (λ (x : Tensor). sub_tensor_of x (record { offset = s'.offset; size = s'.size; rank = s.rank }) sl) ∙
    ap (λ (m : ℕ). sub_tensor_of t' (record { offset = s'.offset; size = s'.size; rank = m }) sl) b.rank

pub calls_unseen : CallsUnseen
calls_unseen =
    record { source = source_unseen; room = room_unseen; judge = judge_unseen; count = count_unseen; sub = sub_unseen }
