-- A pixel as the code works it out: its refusals from those of a move, and the row of one element that it comes to. Assumes nothing.
use Rattle.std.proofs.Common.{◌≡◌, ℕ, zero, suc, ◌+◌, ◌*◌, ◌/◌, ◌%◌, ◌^◌, ◌<◌, ◌≤◌, Bool, true, false, cond, not, ◌&&◌, ltb, Some, None, List, [], length, Result, Ok, Err, sym, refl, ap, ◌∙◌, ap₂, inl, inr, true≢false, add-mul, zero-mul, add-one, arith, ltb-false, le-ltb, leb-false}
use Rattle.std.specs.Prelude.{⊤, IfSome, is_some}
use Rattle.faults.specs.declared.Fault.{Fault}
use Rattle.faults.specs.Faults.{none, lowest, outcome}
use Rattle.faults.specs.Exactness.{Unbroken, Given}
use Rattle.faults.proofs.Chains.{exact_fault, unbroken, unbroken_accepts, unbroken_none, given_fault}
use Rattle.faults.proofs.Faults.{or_none, spared, if_fault_lem, if_none}
use Rattle.faults.proofs.Outcomes.{ends, tells_ok, tells_err}
use Rattle.std.specs.Borrow.{Bor}
use Rattle.plane.specs.declared.Tensor.{Tensor}
use Rattle.plane.specs.declared.Config.{Config}
use Rattle.plane.specs.declared.Answer.{Answer}
use Rattle.plane.specs.Arrays.{at, firsts, zeros, sum, every}
use Rattle.plane.specs.Planes.{span, source_rules}
use Rattle.plane.specs.Moves.{need, config_rules, dst_rules, move_rules, move_fault, accepted}
use Rattle.plane.specs.Good.{GoodSource, GoodConfig, GoodDst, GoodMove}
use Rattle.plane.proofs.Arrays.{firsts_same}
use Rattle.plane.proofs.Bounds.{element_small, span_fits, need_fits}
use Rattle.plane.proofs.Good.{source_told, config_told, dst_told, source_tells, config_tells, dst_tells, positive}
use Rattle.mover.specs.declared.elements.Origin.TheVariants.{Lent}
use Rattle.mover.specs.declared.plain.Row.{Row}
use Rattle.mover.specs.Element.{is_kept, are_kept, source_place, padded, element}
use Rattle.mover.specs.Moved.{extent_at}
use Rattle.mover.specs.Demand2.{IsCoordinate}
use Rattle.mover.specs.Pixel.{bad_coordinate, pixel_rules, pixel_fault, pixel_bytes, pixel_of}
use Rattle.mover.specs.Private.Elements.{source_bytes}
use Rattle.mover.specs.Private.Rows.{size_of, row_byte, outermost_of, inward_of, source_term, RowOf, Passable}
use Rattle.mover.specs.Private.Pixels.{Pickable, row_to, row_at}
use Rattle.mover.proofs.Making.{room_source, room_config, room_dst}
use Rattle.mover.proofs.Demand2.{kept_byte, pad_byte}
use Rattle.mover.proofs.Judged.{outcome_at, move_room, judged_move, judged_accepted}
use Rattle.mover.proofs.Rows.{inward_row, its_from, if_some, from_fits}
use Rattle.mover.proofs.Storing.{little_at}
use Rattle.mover.proofs.WholeRows.{outermost_row}

-- ---- refusals: those of a move into a destination of m bytes, and then 35

-- the lowest dimension whose coordinate is not below its extent
abbrev pub outside : Tensor → Config → List ℕ → Fault
outside t c x = lowest 35 t.rank (λ i. bad_coordinate (extent_at t c i) (at x i))

module _ (t : Tensor) (c : Config) (n m : ℕ) (x : List ℕ) where
  -- if k is 13 the destination is long enough, so that 13 is not given after all
  abbrev Enough : ℕ → Type 0
  Enough k = k ≡ 13 → GoodSource t → GoodConfig t c → GoodDst t c → need t c ≤ m

  -- what refuses the move refuses the pixel; and what refuses the pixel, but for 35, refuses the move
  given_alike : (k d : ℕ) → Enough k → Given (move_rules t c n m) k d → Given (pixel_rules t c n x) k d
  given_alike k d h (inl g) = inl g
  given_alike k d h (inr (s, inl g)) = inr (s, inl g)
  given_alike k d h (inr (s, inr (l, inl g))) = inr (s, inr (l, inl g))
  given_alike k d h (inr (s, inr (l, inr (o, inl g)))) = inr (s, inr (l, inr (o, inl g)))
  given_alike k d h (inr (s, inr (l, inr (o, inr (w, g))))) =
      absurd (true≢false (sym g.1 ∙ le-ltb m (need t c) (h g.0 (source_tells t s) (config_tells t c o) (dst_tells t c w))))

  given_back : (k d : ℕ) → (k ≡ 35 → ⊥) → Given (pixel_rules t c n x) k d → Given (move_rules t c n m) k d
  given_back k d h (inl g) = inl g
  given_back k d h (inr (s, inl g)) = inr (s, inl g)
  given_back k d h (inr (s, inr (l, inl g))) = inr (s, inr (l, inl g))
  given_back k d h (inr (s, inr (l, inr (o, inl g)))) = inr (s, inr (l, inr (o, inl g)))
  given_back k d h (inr (s, inr (l, inr (o, inr (w, g))))) = absurd (h g.0)

  -- a move that is refused
  pub refused_alike : Enough (move_fault t c n m).status → ((move_fault t c n m).status ≡ 0 → ⊥) → pixel_fault t c n x ≡ move_fault t c n m
  unfolding pixel_fault move_fault
  refused_alike h z =
      let f = move_fault t c n m in
      given_fault (pixel_rules t c n x) f.status f.dim (omega arith)
      (given_alike f.status f.dim h (((exact_fault (move_rules t c n m) (omega arith)).gives f.status f.dim (positive f.status z)).0 (refl, refl)))

  -- a pixel that is refused, but not with 35
  pub refused_back : ((pixel_fault t c n x).status ≡ 35 → ⊥) → ((pixel_fault t c n x).status ≡ 0 → ⊥) → move_fault t c n m ≡ pixel_fault t c n x
  unfolding pixel_fault move_fault
  refused_back h z =
      let f = pixel_fault t c n x in
      given_fault (move_rules t c n m) f.status f.dim (omega arith)
      (given_back f.status f.dim h (((exact_fault (pixel_rules t c n x) (omega arith)).gives f.status f.dim (positive f.status z)).0 (refl, refl)))

  -- a move that is accepted
  pub passed_alike : GoodMove t c n m → pixel_fault t c n x ≡ outside t c x
  unfolding pixel_fault
  passed_alike g =
      or_none _ _ (unbroken_accepts (source_rules t) (source_told t g.source)) ∙
      spared 5 0 (ltb n (span t)) _ (le-ltb n (span t) g.long) ∙
      or_none _ _ (unbroken_accepts (config_rules t c) (config_told t c g.config)) ∙
      or_none _ _ (unbroken_accepts (dst_rules t c) (dst_told t c g.destination))

-- with the longest destination that there is
abbrev longest : ℕ
longest = 18446744073709551615

-- a check that has nothing else to say
abbrev pub told : Fault → Result ⊤ Fault
told f = outcome f tt

module _ (t : Tensor) (c : Config) (n : ℕ) (x : List ℕ) where
  abbrev its : Fault
  its = move_fault t c n longest

  abbrev picked : Result ⊤ Fault
  picked = told (pixel_fault t c n x)

  pub picked_stopped : {g : Fault} → Err g ≡ outcome_at t c n longest → Err g ≡ picked
  picked_stopped e =
      let w = tells_err its (accepted t c) e in
      let s = refused_alike t c n longest x (λ _ s o w. omega (arith, need_fits t c s o w)) w.1 in
      sym (ap told s ∙ ends its (accepted t c) tt e refl)

  module _ {a : Answer} (e : Ok a ≡ outcome_at t c n longest) where
    good : GoodMove t c n longest
    good = judged_move t c n longest e

    pub picked_rank : t.rank ≤ 4
    picked_rank = good.source.rank.1

    pub picked_found : {r : Result ⊤ Fault} → r ≡ told (lowest 35 t.rank (λ i. bad_coordinate (at a.extent i) (at x i))) → r ≡ picked
    picked_found h =
        h ∙
        ap (λ (y : Answer). told (lowest 35 t.rank (λ i. bad_coordinate (at y.extent i) (at x i)))) (judged_accepted t c n longest e).1 ∙
        ap told (sym (passed_alike t c n longest x good))

-- a pixel that is not refused
module _ (t : Tensor) (c : Config) (n : ℕ) (x : List ℕ) (z : (pixel_fault t c n x).status ≡ 0) where
  kept_rules : Unbroken (pixel_rules t c n x)
  unfolding pixel_fault
  kept_rules = unbroken (pixel_rules t c n x) (omega arith) z

  -- nor is the move into a destination that is long enough
  pub passed_move : (m : ℕ) → need t c ≤ m → GoodMove t c n m
  passed_move m l = record {
    source = source_tells t kept_rules.0;
    long = ltb-false n (span t) kept_rules.1.0;
    config = config_tells t c kept_rules.1.1.0;
    destination = dst_tells t c kept_rules.1.1.1.0;
    room = l;
  }

  pub passed_just : GoodMove t c n (need t c)
  passed_just = passed_move (need t c) (omega arith)

  pub passed_coordinate : IsCoordinate t c (at x)
  passed_coordinate i h = leb-false (extent_at t c i) (at x i) (kept_rules.1.1.1.1 i h)

  passed_none : pixel_fault t c n x ≡ none
  unfolding pixel_fault
  passed_none = unbroken_none (pixel_rules t c n x) kept_rules

-- ---- the row of one element

module _ (w : Row) (x : List ℕ) where
  pub to_none : row_to w x 0 ≡ w
  unfolding row_to
  to_none = refl

  pub to_more : (i : ℕ) {v : Row} → v ≡ row_to w x i → inward_of v i (at x i) ≡ row_to w x (i + 1)
  unfolding row_to
  to_more i h = ap (λ (v : Row). inward_of v i (at x i)) h ∙ ap (λ (k : ℕ). row_to w x k) (sym (add-one i))

  -- what a step inward leaves as it is
  to_tensor : (i : ℕ) → (row_to w x i).tensor ≡ w.tensor
  unfolding row_to inward_of
  to_tensor zero = refl
  to_tensor (suc i) = to_tensor i

  to_config : (i : ℕ) → (row_to w x i).config ≡ w.config
  unfolding row_to inward_of
  to_config zero = refl
  to_config (suc i) = to_config i

  to_origin : (i : ℕ) → (row_to w x i).origin ≡ w.origin
  unfolding row_to inward_of
  to_origin zero = refl
  to_origin (suc i) = to_origin i

module _ (t : Tensor) (c : Config) (s : Bor (List ℕ)) (x : List ℕ) (g : Pickable t c x) where
  abbrev all : Row
  all = outermost_of t c (Lent s) 0 0

  abbrev row : ℕ → Row
  row i = row_to all x i

  -- dimension i of the row, and its coordinate
  dim : (i : ℕ) → i < t.rank → i < (row i).tensor.rank
  dim i h = rw (to_tensor all x i) h

  below_extent : (i : ℕ) → i < t.rank → at x i < extent_at (row i).tensor (row i).config i
  below_extent i h = rw (to_tensor all x i, to_config all x i) (g.1 i h)

  to_row : (i : ℕ) → i ≤ t.rank → RowOf 0 0 i (row i)
  unfolding row_to
  to_row zero h = outermost_row t c g.0 (Lent s) 0 0
  to_row (suc i) h = inward_row (to_row i (omega arith)) (dim i h) (at x i) (below_extent i h)

  pub to_passable : (i : ℕ) → i < t.rank → Passable (row i) i (at x i)
  to_passable i h = record {
    p = 0;
    r = 0;
    row = to_row i (omega arith);
    dim = dim i h;
    below = below_extent i h;
    source_end = rw (to_tensor all x i) (omega (arith, span_fits t (room_source t c g.0)));
    end = rw (to_tensor all x i, to_config all x i) (omega (arith, need_fits t c (room_source t c g.0) (room_config t c g.0) (room_dst t c g.0)));
  }

  to_at : (i : ℕ) → i ≤ t.rank → (row i).at ≡ cond (every i (λ j. is_kept t c j (at x j))) (Some (sum i (λ j. source_term t c j (at x j)) * t.element_size)) None
  unfolding row_to every sum
  to_at zero h = ap (λ (n : ℕ). Some n) (sym (zero-mul t.element_size))
  to_at (suc i) h =
      let k = every i (λ j. is_kept t c j (at x j)) in
      let n = sum i (λ j. source_term t c j (at x j)) in
      its_from (to_row i (omega arith)) (dim i h) (at x i) (below_extent i h) _ _ (to_at i (omega arith)) ∙
      ap₂ (λ (u : Tensor) (v : Config). cond (k && is_kept u v i (at x i)) (Some (n * t.element_size + source_term u v i (at x i) * u.element_size)) None) (to_tensor all x i) (to_config all x i) ∙
      ap (λ (y : ℕ). cond (k && is_kept t c i (at x i)) (Some y) None) (sym (add-mul n (source_term t c i (at x i)) t.element_size))

  -- all the way
  abbrev here : Row
  here = row_at t c s x

  picked_at : here.at ≡ cond (are_kept t c (at x)) (Some (source_place t c (at x) * t.element_size)) None
  unfolding are_kept source_place
  picked_at = to_at t.rank (omega arith)

  picked_fits : {a : ℕ} → here.at ≡ Some a → a + size_of here ≤ span t
  picked_fits k =
      let e = to_tensor all x t.rank in
      omega (arith, ap span e, (from_fits (to_row t.rank (omega arith)) (rw e (omega arith)) k).1)

  picked_padding : {b : Bool} → is_some here.at ≡ not b → b ≡ not (are_kept t c (at x))
  picked_padding {b} e = by_test (are_kept t c (at x)) b (ap is_some (sym picked_at) ∙ e)
    where
      by_test : (k b : Bool) → is_some (cond k (Some (source_place t c (at x) * t.element_size)) None) ≡ not b → b ≡ not k
      by_test true true e = e
      by_test true false e = refl
      by_test false true e = refl
      by_test false false e = e

  -- its bytes
  padded_byte : (b : ℕ) → b < t.element_size → at (padded t c) b ≡ c.fill / 2 ^ (8 * b) % 256
  unfolding padded
  padded_byte b h = little_at t.element_size c.fill b h

  picked_byte : (b : ℕ) → b < t.element_size → row_byte here [] b ≡ at (element t c s.now (at x)) b
  picked_byte b h = by_test (are_kept t c (at x)) refl
    where
      by_test : (k : Bool) → are_kept t c (at x) ≡ k → row_byte here [] b ≡ at (element t c s.now (at x)) b
      by_test true k =
          let e : here.at ≡ Some (source_place t c (at x) * t.element_size) = rw k at picked_at in
          rw (e, to_origin all x t.rank) (sym (kept_byte t c (at x) s.now b h k))
      by_test false k =
          let e : here.at ≡ None = rw k at picked_at in
          rw (e, to_config all x t.rank) (sym (pad_byte t c (at x) s.now b k ∙ padded_byte b h))

  picked_bytes : firsts (size_of here) (row_byte here []) ≡ pixel_bytes t c s.now x
  picked_bytes =
      ap (λ (u : Tensor). firsts u.element_size (row_byte here [])) (to_tensor all x t.rank) ∙
      firsts_same 0 t.element_size (row_byte here []) (at (element t c s.now (at x))) picked_byte

-- ---- the answer

module _ (t : Tensor) (c : Config) (s : Bor (List ℕ)) (x : List ℕ) where
  pub answer_refuses : {g : Fault} → Err g ≡ told (pixel_fault t c (length s.now) x) → record { status = g.status; dim = g.dim; bytes = zeros; padding = false } ≡ pixel_of t c s.now x
  unfolding pixel_of
  answer_refuses e =
      let p = pixel_fault t c (length s.now) x in
      let w = tells_err {A = ⊤} p tt e in
      rw (if_fault_lem p zeros (pixel_bytes t c s.now x) w.1, if_fault_lem p false (not (are_kept t c (at x))) w.1, w.0)

  module _ {u : ⊤} (e : Ok u ≡ told (pixel_fault t c (length s.now) x)) where
    clear : (pixel_fault t c (length s.now) x).status ≡ 0
    clear = (tells_ok {A = ⊤} (pixel_fault t c (length s.now) x) tt e).1

    pub answer_pickable : Pickable t c x
    answer_pickable = (move_room t c (passed_just t c (length s.now) x clear), passed_coordinate t c (length s.now) x clear)

    pub answer_size : {w : Row} → w ≡ row_at t c s x → size_of w ≤ 4
    answer_size h =
        let e = ap (λ (v : Row). size_of v) h ∙ ap (λ (u : Tensor). u.element_size) (to_tensor (outermost_of t c (Lent s) 0 0) x t.rank) in
        rw e (element_small t.element_size (passed_just t c (length s.now) x clear).source.element).1

    pub answer_fits : {w : Row} → w ≡ row_at t c s x → IfSome w.at (λ a. a + size_of w ≤ length (source_bytes w.origin []))
    answer_fits {w} h =
        rw (h, to_origin (outermost_of t c (Lent s) 0 0) x t.rank) (if_some (row_at t c s x).at (λ a k. omega (arith, picked_fits t c s x answer_pickable k, (passed_just t c (length s.now) x clear).long)))

    pub answer_tells : {w : Row} {b : Bool} → w ≡ row_at t c s x → is_some w.at ≡ not b →
        record { status = 0; dim = 0; bytes = firsts (size_of w) (row_byte w []); padding = b } ≡ pixel_of t c s.now x
    unfolding pixel_of
    answer_tells {w} {b} h k =
        let p = pixel_fault t c (length s.now) x in
        rw (
          if_none p zeros (pixel_bytes t c s.now x) clear,
          if_none p false (not (are_kept t c (at x))) clear,
          passed_none t c (length s.now) x clear,
          h,
          picked_bytes t c s x answer_pickable,
          picked_padding t c s x answer_pickable (rw h at k),
        )
