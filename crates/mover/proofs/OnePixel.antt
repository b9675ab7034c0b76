-- A pixel: its refusals, each in its exact case and order, 1 to 12 as for a move and then 35; and that it is what the whole move stores
-- there, so that pixels over all coordinates and a move tell the same. Assumes nothing.
use Rattle.std.proofs.Common.{◌≡◌, ℕ, ◌+◌, ◌<◌, ◌≤◌, Bool, true, false, not, ◌↔◌, List, length, get_or, sym, refl, ap, ◌∙◌, arith, le-ltb}
use borrow.Author.Tests.{lt-leb, not-true}
use Rattle.faults.specs.declared.Fault.{Fault}
use Rattle.faults.proofs.Chains.{exact_fault, unbroken_accepts, never_given}
use Rattle.faults.proofs.Faults.{status, if_fault_lem, if_none}
use Rattle.plane.specs.declared.Tensor.{Tensor}
use Rattle.plane.specs.declared.Config.{Config}
use Rattle.plane.specs.declared.Answer.{Answer}
use Rattle.plane.specs.Arrays.{at, firsts, zeros}
use Rattle.plane.specs.Planes.{span}
use Rattle.plane.specs.Moves.{need, move_fault, refused, judge_of}
use Rattle.plane.specs.Good.{GoodMove}
use Rattle.plane.proofs.Arrays.{firsts_at, firsts_past}
use Rattle.plane.proofs.Bounds.{element_small}
use Rattle.plane.proofs.Good.{source_told, config_told, dst_told, move_clear}
use Rattle.plane.proofs.Rules.{answer_refused}
use Rattle.mover.specs.Element.{are_kept, element}
use Rattle.mover.specs.Moved.{extent_at, move_memory}
use Rattle.mover.specs.Demand2.{IsCoordinate, KeptAt, byte_at, Meant, Accepted}
use Rattle.mover.specs.Pixel.{pixel_rules, pixel_fault, pixel_bytes, pixel_of}
use Rattle.mover.specs.OnePixel.{PixelExact, PixelZeros, PixelNever, RefusedAsMoved, AcceptedAsMoved, SameBytes, PixelMeant, AcceptedPixels, Picked, PixelsTellTheMove}
use Rattle.mover.proofs.Demand2.{each_kept, not_kept, one_not_kept, kept_byte, pad_byte, demand_2, demand_2_only}
use Rattle.mover.proofs.Keeping.{place_same}
use Rattle.mover.proofs.Laws.{judged, judged_good}
use Rattle.mover.proofs.Picking.{refused_alike, refused_back, passed_move, passed_coordinate}

-- ---- refusals

pub pixel_exact : PixelExact
unfolding pixel_of pixel_fault
pixel_exact t c src x = exact_fault (pixel_rules t c (length src) x) (omega arith)

pub pixel_zeros : PixelZeros
unfolding pixel_of
pixel_zeros t c src x h =
    let f = pixel_fault t c (length src) x in
    (if_fault_lem f zeros (pixel_bytes t c src x) h, if_fault_lem f false (not (are_kept t c (at x))) h)

pub pixel_never : PixelNever
pixel_never t c src x e =
    let d = (pixel_of t c src x).dim in
    never_given (pixel_rules t c (length src) x) 13 d refl (((pixel_exact t c src x).gives 13 d (omega arith)).0 (e, refl))

-- a refused judgement has the number and dimension of its fault
judged_fault : (t : Tensor) (c : Config) (n m : ℕ) → ((move_fault t c n m).status ≡ 0 → ⊥) → judge_of t c n m ≡ refused (move_fault t c n m)
unfolding judge_of
judged_fault t c n m z = answer_refused (move_fault t c n m) t c z

pub refused_as_moved : RefusedAsMoved
unfolding pixel_of
refused_as_moved t c src dst x =
    let n = length src in
    let m = length dst in
    let s = judged t c n m in (
      λ h k.
          let z : (move_fault t c n m).status ≡ 0 → ⊥ = λ w. h (s ∙ w) in
          let e = refused_alike t c n m x (λ w. absurd (k (s ∙ w))) z in
          (ap (λ (f : Fault). f.status) e ∙ sym s, ap (λ (f : Fault). f.dim) e ∙ sym (ap (λ (a : Answer). a.dim) (judged_fault t c n m z))),
      λ h k.
          let e = refused_back t c n m x k h in
          let z : (move_fault t c n m).status ≡ 0 → ⊥ = λ w. h (sym (status e) ∙ w) in
          (s ∙ status e, ap (λ (a : Answer). a.dim) (judged_fault t c n m z) ∙ ap (λ (f : Fault). f.dim) e),
    )

module _ (t : Tensor) (c : Config) (src dst x : List ℕ) where
  accepted_pixel : GoodMove t c (length src) (length dst) → IsCoordinate t c (at x) → (pixel_of t c src x).status ≡ 0
  unfolding pixel_of pixel_fault
  accepted_pixel g w =
      unbroken_accepts (pixel_rules t c (length src) x) (
        source_told t g.source,
        (le-ltb (length src) (span t) g.long, (config_told t c g.config, (dst_told t c g.destination, λ i h. lt-leb (extent_at t c i) (at x i) (w i h)))),
      )

  accepted_move_lem : need t c ≤ length dst → (pixel_of t c src x).status ≡ 0 → Accepted t c src dst × IsCoordinate t c (at x)
  unfolding pixel_of
  accepted_move_lem l z =
      (judged t c (length src) (length dst) ∙ move_clear t c (length src) (length dst) (passed_move t c (length src) x z (length dst) l), passed_coordinate t c (length src) x z)

pub accepted_as_moved : AcceptedAsMoved
accepted_as_moved t c src dst x l =
    (accepted_move_lem t c src dst x l, λ w. accepted_pixel t c src dst x (judged_good t c (length src) (length dst) w.0) w.1)

-- ---- what the whole move stores there

module _ (t : Tensor) (c : Config) (src dst : List ℕ) (z : Accepted t c src dst) where
  good : GoodMove t c (length src) (length dst)
  good = judged_good t c (length src) (length dst) z

  few : t.element_size ≤ 4
  few = (element_small t.element_size good.source.element).1

  abbrev left : List ℕ
  left = move_memory t c src dst

  meant : Meant t c src dst left
  meant = demand_2 t c src dst z

  module _ (x : List ℕ) (w : IsCoordinate t c (at x)) where
    clear : (pixel_of t c src x).status ≡ 0
    clear = accepted_pixel t c src dst x good w

    its_bytes : (pixel_of t c src x).bytes ≡ pixel_bytes t c src x
    unfolding pixel_of
    its_bytes = if_none (pixel_fault t c (length src) x) zeros (pixel_bytes t c src x) clear

    its_padding : (pixel_of t c src x).padding ≡ not (are_kept t c (at x))
    unfolding pixel_of
    its_padding = if_none (pixel_fault t c (length src) x) false (not (are_kept t c (at x))) clear

    -- byte b of it is the element's
    element_byte_lem : (b : ℕ) → b < t.element_size → at (pixel_of t c src x).bytes b ≡ at (element t c src (at x)) b
    element_byte_lem b h = ap (λ (l : List ℕ). at l b) its_bytes ∙ firsts_at 0 t.element_size (at (element t c src (at x))) b few h

    same : SameBytes t c src left x
    same b h = by_test (are_kept t c (at x)) refl ∙ sym (element_byte_lem b h)
      where
        by_test : (k : Bool) → are_kept t c (at x) ≡ k → get_or left (byte_at t c (at x) + b) 0 ≡ at (element t c src (at x)) b
        by_test true k = ((meant.placed (at x) w).source (each_kept t c (at x) k) b h).1 ∙ sym (kept_byte t c (at x) src b h k)
        by_test false k =
            let n = one_not_kept t c (at x) k in
            (meant.placed (at x) w).filled n.0 n.1 n.2 b h ∙ sym (pad_byte t c (at x) src b k)

    unused : (b : ℕ) → t.element_size ≤ b → b < 4 → at (pixel_of t c src x).bytes b ≡ 0
    unused b h l = ap (λ (y : List ℕ). at y b) its_bytes ∙ firsts_past 0 t.element_size (at (element t c src (at x))) b l h

    padding : ((pixel_of t c src x).padding ≡ true) ↔ ((i : ℕ) × (i < t.rank) × (KeptAt t c (at x) i → ⊥))
    padding = (
      λ e. one_not_kept t c (at x) (not-true (are_kept t c (at x)) (sym its_padding ∙ e)),
      λ n. its_padding ∙ ap not (not_kept t c (at x) n.0 n.1 n.2),
    )

    pixel_meant : PixelMeant t c src left x
    pixel_meant = record { accepted = clear; inside = (meant.placed (at x) w).inside; same = same; unused = unused; padding = padding }

  -- ---- all of them

  -- a coordinate as an array
  entries : (y : ℕ → ℕ) (i : ℕ) → i < t.rank → at (firsts t.rank y) i ≡ y i
  entries y i h = firsts_at 0 t.rank y i good.source.rank.1 h

  as_array : (y : ℕ → ℕ) → IsCoordinate t c y → IsCoordinate t c (at (firsts t.rank y))
  as_array y w i h = rw (entries y i h) (w i h)

  left_picked : Picked t c src dst left
  left_picked = record { long = meant.long; each = same; rest = meant.rest }

  -- a destination that the pixels tell is the move's: its bytes at each coordinate are those that the move left
  module _ (e : List ℕ) (p : Picked t c src dst e) where
    byte_left : (y : ℕ → ℕ) → IsCoordinate t c y → (b : ℕ) → b < t.element_size → get_or e (byte_at t c y + b) 0 ≡ get_or left (byte_at t c y + b) 0
    byte_left y w b h =
        let x = firsts t.rank y in
        rw (place_same t c (at x) y (entries y)) at (p.each x (as_array y w) b h ∙ sym (same x (as_array y w) b h))

    picked_meant : Meant t c src dst e
    picked_meant = record {
      long = p.long;
      placed = λ y w.
          let m = meant.placed y w in record {
            inside = rw (p.long ∙ sym meant.long) m.inside;
            source = λ k b h. ((m.source k b h).0, byte_left y w b h ∙ (m.source k b h).1);
            filled = λ i l a b h. byte_left y w b h ∙ m.filled i l a b h;
          };
      apart = meant.apart;
      rest = p.rest;
    }

pub accepted_pixels : AcceptedPixels
accepted_pixels t c src dst z x w = pixel_meant t c src dst z x w

pub pixels_tell_the_move : PixelsTellTheMove
pixels_tell_the_move t c src dst z e = (
  λ p. demand_2_only t c src dst z e (picked_meant t c src dst z e p),
  λ h. rw h (left_picked t c src dst z),
)
