-- What `moved` leaves at each byte, for places that rise with the numbers. Assumes nothing.
use Rattle.std.proofs.Common.{◌≡◌, ℕ, zero, suc, ◌+◌, ◌*◌, ◌<◌, ◌≤◌, ◌⊎◌, List, length, get_or, drop, refl, ◌∙◌, inl, inr, ⊎_elim, le_of_suc-le-suc, not-suc-le-zero, eq-or-lt_of_le, arith}
use Rattle.plane.specs.declared.Tensor.{Tensor}
use Rattle.plane.specs.declared.Config.{Config}
use Rattle.plane.proofs.Numbers.{length_little}
use Rattle.mover.specs.Element.{are_kept, source_place, padded, element}
use Rattle.mover.specs.Moved.{total, coord_of, stored, moved}
use Rattle.mover.specs.Demand2.{byte_at}
use Rattle.mover.proofs.Bytes.{get_d_sets_out, sets_inside, length_cond}
use Rattle.mover.proofs.Laws.{moved_length}

-- the byte at which element number q starts
abbrev pub byte_of : Tensor → Config → ℕ → ℕ
byte_of t c q = byte_at t c (coord_of t c q)

pub length_padded : (t : Tensor) (c : Config) → length (padded t c) ≡ t.element_size
unfolding padded
length_padded t c = length_little t.element_size c.fill

module _ (t : Tensor) (c : Config) (src : List ℕ) where
  pub length_element : (x : ℕ → ℕ) → length (element t c src x) ≤ t.element_size
  unfolding element
  length_element x = length_cond (are_kept t c x) t.element_size (drop (source_place t c x * t.element_size) src) (padded t c) (rw length_padded (omega arith))

  -- a byte that belongs to none of the elements is as it was
  pub moved_elsewhere : (from n : ℕ) (dst : List ℕ) (k : ℕ) → ((q : ℕ) → q < n → (k < byte_of t c (from + q)) ⊎ (byte_of t c (from + q) + t.element_size ≤ k)) → get_or (moved t c src from n dst) k 0 ≡ get_or dst k 0
  unfolding moved stored
  moved_elsewhere from zero dst k h = refl
  moved_elsewhere from (suc n) dst k h =
      let x = coord_of t c (from + n) in
      let l = length_element x in
      get_d_sets_out (element t c src x) (moved t c src from n dst) (byte_of t c (from + n)) k
      (⊎_elim (λ u. inl u) (λ v. inr (omega arith)) (h n (omega arith))) ∙
      moved_elsewhere from n dst k (λ r g. h r (omega arith))

  -- every element moved has its bytes, where each ends before the next begins, and in the destination
  module _ (rise : (q r : ℕ) → q < r → r < total t c → byte_of t c q + t.element_size ≤ byte_of t c r) where
    pub moved_element : (from n : ℕ) (dst : List ℕ) (q i : ℕ) → ((r : ℕ) → r < total t c → byte_of t c r + t.element_size ≤ length dst) → from + n ≤ total t c → q < n → i < length (element t c src (coord_of t c (from + q))) →
        get_or (moved t c src from n dst) (byte_of t c (from + q) + i) 0 ≡ get_or (element t c src (coord_of t c (from + q))) i 0
    unfolding moved stored
    moved_element from zero dst q i e m l b = absurd (not-suc-le-zero l)
    moved_element from (suc n) dst q i e m l b =
        let r = from + n in
        let z = length_element (coord_of t c r) in
        let y = length_element (coord_of t c (from + q)) in
        let w = e r (omega arith) in
        ⊎_elim
        (λ (last : q ≡ n).
        rw last
        (sets_inside (element t c src (coord_of t c r)) (moved t c src from n dst) (byte_of t c r) i (rw last at b)
        (rw moved_length (omega arith))))
        (λ (before : q < n).
        get_d_sets_out (element t c src (coord_of t c r)) (moved t c src from n dst) (byte_of t c r) (byte_of t c (from + q) + i)
        (inl (omega (arith, rise (from + q) r (omega arith) (omega arith)))) ∙
        moved_element from n dst q i e (omega arith) before b)
        (eq-or-lt_of_le (le_of_suc-le-suc l))
