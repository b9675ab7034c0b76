-- Laws of bytes stored one after the other, and of a part that is written. Assumes nothing.
use Rattle.std.proofs.Math.Seq.{take-set-lt}
use Rattle.std.proofs.lemmas.List.{drop-set-lt}
use Rattle.std.proofs.Common.{suc, ◌-◌, ◌<◌, ◌⊎◌, inl, inr, ⊎_elim, get_or, get_or-take, get_or-drop, ext_get_or, take-append-drop, ◌≡◌, ℕ, ◌+◌, ◌≤◌, List, [], ◌∷◌, ◌++◌, length, take, drop, set, replicate, sym, ap, ◌∙◌, append_assoc, append-nil, zero-add, arith, length-drop, drop-drop, drop_of_length-le, length-take-le, take_all}
use native.Mathlib.Decide.{dec_lt}
use lib.ListN.{length-replicate}
use lib.Seq.{sets, sets-eq, length-sets}
use borrow.Rule.Slice.PartMut.{put_mid}
use Rattle.mover.proofs.Bytes.{sets_snoc, sets_inside, get_d_sets_out, length_take_most}

-- ---- a block

pub sets_more : (l : List ℕ) (i k : ℕ) (vs : List ℕ) (a : ℕ) → length vs ≡ k → set (sets l i vs) (i + k) a ≡ sets l i (vs ++ (a ∷ []))
sets_more l i k vs a e = rw (sets_snoc, e)

-- ---- a part

-- a list in the place of k bytes from `to` on
pub part_put : (d v : List ℕ) (to k : ℕ) → length v ≡ k → to + k ≤ length d → put_mid to k d v ≡ sets d to v
part_put d v to k e h =
    let f : put_mid to k d v ≡ take to d ++ v ++ drop (to + length v) d =
    rw (← e, append_assoc, drop-drop) in
    f ∙ sym (sets-eq v d to (omega arith))

-- n bytes of s in the place of as many of d
pub block_put : (d s v : List ℕ) (at to n k : ℕ) → at + n ≤ length s → to + n ≤ length d → k ≡ n → v ≡ take k (drop at s)
    → put_mid to k d v ≡ sets d to (take n (drop at s))
block_put d s v at to n k h g e w =
    let f : v ≡ take n (drop at s) = w ∙ rw e in
    let l : length (take n (drop at s)) ≡ n = length-take-le n (drop at s) (simp length-drop (omega arith)) in
    rw (e, f) (part_put d (take n (drop at s)) to n l g)

-- ---- the same within one list, which is cut in two between them

-- a part that lies before a cut
take_before : (d : List ℕ) (at n cut : ℕ) → at + n ≤ cut → cut ≤ length d → take n (drop at (take cut d)) ≡ take n (drop at d)
take_before d at n cut h g =
    let m : length (take cut d) ≡ cut = length-take-le cut d g in
    let l : length (take n (drop at (take cut d))) ≡ n = length-take-le n (drop at (take cut d)) (simp length-drop (omega arith)) in
    let e : length (take n (drop at d)) ≡ n = length-take-le n (drop at d) (simp length-drop (omega arith)) in
    ext_get_or 0 (take n (drop at (take cut d))) (take n (drop at d)) (l ∙ sym e)
    (λ i x. let y : i < n = omega arith in let z : at + i < cut = omega arith in rw (get_or-take, get_or-drop, get_or-take, get_or-take, get_or-drop))

-- what is stored before a cut
sets_before : (w d : List ℕ) (to cut : ℕ) → to + length w ≤ cut → sets (take cut d) to w ++ drop cut d ≡ sets d to w
sets_before [] d to cut h = take-append-drop cut d
sets_before (v ∷ vs) d to cut h =
    let e : take cut (set d to v) ≡ set (take cut d) to v = take-set-lt cut d to v (omega arith) in
    let f : drop cut (set d to v) ≡ drop cut d = drop-set-lt cut d to v (omega arith) in
    rw (← e, ← f) (sets_before vs (set d to v) (suc to) cut (omega arith))

module _ (d : List ℕ) (at to n : ℕ) (h : at + n ≤ length d) (g : to + n ≤ length d) where
  taken_long : length (take n (drop at d)) ≡ n
  taken_long = length-take-le n (drop at d) (simp length-drop (omega arith))

  -- to the second part
  pub block_on : {v front back : List ℕ} → at + n ≤ to → front ≡ take to d → back ≡ drop to d → v ≡ take n (drop at front)
      → front ++ (v ++ drop n back) ≡ sets d to (take n (drop at d))
  block_on {v} {front} {back} m e f w =
      let x : v ≡ take n (drop at d) = w ∙ rw e (take_before d at n to m (omega arith)) in
      rw (x, e, f) (part_put d (take n (drop at d)) to n taken_long g)

  -- to the first
  pub block_back : {v front back : List ℕ} {k : ℕ} → to + n ≤ at → k ≡ n → front ≡ take at d → back ≡ drop at d → v ≡ take n back
      → put_mid to k front v ++ back ≡ sets d to (take n (drop at d))
  block_back {v} {front} {back} m q e f w =
      let x : v ≡ take n (drop at d) = w ∙ rw f in
      let l : length (take at d) ≡ at = length-take-le at d (omega arith) in
      rw (x, q, e, f, part_put (take at d) (take n (drop at d)) to n taken_long (rw l m)) (sets_before (take n (drop at d)) d to at (rw taken_long m))

-- ---- bytes through an array

-- a whole list stored over another of its length
sets_whole : (l v : List ℕ) → length l ≡ length v → sets l 0 v ≡ v
sets_whole l v e =
    let f : length l ≤ length v = omega arith in
    sets-eq v l 0 (omega arith) ∙ rw zero-add (ap (λ (r : List ℕ). v ++ r) (drop_of_length-le l f) ∙ append-nil v)

pub block_read : (s : List ℕ) (at n : ℕ) → at + n ≤ length s → sets (replicate n 0) 0 (take n (drop at s)) ≡ take n (drop at s)
block_read s at n h =
    let l : length (take n (drop at s)) ≡ n = length-take-le n (drop at s) (simp length-drop (omega arith)) in
    sets_whole (replicate n 0) (take n (drop at s)) (length-replicate n 0 ∙ sym l)

-- all of a list
pub block_all : (n : ℕ) (a : List ℕ) → length a ≡ n → take n (drop 0 a) ≡ a
block_all n a e = take_all n a (omega arith)

-- ---- a block by its two ends

-- m bytes of s stored in d: one of them, and one beside them
stored_in : (d s : List ℕ) (at to m k : ℕ) → at + m ≤ length s → to + m ≤ length d → to ≤ k → k < to + m
    → get_or (sets d to (take m (drop at s))) k 0 ≡ get_or s (at + (k - to)) 0
stored_in d s at to m k h g a b =
    let l : length (take m (drop at s)) ≡ m = length-take-le m (drop at s) (simp length-drop (omega arith)) in
    let i : k - to < m = omega arith in
    let e : to + (k - to) ≡ k = omega arith in
    rw e at (sets_inside (take m (drop at s)) d to (k - to) (omega arith) (omega arith)) ∙ rw (get_or-take, get_or-drop)

stored_out : (d s : List ℕ) (at to m k : ℕ) → (k < to) ⊎ (to + m ≤ k) → get_or (sets d to (take m (drop at s))) k 0 ≡ get_or d k 0
stored_out d s at to m k g =
    let l = length_take_most m (drop at s) in
    get_d_sets_out (take m (drop at s)) d to k (⊎_elim (λ a. inl a) (λ b. inr (omega arith)) g)

module _ (d s : List ℕ) (at to m n : ℕ) (p : m ≤ n) (q : n ≤ m + m) (h : at + n ≤ length s) (g : to + n ≤ length d) where
  -- the first m of n bytes stored, and then the last m
  abbrev first : List ℕ
  first = sets d to (take m (drop at s))

  abbrev both : List ℕ
  both = sets first (to + (n - m)) (take m (drop (at + (n - m)) s))

  first_long : length first ≡ length d
  first_long = length-sets d to (take m (drop at s))

  one : (k : ℕ) → get_or both k 0 ≡ get_or (sets d to (take n (drop at s))) k 0
  one k = elim (dec_lt k (to + n)) [
    | no a ↦
        stored_out first s (at + (n - m)) (to + (n - m)) m k (inr (omega arith))
        ∙ stored_out d s at to m k (inr (omega arith))
        ∙ sym (stored_out d s at to n k (inr (omega arith)))
    | yes a ↦ elim (dec_lt k (to + (n - m))) [
      | no b ↦
          let f = first_long in
          let e : at + (n - m) + (k - (to + (n - m))) ≡ at + (k - to) = omega arith in
          stored_in first s (at + (n - m)) (to + (n - m)) m k (omega arith) (omega arith) (omega arith) (omega arith)
          ∙ ap (λ i. get_or s i 0) e
          ∙ sym (stored_in d s at to n k h g (omega arith) a)
      | yes b ↦ elim (dec_lt k to) [
        | yes c ↦
            stored_out first s (at + (n - m)) (to + (n - m)) m k (inl b)
            ∙ stored_out d s at to m k (inl c)
            ∙ sym (stored_out d s at to n k (inl c))
        | no c ↦
            stored_out first s (at + (n - m)) (to + (n - m)) m k (inl b)
            ∙ stored_in d s at to m k (omega arith) (omega arith) (omega arith) (omega arith)
            ∙ sym (stored_in d s at to n k h g (omega arith) a)
      ]
    ]
  ]

  -- they are all of them
  pub ends_stored : both ≡ sets d to (take n (drop at s))
  ends_stored =
      ext_get_or 0 both (sets d to (take n (drop at s)))
      (length-sets first (to + (n - m)) (take m (drop (at + (n - m)) s)) ∙ first_long ∙ sym (length-sets d to (take n (drop at s))))
      (λ k l. one k)
