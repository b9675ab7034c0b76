-- What stands in front once a part was read behind one that was there, and how long a record can be.
use Rattle.std.proofs.Common.{◌≡◌, ℕ, ◌+◌, ◌<◌, ◌≤◌, Bool, true, false, cond, List, ◌++◌, take, length, arith, ap, ap₂, ◌∙◌, le_refl, drop_at, length-append, length-take-le}
use Rattle.std.proofs.lemmas.Slice.{take-put_mid_below}
use borrow.Rule.Slice.PartMut.{put_mid, post_of}
use lib.Seq.{take-add, take-append-le}
use Rattle.record.specs.Records.{length_in}

pub take-put_mid : (a k m : ℕ) (xs ys : List ℕ) → a ≤ length xs → m ≤ length ys → take (a + m) (put_mid a k xs ys) ≡ take a xs ++ take m ys
take-put_mid a k m xs ys within fits =
    let after = post_of a k xs in
    let front = take-put_mid_below _ _ _ _ _ (le_refl _) within in
    let part = ap (take m) (drop_at (take a xs) (ys ++ after) a (length-take-le a xs within)) ∙ take-append-le m ys after fits in
    take-add a m (put_mid a k xs ys) ∙ ap₂ (λ (l r : List ℕ). l ++ r) front part

most : (b : Bool) → 131 + cond b 4 0 ≤ 135
most true = le_refl 135
most false = omega arith

length_in-most : (bs : List ℕ) → length_in bs ≤ 135
unfolding length_in
length_in-most bs = most _

-- a record that is shorter than its version says lacks bytes of its fill
pub ends-short : (m : ℕ) (xs ys : List ℕ) → 131 ≤ length xs → m ≤ length ys → length (take (131 + m) (put_mid 131 4 xs ys)) < length_in (take (131 + m) (put_mid 131 4 xs ys)) → m < 4
ends-short m xs ys within fits short =
    let both = length-append (take 131 xs) (take m ys) ∙ ap₂ (λ (j k : ℕ). j + k) (length-take-le 131 xs within) (length-take-le m ys fits) in
    let long = ap length (take-put_mid 131 4 m xs ys within fits) ∙ both in
    let bound = length_in-most (take (131 + m) (put_mid 131 4 xs ys)) in
    omega (arith, long, bound, short)
