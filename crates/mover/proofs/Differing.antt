-- How many bytes of a memory differ once others are stored in it. Assumes nothing.
use Rattle.std.proofs.Common.{◌≡◌, ℕ, zero, suc, ◌+◌, ◌≤◌, Bool, true, false, cond, not, eqb, List, [], ◌∷◌, length, take, drop, set, refl, ◌∙◌, arith, eq-eqb}
use lib.Seq.{sets, take-nil, drop-nil}
use Rattle.plane.specs.Arrays.{how_many}
use Rattle.mover.specs.Work.{differing}

-- ---- byte by byte

differing_empty : (e : List ℕ) → differing [] e ≡ 0
unfolding differing how_many
differing_empty e = refl

many_first : (n : ℕ) (p : ℕ → Bool) → how_many (suc n) p ≡ cond (p 0) 1 0 + how_many n (λ k. p (suc k))
unfolding how_many
many_first zero p = omega arith
many_first (suc n) p = omega (arith, many_first n p)

differing_first : (a b : ℕ) (m e : List ℕ) → differing (a ∷ m) (b ∷ e) ≡ cond (not (eqb a b)) 1 0 + differing m e
unfolding differing
differing_first a b m e = many_first (length m) _

differing_like : (a : ℕ) (m e : List ℕ) → differing (a ∷ m) (a ∷ e) ≡ differing m e
differing_like a m e = rw (differing_first, eq-eqb a a refl) (omega arith)

pub differing_none : (m : List ℕ) → differing m m ≡ 0
differing_none [] = differing_empty []
differing_none (a ∷ m) = differing_like a m m ∙ differing_none m

-- ---- stored into one of two memories

one_most : (b : Bool) → cond b 1 0 ≤ 1
one_most true = omega arith
one_most false = omega arith

differing_set : (m e : List ℕ) (i v : ℕ) → differing m (set e i v) ≤ suc (differing m e)
differing_set [] e i v = simp differing_empty (omega arith)
differing_set (a ∷ m) [] i v = omega arith
differing_set (a ∷ m) (b ∷ e) zero v =
    omega (arith, differing_first a v m e, differing_first a b m e, one_most (not (eqb a v)))
differing_set (a ∷ m) (b ∷ e) (suc i) v =
    omega (arith, differing_first a b m (set e i v), differing_first a b m e, differing_set m e i v)

pub differing_sets : (vs m e : List ℕ) (i : ℕ) → differing m (sets e i vs) ≤ differing m e + length vs
differing_sets [] m e i = omega arith
differing_sets (v ∷ vs) m e i = omega (arith, differing_sets vs m (set e i v) (suc i), differing_set m e i v)

-- ---- a part stored anew: only bytes of it differ

sets_behind : (vs l : List ℕ) (a i : ℕ) → sets (a ∷ l) (suc i) vs ≡ a ∷ sets l i vs
sets_behind [] l a i = refl
sets_behind (v ∷ vs) l a i = sets_behind vs (set l i v) a (suc i)

pub differing_part : (m e : List ℕ) (b l : ℕ) → length e ≡ length (take l (drop b m)) →
    differing m (sets m b e) ≡ differing (take l (drop b m)) e
differing_part [] e b l h = simp (drop-nil, take-nil, differing_empty)
differing_part (a ∷ m) e (suc b) l h = rw (sets_behind e m a b, differing_like) (differing_part m e b l h)
differing_part (a ∷ m) [] zero zero h = rw (differing_none, differing_empty)
differing_part (a ∷ m) [] zero (suc l) h = absurd (omega arith)
differing_part (a ∷ m) (v ∷ e) zero zero h = absurd (omega arith)
differing_part (a ∷ m) (v ∷ e) zero (suc l) h =
    rw (sets_behind e m v 0, differing_first a v m (sets m 0 e), differing_first a v (take l m) e, differing_part m e 0 l (omega arith))
