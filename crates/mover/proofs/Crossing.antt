-- Stores that share no byte may be made in any order: rows one after the other are columns one after the other, some of these and then
-- the others. Assumes nothing.
use Rattle.std.proofs.Common.{◌≡◌, ℕ, zero, suc, ◌+◌, ◌*◌, ◌%◌, ◌^◌, ◌<◌, ◌≤◌, ◌⊎◌, List, [], ◌∷◌, length, get_or, set, sym, refl, ap, ◌∙◌, inl, inr, ⊎_elim, add-zero, add-suc, arith}
use native.Mathlib.Nat.{mod-add-mod}
use lib.Seq.{sets, set_comm}
use Rattle.mover.specs.Private.Adding.{along}
use Rattle.mover.specs.Private.Runs.{run_stored}
use Rattle.mover.specs.Private.Patches.{rows_stored}
use Rattle.mover.proofs.Adding.{along_on}
use Rattle.mover.proofs.Runs.{length_run, run_out}

-- x at p and y at q share no byte
abbrev pub Off : ℕ → List ℕ → ℕ → List ℕ → Type 0
Off p x q y = (p + length x ≤ q) ⊎ (q + length y ≤ p)

set_past : (l ys : List ℕ) (k q v : ℕ) → (k < q) ⊎ (q + length ys ≤ k) → set (sets l q ys) k v ≡ sets (set l k v) q ys
set_past l [] k q v h = refl
set_past l (y ∷ ys) k q v h =
    set_past (set l q y) ys k (suc q) v (⊎_elim (λ a. inl (omega arith)) (λ b. inr (omega arith)) h)
    ∙ rw (set_comm l q k y v (λ e. ⊎_elim {C = ⊥} (λ a. omega arith) (λ b. omega arith) h))

-- two stores
sets_swap : (l xs ys : List ℕ) (p q : ℕ) → Off p xs q ys → sets (sets l p xs) q ys ≡ sets (sets l q ys) p xs
sets_swap l [] ys p q h = refl
sets_swap l (x ∷ xs) ys p q h =
    sets_swap (set l p x) xs ys (suc p) q (⊎_elim (λ a. inl (omega arith)) (λ b. inr (omega arith)) h)
    ∙ ap (λ (m : List ℕ). sets m (suc p) xs) (sym (set_past l ys p q x (⊎_elim (λ a. inl (omega arith)) (λ b. inr (omega arith)) h)))

-- a run and a store, and two runs
module _ (e : ℕ → List ℕ) (to s : ℕ) where
  run_set : (n : ℕ) (d y : List ℕ) (q : ℕ) → ((k : ℕ) → k < n → Off q y (along to s k) (e k)) → run_stored e to s n (sets d q y) ≡ sets (run_stored e to s n d) q y
  unfolding run_stored
  run_set zero d y q h = refl
  run_set (suc n) d y q h =
      rw (run_set n d y q (λ k l. h k (omega arith))) (sets_swap (run_stored e to s n d) y (e n) q (along to s n) (h n (omega arith)))

  run_run : (f : ℕ → List ℕ) (at t n m : ℕ) (d : List ℕ) → ((i k : ℕ) → i < m → k < n → Off (along at t i) (f i) (along to s k) (e k))
      → run_stored e to s n (run_stored f at t m d) ≡ run_stored f at t m (run_stored e to s n d)
  unfolding run_stored
  run_run f at t n zero d h = refl
  run_run f at t n (suc m) d h =
      run_set n (run_stored f at t m d) (f m) (along at t m) (λ k l. h m k (omega arith) l)
      ∙ ap (λ (x : List ℕ). sets x (along at t m) (f m)) (run_run f at t n m d (λ i k l g. h i k (omega arith) g))

  -- a + b elements: a, and then b
  pub run_add : (a b : ℕ) (d : List ℕ) → run_stored e to s (a + b) d ≡ run_stored (λ k. e (a + k)) (along to s a) s b (run_stored e to s a d)
  unfolding run_stored
  run_add a zero d = rw add-zero
  run_add a (suc b) d = rw (add-suc, run_add a b d, along_on to s a b)

-- the same bytes
pub run_same : (e f : ℕ → List ℕ) (to s n : ℕ) (d : List ℕ) → ((k : ℕ) → k < n → e k ≡ f k) → run_stored e to s n d ≡ run_stored f to s n d
unfolding run_stored
run_same e f to s zero d h = refl
run_same e f to s (suc n) d h = rw (run_same e f to s n d (λ k l. h k (omega arith)), h n (omega arith))

pub rows_same : (e f : ℕ → ℕ → List ℕ) (to s t m n : ℕ) (d : List ℕ) → ((i j : ℕ) → i < n → j < m → e i j ≡ f i j)
    → rows_stored e to s t m n d ≡ rows_stored f to s t m n d
unfolding rows_stored
rows_same e f to s t m zero d h = refl
rows_same e f to s t m (suc n) d h =
    rw (rows_same e f to s t m n d (λ i j l g. h i j (omega arith) g)) (run_same (e n) (f n) (along to s n) t m (rows_stored f to s t m n d) (λ j l. h n j (omega arith) l))

-- ---- n rows of m elements

-- i of s and j of t from `to`, in either order
pub along_cross : (to s t i j : ℕ) → along (along to s i) t j ≡ along (along to t j) s i
unfolding along
along_cross to s t i j =
    mod-add-mod (to + i * s) (2 ^ 64) (j * t)
    ∙ ap (λ (y : ℕ). y % 2 ^ 64) (omega arith)
    ∙ sym (mod-add-mod (to + j * t) (2 ^ 64) (i * s))

module _ (e : ℕ → ℕ → List ℕ) (to s t : ℕ) where
  pub length_rows : (m n : ℕ) (d : List ℕ) → length (rows_stored e to s t m n d) ≡ length d
  unfolding rows_stored
  length_rows m zero d = refl
  length_rows m (suc n) d = length_run (e n) (along to s n) t m (rows_stored e to s t m n d) ∙ length_rows m n d

  -- a byte that belongs to none of the elements is as it was
  pub rows_out : (m n : ℕ) (d : List ℕ) (k : ℕ)
      → ((i j : ℕ) → i < n → j < m → (k < along (along to s i) t j) ⊎ (along (along to s i) t j + length (e i j) ≤ k))
      → get_or (rows_stored e to s t m n d) k 0 ≡ get_or d k 0
  unfolding rows_stored
  rows_out m zero d k h = refl
  rows_out m (suc n) d k h =
      run_out (e n) (along to s n) t m (rows_stored e to s t m n d) k (λ j l. h n j (omega arith) l) ∙ rows_out m n d k (λ i j l g. h i j (omega arith) g)

  -- a + b rows: a, and then b
  pub rows_add : (m a b : ℕ) (d : List ℕ) → rows_stored e to s t m (a + b) d ≡ rows_stored (λ i. e (a + i)) (along to s a) s t m b (rows_stored e to s t m a d)
  unfolding rows_stored
  rows_add m a zero d = rw add-zero
  rows_add m a (suc b) d = rw (add-suc, rows_add m a b d, along_on to s a b)

  -- no two elements share a byte
  abbrev pub AllOff : ℕ → ℕ → Type 0
  AllOff n m = (i j k l : ℕ) → i < n → k < n → j < m → l < m → ((i ≡ k) × (j ≡ l) → ⊥) → Off (along (along to s i) t j) (e i j) (along (along to s k) t l) (e k l)

  pub rows_none : (n : ℕ) (d : List ℕ) → rows_stored e to s t 0 n d ≡ d
  unfolding rows_stored run_stored
  rows_none zero d = refl
  rows_none (suc n) d = rows_none n d

  -- rows of one element more: the rows, and a column
  column_more : (n m : ℕ) (d : List ℕ) → AllOff n (suc m)
      → rows_stored e to s t (suc m) n d ≡ run_stored (λ i. e i m) (along to t m) s n (rows_stored e to s t m n d)
  unfolding rows_stored run_stored
  column_more zero m d h = refl
  column_more (suc n) m d h =
      rw (column_more n m d (λ i j k l a b c g f. h i j k l (omega arith) (omega arith) c g f), along_cross to s t n m)
      (ap (λ (x : List ℕ). sets x (along (along to t m) s n) (e n m))
      (run_run (e n) (along to s n) t (λ i. e i m) (along to t m) s m n (rows_stored e to s t m n d)
      (λ i k l g. rw (sym (along_cross to s t i m)) (h i m n k (omega arith) (omega arith) (omega arith) (omega arith) (λ q. omega (arith, q.0))))))

  -- rows one after the other are columns one after the other
  pub rows_columns : (n m : ℕ) (d : List ℕ) → AllOff n m → rows_stored e to s t m n d ≡ rows_stored (λ j i. e i j) to t s n m d
  unfolding rows_stored
  rows_columns n zero d h = rows_none n d
  rows_columns n (suc m) d h =
      column_more n m d h
      ∙ ap (run_stored (λ i. e i m) (along to t m) s n) (rows_columns n m d (λ i j k l a b c g f. h i j k l a b (omega arith) (omega arith) f))

-- rows of no element stand anywhere
pub rows_at : (e : ℕ → ℕ → List ℕ) {to to' : ℕ} (s t m n : ℕ) (d : List ℕ) → (0 < m → to ≡ to') → rows_stored e to s t m n d ≡ rows_stored e to' s t m n d
rows_at e {to} {to'} s t zero n d h = rows_none e to s t n d ∙ sym (rows_none e to' s t n d)
rows_at e s t (suc m) n d h = ap (λ (y : ℕ). rows_stored e y s t (suc m) n d) (h (omega arith))

-- ---- columns from one on

-- i of s and j of t from the one that is a of t on
pub along_shift : (to s t a i j : ℕ) → along (along (along to t a) s i) t j ≡ along (along to s i) t (a + j)
along_shift to s t a i j = ap (λ (y : ℕ). along y t j) (along_cross to t s a i) ∙ along_on (along to s i) t a j

-- a + b columns: a, and then b
pub columns_add : (e : ℕ → ℕ → List ℕ) (to s t n a b : ℕ) (d : List ℕ) → AllOff e to s t n (a + b)
    → rows_stored e to s t (a + b) n d ≡ rows_stored (λ i j. e i (a + j)) (along to t a) s t b n (rows_stored e to s t a n d)
columns_add e to s t n a b d h =
    rows_columns e to s t n (a + b) d h
    ∙ rows_add (λ j i. e i j) to t s n a b d
    ∙ ap (rows_stored (λ j i. e i (a + j)) (along to t a) t s n b)
    (sym (rows_columns e to s t n a d (λ i j k l hi hk hj hl ne. h i j k l hi hk (omega arith) (omega arith) ne)))
    ∙ sym (rows_columns (λ i j. e i (a + j)) (along to t a) s t n b (rows_stored e to s t a n d)
    (λ i j k l hi hk hj hl ne.
    rw (along_shift to s t a i j, along_shift to s t a k l)
    (h i (a + j) k (a + l) hi hk (omega arith) (omega arith) (λ q. ne (q.0, omega (arith, q.1))))))
