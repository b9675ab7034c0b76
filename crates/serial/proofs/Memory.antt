-- Parts of a memory: what a replaced part leaves as it was, and that parts which share no byte can be replaced in either order.
-- Assumes nothing.
use mathlib.Core.Path.{◌≡◌, refl, sym, ◌∙◌}
use mathlib.Core.Logic.{◌⊎◌, ⊎_elim, inl, inr}
use Prim.Native.Nat.{ℕ, zero, suc, ◌+◌, ◌-◌, ◌≤◌, ◌<◌}
use native.Mathlib.Nat.{add-zero, add-suc, suc-add, not-suc-le-zero, le_of_suc-le-suc}
use native.Mathlib.Omega.{arith}
use native.Mathlib.Decide.{dec_lt}
use mathlib.Core.List.{List, [], ◌∷◌}
use lib.ListN.{length, drop, get_or, set, length-set, length-take, length-drop}
use lib.Seq.{sets, length-sets, get_or-take, get_or-drop, ext_get_or, get_or-set_same, get_or-set_other}
use Rattle.parts.specs.declared.Part.{Part}
use Rattle.parts.specs.Parts.{Has, Apart, bytes_of, replaced}

pub apart_sym : (p q : Part) → Apart p q → Apart q p
apart_sym p q a i x y = a i y x

-- ---- a run of stores

-- what is stored elsewhere leaves a byte as it was
sets_out : (vs l : List ℕ) (i k : ℕ) → (k < i) ⊎ (i + length vs ≤ k) → get_or (sets l i vs) k 0 ≡ get_or l k 0
sets_out [] l i k h = refl
sets_out (v ∷ vs) l i k h =
    sets_out vs (set l i v) (suc i) k (⊎_elim (λ a. inl (omega arith)) (λ b. inr (omega arith)) h)
    ∙ get_or-set_other l i k v 0 (λ e. ⊎_elim {C = ⊥} (λ a. omega arith) (λ b. omega arith) h)

-- the k-th of the bytes stored
sets_in : (vs l : List ℕ) (i k : ℕ) → k < length vs → i + length vs ≤ length l → get_or (sets l i vs) (i + k) 0 ≡ get_or vs k 0
sets_in [] l i k h m = absurd (not-suc-le-zero h)
sets_in (v ∷ vs) l i zero h m =
    rw add-zero (sets_out vs (set l i v) (suc i) i (inl (omega arith)) ∙ get_or-set_same l i v 0 (omega arith))
sets_in (v ∷ vs) l i (suc k) h m =
    rw (add-suc, ← suc-add) (sets_in vs (set l i v) (suc i) k (le_of_suc-le-suc h) (rw length-set (omega arith)))

-- ---- where a byte lies, seen from a part

data Lies (p : Part) (i : ℕ) : Type 0 where
  in_it : (k : ℕ) → k < p.length → i ≡ p.start + k → Lies p i
  out_of_it : (Has p i → ⊥) → Lies p i

lies : (p : Part) (i : ℕ) → Lies p i
lies p i = go (dec_lt i p.start) (dec_lt i (p.start + p.length))
  where
    go : Dec (i < p.start) → Dec (i < p.start + p.length) → Lies p i
    go (yes a) b = out_of_it λ w. omega arith
    go (no a) (yes b) = in_it (i - p.start) (omega arith) (omega arith)
    go (no a) (no b) = out_of_it λ w. omega arith

-- ---- one part

in_part : (p : Part) (l : List ℕ) (k : ℕ) → k < p.length → get_or (bytes_of p l) k 0 ≡ get_or l (p.start + k) 0
in_part p l k h = get_or-take p.length (drop p.start l) k 0 h ∙ get_or-drop p.start l k 0

pub length_replaced : (p : Part) (m e : List ℕ) → length (replaced p e m) ≡ length m
unfolding replaced
length_replaced p m e = length-sets m p.start e

-- two memories that agree in the part and out of it
same_memory : (p : Part) (x y : List ℕ) → length x ≡ length y → ((k : ℕ) → k < p.length → get_or x (p.start + k) 0 ≡ get_or y (p.start + k) 0)
    → ((i : ℕ) → (Has p i → ⊥) → get_or x i 0 ≡ get_or y i 0) → x ≡ y
same_memory p x y long inside outside = ext_get_or 0 x y long (λ i h. at_byte i (lies p i))
  where
    at_byte : (i : ℕ) → Lies p i → get_or x i 0 ≡ get_or y i 0
    at_byte i (in_it k h q) = rw q (inside k h)
    at_byte i (out_of_it o) = outside i o

module _ (p : Part) (m : List ℕ) (fits : p.start + p.length ≤ length m) where
  pub length_bytes : length (bytes_of p m) ≡ p.length
  length_bytes = simp (length-take, length-drop) (omega arith)

  module _ (e : List ℕ) (as_long : length e ≡ p.length) where
    at_in : (k : ℕ) → k < p.length → get_or (replaced p e m) (p.start + k) 0 ≡ get_or e k 0
    unfolding replaced
    at_in k h = sets_in e m p.start k (omega arith) (omega arith)

    at_out : (i : ℕ) → (Has p i → ⊥) → get_or (replaced p e m) i 0 ≡ get_or m i 0
    unfolding replaced
    at_out i o = sets_out e m p.start i (out (dec_lt i p.start) (dec_lt i (p.start + p.length)))
      where
        out : Dec (i < p.start) → Dec (i < p.start + p.length) → (i < p.start) ⊎ (p.start + length e ≤ i)
        out (yes a) b = inl a
        out (no a) (yes b) = absurd (o (omega arith, b))
        out (no a) (no b) = inr (omega arith)

    pub bytes_replaced : bytes_of p (replaced p e m) ≡ e
    bytes_replaced =
        let l : length (bytes_of p (replaced p e m)) ≡ p.length =
        simp (length-take, length-drop) (omega (arith, length_replaced p m e))
        in
        ext_get_or 0 (bytes_of p (replaced p e m)) e (l ∙ sym as_long)
        (λ k h. in_part p (replaced p e m) k (omega arith) ∙ at_in k (omega arith))

  pub replaced_own : replaced p (bytes_of p m) m ≡ m
  replaced_own =
      same_memory p (replaced p (bytes_of p m) m) m (length_replaced p m (bytes_of p m))
      (λ k h. at_in (bytes_of p m) length_bytes k h ∙ in_part p m k h) (at_out (bytes_of p m) length_bytes)

-- the second of two replacements counts
pub replaced_again : (p : Part) (m : List ℕ) → p.start + p.length ≤ length m → (e f : List ℕ) → length e ≡ p.length → length f ≡ p.length
    → replaced p f (replaced p e m) ≡ replaced p f m
replaced_again p m fits e f le lf =
    let fits' : p.start + p.length ≤ length (replaced p e m) = omega (arith, length_replaced p m e) in
    same_memory p (replaced p f (replaced p e m)) (replaced p f m)
    (length_replaced p (replaced p e m) f ∙ length_replaced p m e ∙ sym (length_replaced p m f))
    (λ k h. at_in p (replaced p e m) fits' f lf k h ∙ sym (at_in p m fits f lf k h))
    (λ i o. at_out p (replaced p e m) fits' f lf i o ∙ at_out p m fits e le i o ∙ sym (at_out p m fits f lf i o))

-- ---- two parts that share no byte

module _ (p q : Part) (m : List ℕ) (apart : Apart p q) (p-fits : p.start + p.length ≤ length m) (q-fits : q.start + q.length ≤ length m)
    (f : List ℕ) (f-long : length f ≡ q.length) where
  p_fits' : p.start + p.length ≤ length (replaced q f m)
  p_fits' = omega (arith, length_replaced q m f)

  -- a replaced part leaves the other's bytes
  pub bytes_kept : bytes_of p (replaced q f m) ≡ bytes_of p m
  bytes_kept =
      ext_get_or 0 (bytes_of p (replaced q f m)) (bytes_of p m)
      (length_bytes p (replaced q f m) p_fits' ∙ sym (length_bytes p m p-fits))
      (λ k h. at_byte k (omega (arith, length_bytes p (replaced q f m) p_fits')))
    where
      at_byte : (k : ℕ) → k < p.length → get_or (bytes_of p (replaced q f m)) k 0 ≡ get_or (bytes_of p m) k 0
      at_byte k h =
          in_part p (replaced q f m) k h
          ∙ at_out q m q-fits f f-long (p.start + k) (apart (p.start + k) (omega arith, omega arith))
          ∙ sym (in_part p m k h)

  module _ (e : List ℕ) (e-long : length e ≡ p.length) where
    q_fits' : q.start + q.length ≤ length (replaced p e m)
    q_fits' = omega (arith, length_replaced p m e)

    pub replaced_comm : replaced p e (replaced q f m) ≡ replaced q f (replaced p e m)
    replaced_comm =
        same_memory p (replaced p e (replaced q f m)) (replaced q f (replaced p e m))
        (length_replaced p (replaced q f m) e ∙ length_replaced q m f ∙ sym (length_replaced q (replaced p e m) f ∙ length_replaced p m e))
        (λ k h.
        at_in p (replaced q f m) p_fits' e e-long k h
        ∙ sym (at_out q (replaced p e m) q_fits' f f-long (p.start + k) (apart (p.start + k) (omega arith, omega arith)) ∙ at_in p m p-fits e e-long k h))
        (λ i o. at_out p (replaced q f m) p_fits' e e-long i o ∙ elsewhere i o (lies q i))
      where
        elsewhere : (i : ℕ) → (Has p i → ⊥) → Lies q i → get_or (replaced q f m) i 0 ≡ get_or (replaced q f (replaced p e m)) i 0
        elsewhere i o (in_it k h r) = rw r (at_in q m q-fits f f-long k h ∙ sym (at_in q (replaced p e m) q_fits' f f-long k h))
        elsewhere i o (out_of_it u) =
            at_out q m q-fits f f-long i u ∙ sym (at_out q (replaced p e m) q_fits' f f-long i u ∙ at_out p m p-fits e e-long i o)
