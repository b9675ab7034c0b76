-- Elements of a job moved in a memory: what it leaves, that more of the same job adds up, and that jobs which keep clear of one
-- another commute. Assumes nothing.
use mathlib.Core.Path.{◌≡◌, sym, ap, ap₂, ◌∙◌, subst}
use Prim.Native.Nat.{ℕ, ◌+◌, ◌≤◌}
use native.Mathlib.Nat.{zero-add}
use mathlib.Core.List.{List}
use lib.ListN.{length}
use Rattle.parts.specs.Parts.{bytes_of, replaced}
use Rattle.serial.specs.Machine.{Mover, applied, whole_move, Clear}
use Rattle.serial.specs.Claims.{Lawful}
use Rattle.serial.proofs.Memory.{apart_sym, length_bytes, length_replaced, bytes_replaced, bytes_kept, replaced_again, replaced_own, replaced_comm}

-- no number refuses the job over a memory of n bytes
abbrev pub Fits : (M : Mover) → ℕ → M.Job → Type 0
Fits M n j = M.verdict n j ≡ 0

pub clear_sym : (M : Mover) (i j : M.Job) → Clear M i j → Clear M j i
clear_sym M i j c =
    record { to_source = c.from_source; to_destination = apart_sym (M.destination i) (M.destination j) c.to_destination; from_source = c.to_source }

-- the first c elements, then k more
pub more_first : (M : Mover) → Lawful M → (j : M.Job) (c k : ℕ) (s d : List ℕ) → M.write j c k s (M.write j 0 c s d) ≡ M.write j 0 (c + k) s d
more_first M L j c k s d = ap (λ (x : ℕ). M.write j x k s (M.write j 0 c s d)) (sym (zero-add c)) ∙ L.more j 0 c k s d

module _ (M : Mover) (L : Lawful M) (n : ℕ) where
  module _ (j : M.Job) (f : Fits M n j) (m : List ℕ) (long : length m ≡ n) where
    s_fits : (M.source j).start + (M.source j).length ≤ length m
    s_fits = subst (λ (a : ℕ). (M.source j).start + (M.source j).length ≤ a) (sym long) (L.source_fits n j f)

    t_fits : (M.destination j).start + (M.destination j).length ≤ length m
    t_fits = subst (λ (a : ℕ). (M.destination j).start + (M.destination j).length ≤ a) (sym long) (L.destination_fits n j f)

    -- the destination's bytes as the job writes them
    new_bytes : ℕ → ℕ → List ℕ
    new_bytes a k = M.write j a k (bytes_of (M.source j) m) (bytes_of (M.destination j) m)

    new_long : (a k : ℕ) → length (new_bytes a k) ≡ (M.destination j).length
    unfolding new_bytes
    new_long a k = L.same_length j a k _ _ ∙ length_bytes (M.destination j) m t_fits

    pub length_applied : (a k : ℕ) → length (applied M j a k m) ≡ n
    unfolding applied new_bytes
    length_applied a k = length_replaced (M.destination j) m (new_bytes a k) ∙ long

    pub source_kept : (a k : ℕ) → bytes_of (M.source j) (applied M j a k m) ≡ bytes_of (M.source j) m
    unfolding applied new_bytes
    source_kept a k = bytes_kept (M.source j) (M.destination j) m (L.parts_apart n j f) s_fits t_fits (new_bytes a k) (new_long a k)

    pub destination_now : (a k : ℕ) → bytes_of (M.destination j) (applied M j a k m) ≡ M.write j a k (bytes_of (M.source j) m) (bytes_of (M.destination j) m)
    unfolding applied new_bytes
    destination_now a k = bytes_replaced (M.destination j) m t_fits (new_bytes a k) (new_long a k)

    pub applied_none : (a : ℕ) → applied M j a 0 m ≡ m
    unfolding applied
    applied_none a =
        ap (λ (l : List ℕ). replaced (M.destination j) l m) (L.none j a (bytes_of (M.source j) m) (bytes_of (M.destination j) m))
        ∙ replaced_own (M.destination j) m t_fits

    -- k elements after the first a, then l more: a step's loop goes by this too
    pub applied_more : (a k l : ℕ) → applied M j (a + k) l (applied M j a k m) ≡ applied M j a (k + l) m
    unfolding applied new_bytes
    applied_more a k l =
        ap (λ (x : List ℕ). replaced (M.destination j) x (applied M j a k m))
        (ap₂ (λ (s d : List ℕ). M.write j (a + k) l s d) (source_kept a k) (destination_now a k)
        ∙ L.more j a k l (bytes_of (M.source j) m) (bytes_of (M.destination j) m))
        ∙ replaced_again (M.destination j) m t_fits (new_bytes a k) (new_bytes a (k + l)) (new_long a k) (new_long a (k + l))

    pub applied_first : (a k : ℕ) → applied M j a k (applied M j 0 a m) ≡ applied M j 0 (a + k) m
    applied_first a k = ap (λ (x : ℕ). applied M j x k (applied M j 0 a m)) (sym (zero-add a)) ∙ applied_more 0 a k

    pub applied_whole : applied M j 0 (M.total j) m ≡ whole_move M j m
    unfolding applied whole_move
    applied_whole =
        ap (λ (l : List ℕ). replaced (M.destination j) l m)
        (sym (L.whole n j _ _ f (length_bytes (M.source j) m s_fits) (length_bytes (M.destination j) m t_fits)))

  module _ (i j : M.Job) (fi : Fits M n i) (fj : Fits M n j) (c : Clear M i j) (m : List ℕ) (long : length m ≡ n) where
    pub source_other : (a k : ℕ) → bytes_of (M.source i) (applied M j a k m) ≡ bytes_of (M.source i) m
    unfolding applied new_bytes
    source_other a k =
        bytes_kept (M.source i) (M.destination j) m (apart_sym (M.destination j) (M.source i) c.from_source) (s_fits i fi m long)
        (t_fits j fj m long) (new_bytes j fj m long a k) (new_long j fj m long a k)

    pub destination_other : (a k : ℕ) → bytes_of (M.destination i) (applied M j a k m) ≡ bytes_of (M.destination i) m
    unfolding applied new_bytes
    destination_other a k =
        bytes_kept (M.destination i) (M.destination j) m c.to_destination (t_fits i fi m long) (t_fits j fj m long) (new_bytes j fj m long a k)
        (new_long j fj m long a k)

  pub applied_comm : (i j : M.Job) → Fits M n i → Fits M n j → Clear M i j → (m : List ℕ) → length m ≡ n → (a k b l : ℕ)
      → applied M i a k (applied M j b l m) ≡ applied M j b l (applied M i a k m)
  unfolding applied new_bytes
  applied_comm i j fi fj c m long a k b l =
      ap (λ (x : List ℕ). replaced (M.destination i) x (applied M j b l m))
      (ap₂ (λ (s d : List ℕ). M.write i a k s d) (source_other i j fi fj c m long b l) (destination_other i j fi fj c m long b l))
      ∙ replaced_comm (M.destination i) (M.destination j) m c.to_destination (t_fits i fi m long) (t_fits j fj m long)
      (new_bytes j fj m long b l) (new_long j fj m long b l) (new_bytes i fi m long a k) (new_long i fi m long a k)
      ∙ ap (λ (x : List ℕ). replaced (M.destination j) x (applied M i a k m))
      (sym (ap₂ (λ (s d : List ℕ). M.write j b l s d) (source_other j i fj fi c' m long a k) (destination_other j i fj fi c' m long a k)))
    where
      c' : Clear M j i
      c' = clear_sym M i j c
