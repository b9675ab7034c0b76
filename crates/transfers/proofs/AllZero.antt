-- What the test for all zero means: a job that passes it is the job of zeros, and a free slot of a sound table is the free slot.
-- Assumes nothing.
use Prim.Native.Nat.{ℕ, zero, suc, ◌<◌}
use native.Mathlib.Omega.{arith}
use mathlib.Core.Path.{◌≡◌, refl, sym, ap, ◌∙◌}
use mathlib.Core.Bool.{Bool, true, ◌&&◌}
use mathlib.Core.List.{List, [], ◌∷◌}
use borrow.Author.Tests.{eqb-true}
use lib.Dec.{eqb}
use lib.IntN.{ℤ, pos, negsuc}
use lib.ListN.{length}
use Rattle.std.specs.Bool.{Decides}
use Rattle.plane.specs.Arrays.{at, zeros, every}
use Rattle.plane.specs.Signs.{size_of, sizes, at_z, zeros_z}
use Rattle.plane.proofs.Signed.{sizes_at}
use Rattle.faults.proofs.Bools.{both_first, both_second}
use Rattle.plane.proofs.Arrays.{every_each}
use Rattle.plane.proofs.Configs.{same_config}
use Rattle.parts.specs.declared.Part.{Part}
use Rattle.mover.specs.declared.Job.{Job}
use Rattle.transfers.specs.declared.Slot.{Slot}
use Rattle.plane.specs.Settings.{array_count, array_of, zero_config}
use Rattle.plane.specs.Planes.{zero_tensor}
use Rattle.transfers.specs.Slots.{zero_part, zero_job, free_slot, is_zero_array, is_zero_part, is_zero_tensor, is_zero_config, is_zero_job, slot_at, slot_sound}
use Rattle.transfers.specs.Sound.{FourEntries, FreeIsZero}
use Rattle.transfers.proofs.Sounds.{zero_sound, sound_tells}

no_entry : (xs : List ℕ) → length xs ≡ 4 → is_zero_array xs ≡ true → xs ≡ zeros
no_entry [] h e = absurd (omega arith)
no_entry (a ∷ []) h e = absurd (omega arith)
no_entry (a ∷ b ∷ []) h e = absurd (omega arith)
no_entry (a ∷ b ∷ c ∷ []) h e = absurd (omega arith)
no_entry (a ∷ b ∷ c ∷ d ∷ []) h e =
    let p = every_each (λ (i : ℕ). eqb (at (a ∷ b ∷ c ∷ d ∷ []) i) 0) 4 e in
    rw (eqb-true a 0 (p 0 (omega arith)), eqb-true b 0 (p 1 (omega arith)), eqb-true c 0 (p 2 (omega arith)), eqb-true d 0 (p 3 (omega arith)))
no_entry (a ∷ b ∷ c ∷ d ∷ x ∷ xs) h e = absurd (omega arith)

-- no stride either: only 0 has size 0
no_size : (z : ℤ) → size_of z ≡ 0 → z ≡ pos 0
no_size (pos n) e = ap pos e
no_size (negsuc n) e = absurd (omega arith)

no_stride : (xs : List ℤ) → length xs ≡ 4 → is_zero_array (sizes xs) ≡ true → xs ≡ zeros_z
no_stride [] h e = absurd (omega arith)
no_stride (a ∷ []) h e = absurd (omega arith)
no_stride (a ∷ b ∷ []) h e = absurd (omega arith)
no_stride (a ∷ b ∷ c ∷ []) h e = absurd (omega arith)
no_stride (a ∷ b ∷ c ∷ d ∷ []) h e =
    let xs = a ∷ b ∷ c ∷ d ∷ [] in
    let p : (i : ℕ) → i < 4 → at_z xs i ≡ pos 0 = λ i l.
    no_size (at_z xs i) (sym (sizes_at xs i) ∙ eqb-true _ 0 (every_each (λ (i : ℕ). eqb (at (sizes xs) i) 0) 4 e i l)) in
    λ i. p 0 (omega arith) i ∷ p 1 (omega arith) i ∷ p 2 (omega arith) i ∷ p 3 (omega arith) i ∷ []
no_stride (a ∷ b ∷ c ∷ d ∷ x ∷ xs) h e = absurd (omega arith)

no_part : (p : Part) → is_zero_part p ≡ true → p ≡ zero_part
no_part p e =
    let a = eqb-true p.start 0 (both_first _ (eqb p.length 0) e) in
    let b = eqb-true p.length 0 (both_second (eqb p.start 0) _ e) in
    λ i. record { start = a i; length = b i }

module _ (j : Job) (f : FourEntries j) where
  no_tensor : is_zero_tensor j.tensor ≡ true → j.tensor ≡ zero_tensor
  unfolding is_zero_tensor
  no_tensor e =
      let t = j.tensor in
      let ends = eqb t.rank 0 && eqb t.element_size 0 in
      let x = both_first (ends && is_zero_array t.shape) (is_zero_array (sizes t.stride)) e in
      let y = both_first ends (is_zero_array t.shape) x in
      let rank = eqb-true t.rank 0 (both_first _ (eqb t.element_size 0) y) in
      let size = eqb-true t.element_size 0 (both_second (eqb t.rank 0) _ y) in
      let shape = no_entry t.shape f.shape (both_second ends (is_zero_array t.shape) x) in
      let stride = no_stride t.stride f.stride (both_second (ends && is_zero_array t.shape) (is_zero_array (sizes t.stride)) e) in
      λ i. record { rank = rank i; element_size = size i; shape = shape i; stride = stride i }

  no_config : is_zero_config j.config ≡ true → j.config ≡ zero_config
  unfolding is_zero_config
  no_config e =
      let none : ℕ → Bool = λ k. is_zero_array (array_of j.config k) in
      let x = both_first (every array_count none) (eqb j.config.fill 0) e in
      same_config (array_of j.config) (λ k. zeros)
      (λ k h. no_entry _ (f.arrays k h) (every_each none array_count x k h))
      (eqb-true j.config.fill 0 (both_second (every array_count none) (eqb j.config.fill 0) e))

  pub no_job : is_zero_job j ≡ true → j ≡ zero_job
  unfolding is_zero_job
  no_job e =
      let parts = is_zero_part j.source && is_zero_part j.destination in
      let x = both_first (parts && is_zero_tensor j.tensor) (is_zero_config j.config) e in
      let y = both_first parts (is_zero_tensor j.tensor) x in
      let source = no_part j.source (both_first _ (is_zero_part j.destination) y) in
      let destination = no_part j.destination (both_second (is_zero_part j.source) _ y) in
      let tensor = no_tensor (both_second parts (is_zero_tensor j.tensor) x) in
      let config = no_config (both_second (parts && is_zero_tensor j.tensor) (is_zero_config j.config) e) in
      λ i. record { source = source i; destination = destination i; tensor = tensor i; config = config i }

zero_is_sound : (n : ℕ) → slot_sound n free_slot ≡ true
unfolding slot_sound is_zero_job is_zero_tensor is_zero_config sizes every
zero_is_sound n = refl

pub no_slot : (n : ℕ) (s : Slot) → FourEntries s.job → slot_sound n s ≡ true → s.state ≡ 0 → s ≡ free_slot
no_slot n s f p z =
    let e = zero_sound n s z ∙ p in
    let job = no_job s.job f (both_first _ (eqb s.moved 0) e) in
    let moved = eqb-true s.moved 0 (both_second (is_zero_job s.job) _ e) in
    λ i. record { state = z i; job = job i; moved = moved i }

pub free_is_zero : FreeIsZero
free_is_zero t f p h l z = no_slot t.length (slot_at t h) (f h l) ((sound_tells t p).each h l) z

pub four_entries : (j : Job) → length j.tensor.shape ≡ 4 → length j.tensor.stride ≡ 4
    → length j.config.offset ≡ 4 → length j.config.size ≡ 4 → length j.config.step ≡ 4 → length j.config.dst_offset ≡ 4
    → length j.config.dst_stride ≡ 4 → length j.config.perm ≡ 4 → length j.config.pre ≡ 4 → length j.config.post ≡ 4 → FourEntries j
four_entries j s t a b c d e f g h = record { shape = s; stride = t; arrays = each }
  where
    each : (k : ℕ) → k < array_count → length (array_of j.config k) ≡ 4
    each zero l = a
    each (suc zero) l = b
    each (suc (suc zero)) l = c
    each (suc (suc (suc zero))) l = d
    each (suc (suc (suc (suc zero)))) l = e
    each (suc (suc (suc (suc (suc zero))))) l = f
    each (suc (suc (suc (suc (suc (suc zero)))))) l = g
    each (suc (suc (suc (suc (suc (suc (suc zero))))))) l = h
    each (suc (suc (suc (suc (suc (suc (suc (suc k)))))))) l = absurd (omega arith)

-- so the comparison with the free slot tells whether a slot that is in state 0 is sound
pub free_sound : (n : ℕ) (s : Slot) → FourEntries s.job → s.state ≡ 0 → Decides (slot_sound n s) (s ≡ free_slot)
free_sound n s f z = (λ e. no_slot n s f e z, λ q. ap (slot_sound n) q ∙ zero_is_sound n)
