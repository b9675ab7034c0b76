-- The parts that runs are: they lie in the memory, share a byte only where the runs share a block, and start at multiples of 4 where the
-- memory's length is one of 256. Assumes nothing.
use Prim.Native.Nat.{ℕ, ◌+◌, ◌*◌, ◌/◌, ◌%◌, ◌≤◌, ◌<◌}
use native.Mathlib.Nat.{add-mul, mul_assoc, mul-le-mul, mul-mod_left, mod-one, le-div_iff_mul-le, div-lt_iff_lt-mul}
use native.Mathlib.Decide.{ℕ_discrete, dec_lt}
use native.Mathlib.Omega.{arith}
use mathlib.Core.Path.{◌≡◌, sym, ap, ◌∙◌}
use mathlib.Core.Bool.{false}
use Rattle.parts.specs.Parts.{Has, Apart}
use Rattle.mover.specs.Within.{off_boundary}
use Rattle.mover.proofs.Boundaries.{not_off}
use Rattle.keeper.specs.Calls.{block_bytes, run_part}
use Rattle.keeper.specs.Claims.{InRun, RunParts}

-- the blocks of a memory end within it
pub blocks_end : (l : ℕ) → 64 * block_bytes l ≤ l
blocks_end l = omega arith

-- where a run ends
run_end : (l first n : ℕ) → (first + n) * block_bytes l ≡ (run_part l first n).start + (run_part l first n).length
unfolding run_part
run_end l first n = add-mul first n (l / 64)

-- no run of at most 64 ends past them
pub run_ends : (l first n : ℕ) → first + n ≤ 64 → (run_part l first n).start + (run_part l first n).length ≤ 64 * block_bytes l
run_ends l first n h = rw (← run_end l first n) (mul-le-mul h (omega arith))

module _ (l first n i : ℕ) where
  pub block_of : 0 < block_bytes l → Has (run_part l first n) i → InRun first n (i / block_bytes l)
  unfolding run_part
  block_of p h = ((le-div_iff_mul-le p).1 h.0, (div-lt_iff_lt-mul p).1 (omega (arith, run_end l first n, h.1)))

  pub byte_of : 0 < block_bytes l → InRun first n (i / block_bytes l) → Has (run_part l first n) i
  unfolding run_part
  byte_of p r = ((le-div_iff_mul-le p).0 r.0, omega (arith, run_end l first n, (div-lt_iff_lt-mul p).0 r.1))

-- where a block has no byte, no run has
no_bytes : (l first n i : ℕ) → block_bytes l ≡ 0 → Has (run_part l first n) i → ⊥
no_bytes l first n i z h =
    let m : (first + n) * block_bytes l ≤ (first + n) * 0 = mul-le-mul (omega arith) (omega arith) in
    omega (arith, run_end l first n, h.0, h.1)

apart : (l f k g m : ℕ) → ((b : ℕ) → InRun f k b → InRun g m b → ⊥) → Apart (run_part l f k) (run_part l g m)
apart l f k g m none i p q = elim (dec_lt 0 (block_bytes l)) [
  | yes b ↦ none (i / block_bytes l) (block_of l f k i b p) (block_of l g m i b q)
  | no b ↦ no_bytes l f k i (omega arith) p
]

-- 64 blocks of a multiple of 256 bytes have a multiple of 4 bytes each
fours : (l first n : ℕ) → l % 256 ≡ 0 → (run_part l first n).start % 4 ≡ 0
unfolding run_part
fours l first n e =
    let b : l / 64 ≡ l / 256 * 4 = omega arith in
    ap (λ (k : ℕ). first * k % 4) b ∙ ap (λ (k : ℕ). k % 4) (sym (mul_assoc first (l / 256) 4)) ∙ mul-mod_left (first * (l / 256)) 4

-- a multiple of 4 is one of every element size but 3
every_size : (s z : ℕ) → s % 4 ≡ 0 → 1 ≤ z → z ≤ 4 → (z ≡ 3 → ⊥) → s % z ≡ 0
every_size s z e l m h = elim (ℕ_discrete z 1) [
  | yes p ↦ rw p (mod-one s)
  | no p ↦ elim (ℕ_discrete z 2) [
    | yes q ↦ rw q (omega arith)
    | no q ↦ let w : z ≡ 4 = omega arith in rw w e
  ]
]

boundary : (l first n z : ℕ) → l % 256 ≡ 0 → 1 ≤ z → z ≤ 4 → off_boundary z (run_part l first n) ≡ false
boundary l first n z e p q = not_off z (run_part l first n) (every_size (run_part l first n).start z (fours l first n e) p q)

pub run_parts : RunParts
run_parts = record {
  inside = λ l first n h. omega (arith, run_ends l first n h, blocks_end l);
  apart = apart;
  block = λ l first n i h.
      let p : 0 < block_bytes l = omega arith in
      (block_of l first n i p, byte_of l first n i p);
  fours = fours;
  boundary = boundary;
}
