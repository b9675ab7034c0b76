-- Every second byte of a source, to bytes side by side, 16 at a time; and what is left of a course. Assumes nothing.
use Rattle.std.proofs.Common.{◌≡◌, ℕ, zero, suc, ◌+◌, ◌-◌, ◌*◌, ◌%◌, ◌^◌, ◌<◌, ◌≤◌, List, [], ◌∷◌, length, get_or, take, drop, sym, refl, ap, ◌∙◌, subst, mod-eq_of_lt, mul-one, arith, drop-cons}
use lib.Seq.{sets}
use Rattle.mover.specs.declared.elements.Course.{Course}
use Rattle.mover.specs.declared.elements.Origin.{Origin}
use Rattle.mover.specs.Private.Elements.{source_bytes}
use Rattle.mover.specs.Private.Adding.{along}
use Rattle.mover.specs.Private.Runs.{run_stored, kept_bytes, run_copied, Held, Evens, Readable, Writable}
use Rattle.mover.specs.Private.Shuffles.{made}
use Rattle.mover.proofs.Places.{still_held}
use Rattle.mover.proofs.Adding.{along_fits, along_none, along_on}
use Rattle.mover.proofs.Runs.{keeps_any, Done, done_start, done_length}
use Rattle.mover.proofs.Blocks.{plain, ones_lie}
use Rattle.mover.proofs.Blocking.{sets_more}
use Rattle.mover.proofs.Shuffled.{length_made, made_snoc}
use Rattle.mover.proofs.Crossing.{run_add, run_same}

-- ---- single bytes

pub one_byte : (l : List ℕ) (x : ℕ) → x < length l → take 1 (drop x l) ≡ get_or l x 0 ∷ []
one_byte l x h = rw (drop-cons l x 0)

-- stored side by side they are one block
pub dense : (g : ℕ → ℕ) (to n : ℕ) (d : List ℕ) → ((k : ℕ) → k < n → along to 1 k ≡ to + k) → run_stored (λ k. g k ∷ []) to 1 n d ≡ sets d to (made n g)
unfolding run_stored made
dense g to zero d h = refl
dense g to (suc n) d h =
    rw (dense g to n d (λ k l. h k (omega arith)), h n (omega arith)) (sets_more d to n (made n g) (g n) (length_made n g) ∙ ap (sets d to) (made_snoc n g))

-- 16 on
ones_on : (a : ℕ) → (a + 16) % 2 ^ 64 ≡ along a 1 16
unfolding along
ones_on a = refl

twos_on : (a : ℕ) → (a + 32) % 2 ^ 64 ≡ along a 2 16
unfolding along
twos_on a = refl

-- ---- the loop: k elements are stored, of the n that go 16 at a time; the next stands at `at` and goes to `to`

pub record Evened (o : Origin) (d₀ : List ℕ) (c : Course) (n : ℕ) (d : List ℕ) (at to k : ℕ) : Type 0 where
  pub stored : Done (kept_bytes (source_bytes o d₀) c) c.to c.stride n d₀ d to k
  pub home : at ≡ along c.at c.jump k

pub evened_start : (o : Origin) (d : List ℕ) (c : Course) (n : ℕ) → c.at < 2 ^ 64 → c.to < 2 ^ 64 → Evened o d c n d c.at c.to 0
evened_start o d c n fa ft = record {
  stored = done_start (kept_bytes (source_bytes o d) c) c.to c.stride n d ft;
  home = sym (along_none c.at c.jump fa);
}

-- what is left of a course, and of one of every second byte
abbrev rest_of : Course → ℕ → ℕ → ℕ → Course
rest_of c at to k = record { at = at; jump = c.jump; to = to; stride = c.stride; size = c.size; pad = c.pad; n = c.n - k }

abbrev pub evens_left : Course → ℕ → ℕ → ℕ → Course
evens_left c at to k = record { at = at; jump = 2; to = to; stride = 1; size = 1; pad = c.pad; n = c.n - k }

rest_is : {c : Course} → Evens c → (at to k : ℕ) → rest_of c at to k ≡ evens_left c at to k
rest_is {c} e at to k =
    let j = e.jump in
    let t = e.stride in
    let z = e.size in
    λ i. record { at = at; jump = j i; to = to; stride = t i; size = z i; pad = c.pad; n = c.n - k }

as_ones : (e : ℕ → List ℕ) {to to' t : ℕ} {d d' : List ℕ} → t ≡ 1 → to ≡ to' → d ≡ d' → run_stored e to t 16 d ≡ run_stored e to' 1 16 d'
as_ones e a b c = rw (a, b, c)

module _ {o : Origin} {d₀ : List ℕ} {c : Course} {n : ℕ} {d : List ℕ} {at to k : ℕ} (a : Evened o d₀ c n d at to k)
    (w : Writable d₀ c) (r : Readable o d₀ c) (m : n ≤ c.n) (e : Evens c) where
  evened_length : length d ≡ length d₀
  evened_length = done_length a.stored

  -- what is read is as it was
  same : (j : ℕ) → j < c.n → kept_bytes (source_bytes o d) c j ≡ kept_bytes (source_bytes o d₀) c j
  same j l =
      ap (λ (x : List ℕ). kept_bytes (source_bytes o x) c j) a.stored.bytes
      ∙ keeps_any o d₀ (source_bytes o d₀) c k j r.parted (omega (arith, a.stored.within)) l

  place_on : (i : ℕ) → along to c.stride i ≡ along c.to c.stride (k + i)
  place_on i = ap (λ (y : ℕ). along y c.stride i) a.stored.place ∙ along_on c.to c.stride k i

  home_on : (i : ℕ) → along at c.jump i ≡ along c.at c.jump (k + i)
  home_on i = ap (λ (y : ℕ). along y c.jump i) a.home ∙ along_on c.at c.jump k i

  -- ---- what is left

  left_asks : Writable d (rest_of c at to k) × Readable o d (rest_of c at to k)
  left_asks = (
    record { sized = w.sized; held = λ i l. rw (place_on i, evened_length) (w.held (k + i) (omega arith)) },
    record {
      short = r.short;
      held = λ i l. rw (home_on i) (still_held o d₀ d evened_length (r.held (k + i) (omega arith)));
      parted = λ i j l g. rw (home_on i, place_on j) (r.parted (k + i) (k + j) (omega arith) (omega arith));
    },
  )

  pub evened_asks : Writable d (evens_left c at to k) × Readable o d (evens_left c at to k)
  evened_asks = subst (λ (y : Course). Writable d y × Readable o d y) (rest_is e at to k) left_asks

  left_copied : run_copied o d (rest_of c at to k) ≡ run_copied o d₀ c
  left_copied =
      let v = source_bytes o d₀ in
      let z : k + (c.n - k) ≡ c.n = omega (arith, a.stored.within) in
      run_same (kept_bytes (source_bytes o d) (rest_of c at to k)) (λ i. kept_bytes v c (k + i)) to c.stride (c.n - k) d
      (λ i l. rw (home_on i) (same (k + i) (omega arith)))
      ∙ rw (a.stored.place, a.stored.bytes) (sym (run_add (kept_bytes v c) c.to c.stride k (c.n - k) d₀) ∙ ap (λ (y : ℕ). run_stored (kept_bytes v c) c.to c.stride y d₀) z)

  pub evened_end : {x : ℕ} {d' : List ℕ} → x ≡ along to 1 (c.n - k) → d' ≡ run_copied o d (evens_left c at to k)
      → (x ≡ along c.to c.stride c.n) × (d' ≡ run_copied o d₀ c)
  evened_end p q =
      let z : k + (c.n - k) ≡ c.n = omega (arith, a.stored.within) in (
        p ∙ ap (λ (y : ℕ). along to y (c.n - k)) (sym e.stride) ∙ place_on (c.n - k) ∙ ap (along c.to c.stride) z,
        q ∙ ap (λ (y : Course). run_copied o d y) (sym (rest_is e at to k)) ∙ left_copied,
      )

  -- ---- 16 more

  module _ (p : 0 < n → c.at + n + n ≤ length (source_bytes o d₀)) (fs : length (source_bytes o d₀) < 2 ^ 64) (fd : length d₀ < 2 ^ 64) (h : k + 16 ≤ n) where
    plain_home : (j : ℕ) → j < n → along c.at c.jump j ≡ c.at + 2 * j
    unfolding along
    plain_home j l = rw e.jump (mod-eq_of_lt (omega (arith, p (omega arith))) ∙ omega arith)

    home_at : (i : ℕ) → i < 16 → along c.at c.jump (k + i) ≡ at + 2 * i
    home_at i l = plain_home (k + i) (omega arith) ∙ omega (arith, a.home, plain_home k (omega arith))

    pub evened_reads : at + 32 ≤ length (source_bytes o d)
    evened_reads = still_held o d₀ d evened_length (omega (arith, p (omega arith), a.home, plain_home k (omega arith)))

    to_low : to < 2 ^ 64
    to_low = rw a.stored.place (along_fits c.to c.stride k)

    written : Held (length d₀) to 1 1 16
    written i l = rw (← place_on i, e.stride, e.size) at (w.held (k + i) (omega arith))

    pub evened_writes : to + 16 ≤ length d
    evened_writes = rw evened_length (ones_lie (length d₀) to 16 to_low fd written (omega arith))

    pub evened_more : {d' : List ℕ} {at' to' : ℕ} → d' ≡ sets d to (made 16 (λ i. get_or (source_bytes o d) (at + 2 * i) 0))
        → at' ≡ (at + 32) % 2 ^ 64 → to' ≡ (to + 16) % 2 ^ 64 → Evened o d₀ c n d' at' to' (k + 16)
    evened_more x xa xt = record {
      stored = record {
        within = h;
        place = xt ∙ ones_on to ∙ ap (λ (y : ℕ). along to y 16) (sym e.stride) ∙ place_on 16;
        bytes = x ∙ sym all;
      };
      home = xa ∙ twos_on at ∙ ap (λ (y : ℕ). along at y 16) (sym e.jump) ∙ home_on 16;
    }
      where
        all : run_stored (kept_bytes (source_bytes o d₀) c) c.to c.stride (k + 16) d₀ ≡ sets d to (made 16 (λ i. get_or (source_bytes o d) (at + 2 * i) 0))
        all =
            run_add (kept_bytes (source_bytes o d₀) c) c.to c.stride k 16 d₀
            ∙ as_ones (λ i. kept_bytes (source_bytes o d₀) c (k + i)) e.stride (sym a.stored.place) (sym a.stored.bytes)
            ∙ run_same (λ i. kept_bytes (source_bytes o d₀) c (k + i)) (λ i. get_or (source_bytes o d) (at + 2 * i) 0 ∷ []) to 1 16 d
            (λ i l. sym (same (k + i) (omega arith)) ∙ rw (e.size, home_at i l) (one_byte (source_bytes o d) (at + 2 * i) (omega (arith, evened_reads))))
            ∙ dense (λ i. get_or (source_bytes o d) (at + 2 * i) 0) to 16 d (λ i l. plain (length d₀) to 1 to_low fd 16 written i l ∙ rw (mul-one i))
