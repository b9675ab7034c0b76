-- A run of elements that lie side by side is a run of bytes. Assumes nothing.
use Rattle.std.proofs.Common.{◌≡◌, ℕ, zero, suc, ◌+◌, ◌-◌, ◌*◌, ◌/◌, ◌%◌, ◌^◌, ◌<◌, ◌≤◌, List, length, take, drop, sym, refl, ap, ◌∙◌, subst, inl, inr, ⊎_elim, add-zero, add-suc, mul-le-mul_right, mod-lt, mod-eq_of_lt, suc-mul, div-lt_iff_lt-mul, div-add-mod', zero-add, zero-mul, mul-one, add-one, arith}
use native.Mathlib.Decide.{dec_lt}
use lib.Seq.{sets}
use Rattle.mover.specs.declared.elements.Course.{Course}
use Rattle.mover.specs.declared.elements.Origin.{Origin}
use Rattle.mover.specs.declared.elements.Origin.TheVariants.{Lent, Inside}
use Rattle.mover.specs.Private.Elements.{source_bytes}
use Rattle.mover.specs.Private.Adding.{along}
use Rattle.mover.specs.Private.Runs.{element_copied, run_stored, kept_bytes, run_copied, Held, BytesApart, Blocked, Readable, Writable}
use Rattle.mover.proofs.Places.{apart_part}
use Rattle.plane.proofs.Bounds.{element_small}
use Rattle.mover.proofs.Bytes.{copied_one, short_source, copy_more}
use Rattle.mover.proofs.Adding.{along_none, along_next, along_on, along_is}

-- ---- places

along_unit : (a z k : ℕ) → along a z k ≡ along a 1 (k * z)
unfolding along
along_unit a z k = rw (mul-one (k * z))

pub along_one : (a k : ℕ) → (a + k) % 2 ^ 64 ≡ along a 1 k
unfolding along
along_one a k = rw (mul-one k)

-- single bytes on, where the sum fits
along_ones : (a z : ℕ) → a + z < 2 ^ 64 → along a 1 z ≡ a + z
along_ones a z h = along_is a 1 z (rw (mul-one z) h) ∙ rw (mul-one z)

module _ (l a z : ℕ) (fa : a < 2 ^ 64) (fl : l < 2 ^ 64) where
  -- elements that lie in l bytes do not wrap
  pub plain : (n : ℕ) → Held l a z z n → (k : ℕ) → k < n → along a z k ≡ a + k * z
  plain n h zero m = rw (zero-mul z, add-zero a) (along_none a z fa)
  plain n h (suc k) m =
      let e = plain n h k (omega arith) in
      let w = h k (omega arith) in
      ap (along a z) (sym (add-one k)) ∙ sym (along_next a z k) ∙ mod-eq_of_lt (omega arith) ∙ rw suc-mul (omega arith)

  module _ (n : ℕ) (h : Held l a z z n) (p : 0 < z) where
    -- byte j is one of element j / z
    byte_of : (j : ℕ) → j < n * z → along a 1 j ≡ along a z (j / z) + j % z
    byte_of j m =
        let k : j / z < n = (div-lt_iff_lt-mul p).1 m in
        let e = plain n h (j / z) k in
        let w = h (j / z) k in
        let d = div-add-mod' j z in
        let r = mod-lt j p in
        along_ones a j (omega arith) ∙ omega arith

    pub bytes_held : Held l a 1 1 (n * z)
    bytes_held j m = rw (byte_of j m) (omega (arith, h (j / z) ((div-lt_iff_lt-mul p).1 m), mod-lt j p))

    bytes_fit : n * z < 2 ^ 64
    bytes_fit = by_count n h
      where
        by_count : (n : ℕ) → Held l a z z n → n * z < 2 ^ 64
        by_count zero h = rw (zero-mul z) (omega arith)
        by_count (suc n) h =
            let e = plain (suc n) h n (omega arith) in
            rw suc-mul (omega (arith, h n (omega arith)))

-- m elements of z bytes that lie in l bytes
pub all_lie : (l a z m : ℕ) → a < 2 ^ 64 → l < 2 ^ 64 → Held l a z z m → 0 < m → a + m * z ≤ l
all_lie l a z m fa fl h p =
    let e = plain l a z fa fl m h (m - 1) (omega arith) in
    let s : suc (m - 1) ≡ m = omega arith in
    let v = suc-mul (m - 1) z in
    let w : m * z ≡ (m - 1) * z + z = rw s at v in
    omega (arith, h (m - 1) (omega arith))

pub ones_lie : (l a n : ℕ) → a < 2 ^ 64 → l < 2 ^ 64 → Held l a 1 1 n → 0 < n → a + n ≤ l
ones_lie l a n fa fl h p = rw (mul-one n) at (all_lie l a 1 n fa fl h p)

-- n blocks of `width` bytes side by side, from the first byte on
pub rows_held : (l width n : ℕ) → n * width ≤ l → l < 2 ^ 64 → Held l 0 width width n
rows_held l width n h f i hi =
    let g : i ≤ n = omega arith in
    let k : suc i ≤ n = hi in
    rw (along_is 0 width i (omega (arith, mul-le-mul_right width g))) (omega (arith, mul-le-mul_right width k, suc-mul i width))

-- ---- bytes

-- n elements of z bytes, side by side in source and destination
abbrev pub sided : ℕ → ℕ → List ℕ → ℕ → ℕ → Course
sided at to pad z n = record { at = at; jump = z; to = to; stride = z; size = z; pad = pad; n = n }

module _ (s d : List ℕ) (at to : ℕ) (pad : List ℕ) (fs : length s < 2 ^ 64) where
  -- the first m bytes stored
  abbrev stored : ℕ → List ℕ
  stored m = run_stored (kept_bytes s (sided at to pad 1 m)) to 1 m d

  -- z bytes more are one element
  grow : (m z : ℕ) → along to 1 m + z < 2 ^ 64 → along at 1 m + z ≤ length s
      → stored (m + z) ≡ sets (stored m) (along to 1 m) (take z (drop (along at 1 m) s))
  unfolding run_stored
  grow m zero h g = rw add-zero
  grow m (suc z) h g =
      let et : along to 1 (m + z) ≡ along to 1 m + z = sym (along_on to 1 m z) ∙ along_ones (along to 1 m) z (omega arith) in
      let ea : along at 1 (m + z) ≡ along at 1 m + z = sym (along_on at 1 m z) ∙ along_ones (along at 1 m) z (omega arith) in
      rw (add-suc, et, ea, grow m z (omega arith) (omega arith))
      (sym (copied_one (sets (stored m) (along to 1 m) (take z (drop (along at 1 m) s))) s (along at 1 m + z) (along to 1 m + z) (omega arith))
      ∙ copy_more (stored m) s (along at 1 m) (along to 1 m) z (omega arith)
      ∙ rw add-one)

  -- all are one block
  pub whole : (l m : ℕ) → at < 2 ^ 64 → to < 2 ^ 64 → l < 2 ^ 64 → Held (length s) at 1 1 m → Held l to 1 1 m → stored m ≡ sets d to (take m (drop at s))
  unfolding run_stored
  whole l zero fa ft fl h g = refl
  whole l (suc m) fa ft fl h g =
      let a = ones_lie (length s) at (suc m) fa fs h (omega arith) in
      let b = ones_lie l to (suc m) ft fl g (omega arith) in
      let ea = along_none at 1 fa in
      let et = along_none to 1 ft in
      ap stored (sym (zero-add (suc m))) ∙ grow 0 (suc m) (omega arith) (omega arith) ∙ rw (ea, et)

  pub bytes_run : (l z n : ℕ) → l < 2 ^ 64 → Held (length s) at z z n → Held l to z z n → stored (n * z) ≡ run_stored (kept_bytes s (sided at to pad z n)) to z n d
  unfolding run_stored
  bytes_run l z zero fl h g = rw zero-mul
  bytes_run l z (suc n) fl h g =
      let wa = rw (along_unit at z n) at (h n (omega arith)) in
      let wt = rw (along_unit to z n) at (g n (omega arith)) in
      rw (suc-mul, grow (n * z) z (omega arith) wa, bytes_run l z n fl (λ k m. h k (omega arith)) (λ k m. g k (omega arith)), along_unit to z n, along_unit at z n)

-- ---- a course whose stride is the size, or whose jump is, with that said

pub stride_told : (c : Course) → c.stride ≡ c.size
    → c ≡ record { at = c.at; jump = c.jump; to = c.to; stride = c.size; size = c.size; pad = c.pad; n = c.n }
stride_told c e = λ i. record { at = c.at; jump = c.jump; to = c.to; stride = e i; size = c.size; pad = c.pad; n = c.n }

pub jump_told : (c : Course) → c.jump ≡ c.size
    → c ≡ record { at = c.at; jump = c.size; to = c.to; stride = c.stride; size = c.size; pad = c.pad; n = c.n }
jump_told c e = λ i. record { at = c.at; jump = e i; to = c.to; stride = c.stride; size = c.size; pad = c.pad; n = c.n }

module _ (o : Origin) (d : List ℕ) {c c' : Course} (e : c ≡ c') where
  pub told_asks : Writable d c → Readable o d c → Writable d c' × Readable o d c'
  told_asks w r = (subst (λ (y : Course). Writable d y) e w, subst (λ (y : Course). Readable o d y) e r)

  pub told_copied : {x : ℕ} {d' : List ℕ} → x ≡ along c'.to c'.stride c'.n → d' ≡ run_copied o d c'
      → (x ≡ along c.to c.stride c.n) × (d' ≡ run_copied o d c)
  told_copied p q = (p ∙ ap (λ (y : Course). along y.to y.stride y.n) (sym e), q ∙ ap (λ (y : Course). run_copied o d y) (sym e))

-- ---- a run side by side, as a run of bytes

pub record Block (o : Origin) (d : List ℕ) (c : Course) : Type 0 where
  pub fits : c.n * c.size < 2 ^ 64
  pub asks : Blocked o d c.at c.to (c.n * c.size)
  pub next : (c.to + c.n * c.size) % 2 ^ 64 ≡ along c.to c.stride c.n
  pub copied : element_copied o d c.at c.to (c.n * c.size) ≡ run_copied o d c

-- bytes none of which is another's
ones_apart : (o : Origin) (l m a b n : ℕ) → a < 2 ^ 64 → b < 2 ^ 64 → l < 2 ^ 64 → m < 2 ^ 64 → Held l a 1 1 n → Held m b 1 1 n
    → ((i k : ℕ) → i < n → k < n → BytesApart o (along a 1 i) (along a 1 i + 1) (along b 1 k) (along b 1 k + 1)) → BytesApart o a (a + n) b (b + n)
ones_apart (Lent _) l m a b n fa fb fl fm ha hb p = tt
ones_apart Inside l m a b n fa fb fl fm ha hb p = elim (dec_lt a b) [
  | yes x ↦ elim (dec_lt b (a + n)) [
    | yes y ↦
        let i = b - a in
        let e = rw mul-one at (plain l a 1 fa fl n ha i (omega arith)) in
        let f = along_none b 1 fb in
        absurd (⊎_elim {C = ⊥} (λ u. omega arith) (λ u. omega arith) (p i 0 (omega arith) (omega arith)))
    | no y ↦ inl (omega arith)
  ]
  | no x ↦ elim (dec_lt a (b + n)) [
    | yes y ↦
        let i = a - b in
        let e = rw mul-one at (plain m b 1 fb fm n hb i (omega arith)) in
        let f = along_none a 1 fa in
        absurd (⊎_elim {C = ⊥} (λ u. omega arith) (λ u. omega arith) (p 0 i (omega arith) (omega arith)))
    | no y ↦ inr (omega arith)
  ]
]

sided_block : (o : Origin) (d : List ℕ) (at to : ℕ) (pad : List ℕ) (z n : ℕ) → at < 2 ^ 64 → to < 2 ^ 64 → length d < 2 ^ 63
    → Writable d (sided at to pad z n) → Readable o d (sided at to pad z n) → Block o d (sided at to pad z n)
sided_block o d at to pad z n fa ft f w r =
    let p = (element_small z w.sized).0 in
    let v = source_bytes o d in
    let long : length v < 2 ^ 64 = omega (arith, short_source o d r.short f) in
    let room : length d < 2 ^ 64 = omega arith in
    let wh = bytes_held (length d) to z ft room n w.held p in
    let rh = bytes_held (length v) at z fa long n r.held p in
    record {
      fits = bytes_fit (length d) to z ft room n w.held p;
      asks = record {
        read = ones_lie (length v) at (n * z) fa long rh;
        write = ones_lie (length d) to (n * z) ft room wh;
        apart = ones_apart o (length v) (length d) at to (n * z) fa ft long room rh wh
            (λ i k hi hk.
            let ri = mod-lt i p in
            let rk = mod-lt k p in
            rw (byte_of (length v) at z fa long n r.held p i hi, byte_of (length d) to z ft room n w.held p k hk)
            (apart_part o (r.parted (i / z) (k / z) ((div-lt_iff_lt-mul p).1 hi) ((div-lt_iff_lt-mul p).1 hk)) (omega arith) (omega arith) (omega arith) (omega arith)));
      };
      next = along_one to (n * z) ∙ sym (along_unit to z n);
      copied = sym (whole v d at to pad long (length d) (n * z) fa ft room rh wh) ∙ bytes_run v d at to pad long (length d) z n room r.held w.held;
    }

pub block : (o : Origin) (d : List ℕ) (c : Course) → c.at < 2 ^ 64 → c.to < 2 ^ 64 → length d < 2 ^ 63
    → Writable d c → Readable o d c → c.jump ≡ c.size → c.stride ≡ c.size → Block o d c
block o d c fa ft f w r e g =
    let same : c ≡ sided c.at c.to c.pad c.size c.n = λ i. record { at = c.at; jump = e i; to = c.to; stride = g i; size = c.size; pad = c.pad; n = c.n } in
    subst (λ (y : Course). Block o d y) (sym same)
    (sided_block o d c.at c.to c.pad c.size c.n fa ft f (subst (λ (y : Course). Writable d y) same w) (subst (λ (y : Course). Readable o d y) same r))
