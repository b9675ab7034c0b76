-- A patch, some rows at a time; and with rows and columns exchanged. Assumes nothing.
use Rattle.std.proofs.Common.{◌≡◌, ℕ, ◌+◌, ◌%◌, ◌^◌, ◌<◌, ◌≤◌, List, length, take, drop, sym, refl, ap, ◌∙◌, inl, inr, ⊎_elim, add-one, arith}
use Rattle.mover.specs.declared.patches.Patch.{Patch}
use Rattle.mover.specs.declared.elements.Origin.{Origin}
use Rattle.mover.specs.declared.elements.Origin.TheVariants.{Lent, Inside}
use Rattle.mover.specs.Private.Elements.{source_bytes, padding}
use Rattle.mover.specs.Private.Adding.{along}
use Rattle.mover.specs.Private.Runs.{run_stored, kept_bytes, run_copied, run_padded, Readable, Writable}
use Rattle.mover.specs.Private.Patches.{rows_stored, patch_place, patch_home, patch_bytes, patch_stored, patch_copied, patch_padded, swapped_of, patch_row, PatchFits, PatchReads}
use Rattle.mover.proofs.Bytes.{length_take_most, bytes_same}
use Rattle.mover.proofs.Places.{still_held}
use Rattle.mover.proofs.Adding.{along_fits, along_none, along_next, along_on}
use Rattle.mover.proofs.Blocks.{Block, block}
use Rattle.mover.proofs.Crossing.{run_same, rows_same, length_rows, rows_out, rows_add, rows_columns, along_cross}

-- ---- rows and columns exchanged

module _ (p : Patch) (i j : ℕ) where
  swap_place : patch_place (swapped_of p) i j ≡ patch_place p j i
  swap_place = along_cross p.to p.stride p.row_stride i j

  swap_home : patch_home (swapped_of p) i j ≡ patch_home p j i
  swap_home = along_cross p.at p.jump p.row_jump i j

pub swap_fits : {d : List ℕ} {p : Patch} → PatchFits d p → PatchFits d (swapped_of p)
swap_fits {d} {p} w = record {
  sized = w.sized;
  held = λ i j hi hj. rw (swap_place p i j) (w.held j i hj hi);
  off = λ i j k l hi hk hj hl ne. rw (swap_place p i j, swap_place p k l) (w.off j i l k hj hl hi hk (λ e. ne (e.1, e.0)));
}

pub swap_reads : {o : Origin} {d : List ℕ} {p : Patch} → PatchReads o d p → PatchReads o d (swapped_of p)
swap_reads {o} {d} {p} r = record {
  short = r.short;
  held = λ i j hi hj. rw (swap_home p i j) (r.held j i hj hi);
  parted = λ i j k l hi hj hk hl. rw (swap_home p i j, swap_place p k l) (r.parted j i l k hj hi hl hk);
}

-- elements no longer than the patch's size may be stored in either order
swap_stored : {d : List ℕ} {p : Patch} (e : ℕ → ℕ → List ℕ) → ((i j : ℕ) → length (e i j) ≤ p.size) → PatchFits d p
    → patch_stored (λ j i. e i j) (swapped_of p) d ≡ patch_stored e p d
swap_stored {d} {p} e short w =
    sym (rows_columns e p.to p.row_stride p.stride p.rows p.columns d
    (λ i j k l hi hk hj hl ne.
    let x = short i j in
    let y = short k l in
    ⊎_elim (λ m. inl (omega arith)) (λ m. inr (omega arith)) (w.off i j k l hi hk hj hl ne)))

pub swap_copied : (o : Origin) {d : List ℕ} {p : Patch} → PatchFits d p → patch_copied o d (swapped_of p) ≡ patch_copied o d p
swap_copied o {d} {p} w =
    rows_same (patch_bytes (source_bytes o d) (swapped_of p)) (λ j i. patch_bytes (source_bytes o d) p i j) p.to p.stride p.row_stride p.rows p.columns d
    (λ i j hi hj. rw (swap_home p i j))
    ∙ swap_stored (patch_bytes (source_bytes o d) p) (λ i j. length_take_most p.size _) w

pub swap_padded : {d : List ℕ} {p : Patch} → PatchFits d p → patch_padded d (swapped_of p) ≡ patch_padded d p
swap_padded {d} {p} w = swap_stored (λ i j. padding p.size p.pad) (λ i j. length_take_most p.size _) w

-- ---- padding: k rows are stored, and the next one goes to `to`

pub record Padded (d₀ : List ℕ) (p : Patch) (d : List ℕ) (to k : ℕ) : Type 0 where
  pub within : k ≤ p.rows
  pub place : to ≡ along p.to p.row_stride k
  pub bytes : d ≡ rows_stored (λ i j. padding p.size p.pad) p.to p.row_stride p.stride p.columns k d₀

pub pads_start : (d : List ℕ) (p : Patch) → p.to < 2 ^ 64 → Padded d p d p.to 0
unfolding rows_stored
pads_start d p f = record { within = omega arith; place = sym (along_none p.to p.row_stride f); bytes = refl }

module _ {d₀ : List ℕ} {p : Patch} {d : List ℕ} {to k : ℕ} (a : Padded d₀ p d to k) (w : PatchFits d₀ p) where
  pub pads_next : (at : ℕ) {to' : ℕ} {d' : List ℕ} → k < p.rows → d' ≡ run_padded d (patch_row p at to) → to' ≡ (to + p.row_stride) % 2 ^ 64 → Padded d₀ p d' to' (k + 1)
  unfolding rows_stored
  pads_next at h e t = record {
    within = omega arith;
    place = t ∙ ap (λ (y : ℕ). (y + p.row_stride) % 2 ^ 64) a.place ∙ along_next p.to p.row_stride k;
    bytes = e ∙ rw (add-one, a.place, a.bytes);
  }

  pub pads_end : p.rows ≤ k → d ≡ patch_padded d₀ p
  pads_end h = let v = a.within in let q : k ≡ p.rows = omega arith in a.bytes ∙ rw q

-- ---- kept elements: k rows are stored; the next one stands at `at` and goes to `to`

-- while rows are stored, what is still to be read is as it was
rows_keep : (o : Origin) (d v : List ℕ) (p : Patch) (k i j : ℕ) → PatchReads o d p → k ≤ p.rows → i < p.rows → j < p.columns
    → patch_bytes (source_bytes o (rows_stored (patch_bytes v p) p.to p.row_stride p.stride p.columns k d)) p i j
    ≡ patch_bytes (source_bytes o d) p i j
rows_keep (Lent s) d v p k i j r w hi hj = refl
rows_keep Inside d v p k i j r w hi hj =
    bytes_same (rows_stored (patch_bytes v p) p.to p.row_stride p.stride p.columns k d) d (patch_home p i j) p.size
    (length_rows (patch_bytes v p) p.to p.row_stride p.stride p.columns k d)
    (λ x l g.
    rows_out (patch_bytes v p) p.to p.row_stride p.stride p.columns k d x
    (λ m n q t.
    let z = length_take_most p.size (drop (patch_home p m n) v) in
    ⊎_elim (λ a. inl (omega arith)) (λ a. inr (omega arith)) (r.parted i j m n hi hj (omega arith) t)))

pub record Rowed (o : Origin) (d₀ : List ℕ) (p : Patch) (d : List ℕ) (at to k : ℕ) : Type 0 where
  pub within : k ≤ p.rows
  pub home : at ≡ along p.at p.row_jump k
  pub place : to ≡ along p.to p.row_stride k
  pub bytes : d ≡ rows_stored (patch_bytes (source_bytes o d₀) p) p.to p.row_stride p.stride p.columns k d₀

pub rows_start : (o : Origin) (d : List ℕ) (p : Patch) → p.at < 2 ^ 64 → p.to < 2 ^ 64 → Rowed o d p d p.at p.to 0
unfolding rows_stored
rows_start o d p fa ft = record {
  within = omega arith;
  home = sym (along_none p.at p.row_jump fa);
  place = sym (along_none p.to p.row_stride ft);
  bytes = refl;
}

-- n rows of a patch, the first at `at` and to `to`
abbrev pub some_rows : Patch → ℕ → ℕ → ℕ → Patch
some_rows p at to n = record {
  at = at;
  to = to;
  size = p.size;
  pad = p.pad;
  rows = n;
  row_jump = p.row_jump;
  row_stride = p.row_stride;
  columns = p.columns;
  jump = p.jump;
  stride = p.stride;
}

module _ {o : Origin} {d₀ : List ℕ} {p : Patch} {d : List ℕ} {at to k : ℕ} (a : Rowed o d₀ p d at to k) (w : PatchFits d₀ p) (r : PatchReads o d₀ p) where
  pub rows_length : length d ≡ length d₀
  rows_length = ap length a.bytes ∙ length_rows (patch_bytes (source_bytes o d₀) p) p.to p.row_stride p.stride p.columns k d₀

  its_place : (i j : ℕ) → along (along to p.row_stride i) p.stride j ≡ patch_place p (k + i) j
  its_place i j = ap (λ (y : ℕ). along y p.stride j) (rw a.place (along_on p.to p.row_stride k i))

  its_home : (i j : ℕ) → along (along at p.row_jump i) p.jump j ≡ patch_home p (k + i) j
  its_home i j = ap (λ (y : ℕ). along y p.jump j) (rw a.home (along_on p.at p.row_jump k i))

  -- what is read now is what was there
  its_bytes : (i j : ℕ) → i < p.rows → j < p.columns → patch_bytes (source_bytes o d) p i j ≡ patch_bytes (source_bytes o d₀) p i j
  its_bytes i j hi hj = rw a.bytes (rows_keep o d₀ (source_bytes o d₀) p k i j r a.within hi hj)

  -- the next row
  module _ (h : k < p.rows) where
    pub row_writes : Writable d (patch_row p at to)
    row_writes = record { sized = w.sized; held = λ j l. rw a.place (omega (arith, rows_length, w.held k j h l)) }

    pub row_reads : Readable o d (patch_row p at to)
    row_reads = record {
      short = r.short;
      held = λ j l. rw a.home (still_held o d₀ d rows_length (r.held k j h l));
      parted = λ j l hj hl. rw (a.home, a.place) (r.parted k j k l h hj h hl);
    }

    pub rows_next : {at' to' : ℕ} {d' : List ℕ} → d' ≡ run_copied o d (patch_row p at to)
        → at' ≡ (at + p.row_jump) % 2 ^ 64 → to' ≡ (to + p.row_stride) % 2 ^ 64 → Rowed o d₀ p d' at' to' (k + 1)
    unfolding rows_stored
    rows_next e x y = record {
      within = omega arith;
      home = x ∙ ap (λ (z : ℕ). (z + p.row_jump) % 2 ^ 64) a.home ∙ along_next p.at p.row_jump k;
      place = y ∙ ap (λ (z : ℕ). (z + p.row_stride) % 2 ^ 64) a.place ∙ along_next p.to p.row_stride k;
      bytes =
          e ∙ rw (add-one)
          (ap (λ (z : ℕ). run_stored (kept_bytes (source_bytes o d) (patch_row p at to)) z p.stride p.columns d) a.place
          ∙ run_same (kept_bytes (source_bytes o d) (patch_row p at to)) (patch_bytes (source_bytes o d₀) p k) (along p.to p.row_stride k) p.stride p.columns d
          (λ j l. rw a.home (its_bytes k j h l))
          ∙ ap (run_stored (patch_bytes (source_bytes o d₀) p k) (along p.to p.row_stride k) p.stride p.columns) a.bytes);
    }

    -- where its elements stand side by side in both, it is a run of bytes
    pub row_block : p.jump ≡ p.size → p.stride ≡ p.size → length d₀ < 2 ^ 63 → Block o d (patch_row p at to)
    row_block ej es f =
        block o d (patch_row p at to) (rw a.home (along_fits p.at p.row_jump k)) (rw a.place (along_fits p.to p.row_stride k))
        (omega (arith, rows_length)) row_writes row_reads ej es

  -- the next n rows
  module _ (n : ℕ) (h : k + n ≤ p.rows) where
    pub some_fit : PatchFits d (some_rows p at to n)
    some_fit = record {
      sized = w.sized;
      held = λ i j hi hj. rw (its_place i j) (omega (arith, rows_length, w.held (k + i) j (omega arith) hj));
      off = λ i j m l hi hm hj hl ne.
          rw (its_place i j, its_place m l) (w.off (k + i) j (k + m) l (omega arith) (omega arith) hj hl (λ e. ne (omega (arith, e.0), e.1)));
    }

    pub some_read : PatchReads o d (some_rows p at to n)
    some_read = record {
      short = r.short;
      held = λ i j hi hj. rw (its_home i j) (still_held o d₀ d rows_length (r.held (k + i) j (omega arith) hj));
      parted = λ i j m l hi hj hm hl. rw (its_home i j, its_place m l) (r.parted (k + i) j (k + m) l (omega arith) hj (omega arith) hl);
    }

    pub rows_more : {at' to' : ℕ} {d' : List ℕ} → d' ≡ patch_copied o d (some_rows p at to n)
        → at' ≡ along at p.row_jump n → to' ≡ along to p.row_stride n → Rowed o d₀ p d' at' to' (k + n)
    rows_more e x y = record {
      within = h;
      home = x ∙ rw a.home (along_on p.at p.row_jump k n);
      place = y ∙ rw a.place (along_on p.to p.row_stride k n);
      bytes =
          e
          ∙ rows_same (patch_bytes (source_bytes o d) (some_rows p at to n)) (λ i. patch_bytes (source_bytes o d₀) p (k + i)) to p.row_stride p.stride p.columns n d
          (λ i j hi hj. ap (λ (z : ℕ). take p.size (drop z (source_bytes o d))) (its_home i j) ∙ its_bytes (k + i) j (omega arith) hj)
          ∙ ap (λ (z : ℕ). rows_stored (λ i. patch_bytes (source_bytes o d₀) p (k + i)) z p.row_stride p.stride p.columns n d) a.place
          ∙ ap (rows_stored (λ i. patch_bytes (source_bytes o d₀) p (k + i)) (along p.to p.row_stride k) p.row_stride p.stride p.columns n) a.bytes
          ∙ sym (rows_add (patch_bytes (source_bytes o d₀) p) p.to p.row_stride p.stride p.columns k n d₀);
    }

  pub rows_end : p.rows ≤ k → d ≡ patch_copied o d₀ p
  rows_end h = let v = a.within in let q : k ≡ p.rows = omega arith in a.bytes ∙ rw q
