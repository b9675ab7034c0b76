-- An array, row by row, is a patch: tiles of which rows and columns are exchanged, and pixels taken apart or put together. Assumes nothing.
use Rattle.std.proofs.Common.{◌≡◌, ℕ, zero, suc, ◌+◌, ◌*◌, ◌/◌, ◌%◌, ◌^◌, ◌<◌, ◌≤◌, List, [], length, get_or, take, drop, sym, refl, ap, ◌∙◌, subst, mul-le-mul_right, suc-mul, zero-add, mul-one, arith, length-append, length-drop, length-take-le, get_or-drop, get_or-take, ext_get_or}
use native.Mathlib.Nat.{mod-add-mod}
use native.Mathlib.Decide.{dec_lt}
use lib.Seq.{sets, take-append-le}
use Rattle.plane.specs.Planes.{Sized}
use Rattle.mover.specs.declared.patches.Patch.{Patch}
use Rattle.mover.specs.declared.elements.Origin.{Origin}
use Rattle.mover.specs.Private.Elements.{source_bytes}
use Rattle.mover.specs.Private.Adding.{along}
use Rattle.mover.specs.Private.Runs.{run_stored, kept_bytes, Held}
use Rattle.mover.specs.Private.Patches.{rows_stored, sixteenth_of, rows_in, patch_home, patch_bytes, patch_copied, swapped_of, PatchFits, PatchReads, TurnedRows, SplitRows, MergedRows}
use Rattle.mover.specs.Private.Shuffles.{made, tile_of, split_of, merged_of}
use Rattle.plane.proofs.Bounds.{element_small}
use Rattle.mover.proofs.Bytes.{short_source}
use Rattle.mover.proofs.Adding.{along_fits, along_is}
use Rattle.mover.proofs.Blocks.{sided, whole, bytes_run, bytes_held, plain, all_lie}
use Rattle.mover.proofs.Crossing.{run_same, length_rows, along_cross}
use Rattle.mover.proofs.Shuffled.{length_made, get_d_made}
use Rattle.mover.proofs.Patched.{swap_fits, swap_reads, swap_copied}
use Rattle.mover.proofs.Stepping.{sixteen, sixteenth_some}

-- ---- elements side by side

-- as they stand in t from `at` on, they are one block
pub row_whole : (t : List ℕ) (e : ℕ → List ℕ) (at to z m : ℕ) (d : List ℕ) → 0 < z → length t < 2 ^ 64 → length d < 2 ^ 64 → to < 2 ^ 64
    → at + m * z ≤ length t → Held (length d) to z z m → ((j : ℕ) → j < m → e j ≡ take z (drop (at + j * z) t))
    → run_stored e to z m d ≡ sets d to (take (m * z) (drop at t))
row_whole t e at to z m d p ft fd fo lie held same =
    let fa : at < 2 ^ 64 = omega arith in
    let steps : (j : ℕ) → j < m → along at z j ≡ at + j * z = λ j h.
    let g : j ≤ m = omega arith in
    along_is at z j (omega (arith, mul-le-mul_right z g)) in
    let read : Held (length t) at z z m = λ j h.
    let g : suc j ≤ m = h in
    rw (steps j h) (omega (arith, mul-le-mul_right z g, suc-mul j z)) in
    run_same e (kept_bytes t (sided at to [] z m)) to z m d (λ j h. same j h ∙ ap (λ (y : ℕ). take z (drop y t)) (sym (steps j h)))
    ∙ sym (bytes_run t d at to [] ft (length d) z m fd read held)
    ∙ whole t d at to [] ft (length d) (m * z) fa fo fd (bytes_held (length t) at z fa ft m read p) (bytes_held (length d) to z fo fd m held p)

-- rows of them are blocks
module _ (t : List ℕ) (e : ℕ → ℕ → List ℕ) (to s z m : ℕ) (p : 0 < z) (ft : length t < 2 ^ 64) where
  pub rows_whole : (n : ℕ) (d : List ℕ) → length d < 2 ^ 64 → n * (m * z) ≤ length t → ((i : ℕ) → i < n → Held (length d) (along to s i) z z m)
      → ((i j : ℕ) → i < n → j < m → e i j ≡ take z (drop (i * (m * z) + j * z) t))
      → rows_stored e to s z m n d ≡ run_stored (λ i. take (m * z) (drop (i * (m * z)) t)) to s n d
  unfolding rows_stored run_stored
  rows_whole zero d fd lie held same = refl
  rows_whole (suc n) d fd lie held same =
      let v = suc-mul n (m * z) in
      let l = length_rows e to s z m n d in
      row_whole t (e n) (n * (m * z)) (along to s n) z m (rows_stored e to s z m n d) p ft (omega arith) (along_fits to s n) (omega arith)
      (rw l (held n (omega arith))) (λ j h. same n j (omega arith) h)
      ∙ ap (λ (x : List ℕ). sets x (along to s n) (take (m * z) (drop (n * (m * z)) t)))
      (rows_whole n d fd (omega arith) (λ i h. held i (omega arith)) (λ i j h g. same i j (omega arith) g))

-- ---- bytes of a list, as they stand in an array that was made of it

pub cut_made : (s : List ℕ) (g : ℕ → ℕ) (n h k z : ℕ) → h + z ≤ length s → k + z ≤ n → ((y : ℕ) → y < z → get_or s (h + y) 0 ≡ g (k + y))
    → take z (drop h s) ≡ take z (drop k (made n g))
cut_made s g n h k z ls lk f =
    let m = length_made n g in
    let a : length (take z (drop h s)) ≡ z = length-take-le z (drop h s) (simp length-drop (omega arith)) in
    let b : length (take z (drop k (made n g))) ≡ z = length-take-le z (drop k (made n g)) (simp length-drop (omega arith)) in
    ext_get_or 0 (take z (drop h s)) (take z (drop k (made n g))) (a ∙ sym b)
    (λ y l.
    let i : y < z = omega arith in
    get_or-take z (drop h s) y 0 i ∙ get_or-drop h s y 0 ∙ f y i
    ∙ sym (get_or-take z (drop k (made n g)) y 0 i ∙ get_or-drop k (made n g) y 0 ∙ get_d_made n g (k + y) (omega arith)))

-- how long these arrays are
pub length_tile : (z : ℕ) (s : List ℕ) (at jump : ℕ) → length (tile_of z s at jump) ≡ 256 / z
unfolding tile_of
length_tile z s at jump = length_made (256 / z) _

pub length_split : (s : List ℕ) (at : ℕ) → length (split_of s at) ≡ 96
unfolding split_of
length_split s at = length_made 96 _

pub length_merged : (s : List ℕ) (at jump : ℕ) → length (merged_of s at jump) ≡ 49
unfolding merged_of
length_merged s at jump = length-append (made 48 _) _ ∙ ap (λ (n : ℕ). n + 1) (length_made 48 _)

-- ---- tiles

module _ {o : Origin} {d : List ℕ} {p : Patch} (w : PatchFits d p) (r : PatchReads o d p) (f : length d < 2 ^ 63) where
  source : length (source_bytes o d) < 2 ^ 64
  source = omega (arith, short_source o d r.short f)

  small : 0 < p.size
  small = (element_small p.size w.sized).0

  -- rows whose elements stand side by side
  module _ (e : p.stride ≡ p.size) where
    row_held : (i : ℕ) → i < p.rows → Held (length d) (along p.to p.row_stride i) p.size p.size p.columns
    row_held i hi j hj = rw e at (w.held i j hi hj)

    -- stored from an array in which they stand one after the other
    pub spread : (t : List ℕ) → length t < 2 ^ 64 → p.rows * (p.columns * p.size) ≤ length t
        → ((i j : ℕ) → i < p.rows → j < p.columns → patch_bytes (source_bytes o d) p i j ≡ take p.size (drop (i * (p.columns * p.size) + j * p.size) t))
        → patch_copied o d p ≡ run_stored (λ i. take (p.columns * p.size) (drop (i * (p.columns * p.size)) t)) p.to p.row_stride p.rows d
    spread t ft lie same =
        ap (λ (y : ℕ). rows_stored (patch_bytes (source_bytes o d) p) p.to p.row_stride y p.columns p.rows d) e
        ∙ rows_whole t (patch_bytes (source_bytes o d) p) p.to p.row_stride p.size p.columns small ft p.rows d (omega arith) lie row_held same

    pub rows_lie : 0 < p.columns → (i : ℕ) → i < p.rows → along p.to p.row_stride i + p.columns * p.size ≤ length d
    rows_lie c i hi = all_lie (length d) (along p.to p.row_stride i) p.size p.columns (along_fits p.to p.row_stride i) (omega arith) (row_held i hi) c

  -- columns whose elements stand side by side in the source
  module _ (e : p.row_jump ≡ p.size) where
    column_home : (i j : ℕ) → patch_home p i j ≡ along (along p.at p.jump j) p.size i
    column_home i j = along_cross p.at p.row_jump p.jump i j ∙ ap (λ (y : ℕ). along (along p.at p.jump j) y i) e

    column_held : (j : ℕ) → j < p.columns → Held (length (source_bytes o d)) (along p.at p.jump j) p.size p.size p.rows
    column_held j hj i hi = rw (column_home i j) at (r.held i j hi hj)

    pub columns_lie : 0 < p.rows → Held (length (source_bytes o d)) p.at p.jump (p.rows * p.size) p.columns
    columns_lie c j hj = all_lie (length (source_bytes o d)) (along p.at p.jump j) p.size p.rows (along_fits p.at p.jump j) source (column_held j hj) c

    pub column_plain : (i j : ℕ) → i < p.rows → j < p.columns → patch_home p i j ≡ along p.at p.jump j + i * p.size
    column_plain i j hi hj =
        column_home i j ∙ plain (length (source_bytes o d)) (along p.at p.jump j) p.size (along_fits p.at p.jump j) source p.rows (column_held j hj) i hi

-- byte y of element j of row i, of rows of 16 bytes
record Found (z i j y : ℕ) : Type 0 where
  pub column : (i * 16 + j * z + y) % 16 / z ≡ j
  pub row : (i * 16 + j * z + y) / 16 ≡ i
  pub byte : (i * 16 + j * z + y) % z ≡ y

found : (z : ℕ) → Sized z → (z ≡ 3 → ⊥) → (i j y : ℕ) → j < sixteenth_of z → y < z → Found z i j y
found z h n i j y hj hy =
    let b = element_small z h in
    elim (dec_lt z 2) [
      | yes l ↦ let e : z ≡ 1 = omega arith in one e
      | no l ↦ elim (dec_lt z 3) [
        | yes m ↦ let e : z ≡ 2 = omega arith in two e
        | no m ↦ elim (dec_lt z 4) [
          | yes k ↦ absurd (n (omega arith))
          | no k ↦ let e : z ≡ 4 = omega arith in four e
        ]
      ]
    ]
  where
    one : z ≡ 1 → Found z i j y
    one e =
        let a : j < 16 = rw e at hj in
        let c : y < 1 = rw e at hy in
        rw e (record { column = omega arith; row = omega arith; byte = omega arith })

    two : z ≡ 2 → Found z i j y
    two e =
        let a : j < 8 = rw e at hj in
        let c : y < 2 = rw e at hy in
        rw e (record { column = omega arith; row = omega arith; byte = omega arith })

    four : z ≡ 4 → Found z i j y
    four e =
        let a : j < 4 = rw e at hj in
        let c : y < 4 = rw e at hy in
        rw e (record { column = omega arith; row = omega arith; byte = omega arith })

-- rows of `width` bytes, as they stand in an array
pub rows_in_lem : (t : List ℕ) (width n to stride : ℕ) (d : List ℕ) → n * width < 2 ^ 64
    → run_stored (kept_bytes t (rows_in width n to stride)) to stride n d ≡ run_stored (λ i. take width (drop (i * width) t)) to stride n d
rows_in_lem t width n to stride d f =
    run_same (kept_bytes t (rows_in width n to stride)) (λ i. take width (drop (i * width) t)) to stride n d
    (λ i h.
    let g : i ≤ n = omega arith in
    ap (λ (y : ℕ). take width (drop y t)) (along_is 0 width i (omega (arith, mul-le-mul_right width g)) ∙ zero-add (i * width)))

-- rows and columns exchanged
module _ {o : Origin} {d : List ℕ} {p : Patch} (w : PatchFits d p) (r : PatchReads o d p) (f : length d < 2 ^ 63)
    (k : TurnedRows p) (c : p.columns ≡ sixteenth_of p.size) where
  sixteens : sixteenth_of p.size * p.size ≡ 16
  sixteens = sixteen p.size w.sized k.turns.size

  width : p.columns * p.size ≡ 16
  width = rw c sixteens

  height : p.rows * p.size ≡ 16
  height = rw k.rows sixteens

  some_rows_lem : 0 < p.rows
  some_rows_lem = rw k.rows (sixteenth_some p.size)

  some_columns_lem : 0 < p.columns
  some_columns_lem = rw c (sixteenth_some p.size)

  module _ (z b : ℕ) (ez : p.size ≡ z) (eb : sixteenth_of z ≡ b) where
    columns_are : p.columns ≡ b
    columns_are = c ∙ ap sixteenth_of ez ∙ eb

    rows_are : p.rows ≡ b
    rows_are = k.rows ∙ ap sixteenth_of ez ∙ eb

    pub turned_reads : Held (length (source_bytes o d)) p.at p.jump 16 b
    turned_reads =
        subst (λ (y : ℕ). Held (length (source_bytes o d)) p.at p.jump 16 y) columns_are
        (subst (λ (y : ℕ). Held (length (source_bytes o d)) p.at p.jump y p.columns) height (columns_lie w r f k.turns.jump some_rows_lem))

    pub turned_writes : Held (length d) p.to p.row_stride 16 b
    turned_writes i h =
        let l = rows_lie w r f k.turns.stride some_columns_lem i (rw rows_are h) in
        omega (arith, width)

  -- byte y of element (i, j)
  abbrev byte_of : ℕ → ℕ
  byte_of x = get_or (source_bytes o d) (along p.at p.jump (x % 16 / p.size) + (x / 16 * p.size + x % p.size)) 0

  turned_byte : (i j y : ℕ) → i < p.rows → j < p.columns → y < p.size → get_or (source_bytes o d) (patch_home p i j + y) 0 ≡ byte_of (i * 16 + j * p.size + y)
  turned_byte i j y hi hj hy =
      let h = found p.size w.sized k.turns.size i j y (rw c at hj) hy in
      let u : patch_home p i j + y ≡ along p.at p.jump j + (i * p.size + y) = omega (arith, column_plain w r f k.turns.jump i j hi hj) in
      rw (h.column, h.row, h.byte) (ap (λ (x : ℕ). get_or (source_bytes o d) x 0) u)

  turned_bytes : (n : ℕ) → p.rows * 16 ≤ n → (i j : ℕ) → i < p.rows → j < p.columns
      → patch_bytes (source_bytes o d) p i j ≡ take p.size (drop (i * (p.columns * p.size) + j * p.size) (made n byte_of))
  turned_bytes n l i j hi hj =
      let a : suc i ≤ p.rows = hi in
      let b : suc j ≤ p.columns = hj in
      let m = mul-le-mul_right 16 a in
      let v = mul-le-mul_right p.size b in
      let x = suc-mul j p.size in
      rw width (cut_made (source_bytes o d) byte_of n (patch_home p i j) (i * 16 + j * p.size) p.size (r.held i j hi hj) (omega (arith, width)) (λ y hy. turned_byte i j y hi hj hy))

  pub turned_is : (b n : ℕ) → p.rows ≡ b → 256 / p.size ≡ n → n ≡ b * 16 → b * 16 < 2 ^ 64 → {t d' : List ℕ} → t ≡ tile_of p.size (source_bytes o d) p.at p.jump
      → d' ≡ run_stored (kept_bytes t (rows_in 16 b p.to p.row_stride)) p.to p.row_stride b d → d' ≡ patch_copied o d p
  unfolding tile_of
  turned_is b n rb en nb fb {t} {d'} et e =
      let t_is : t ≡ made n byte_of = et ∙ ap (λ (m : ℕ). made m byte_of) en in
      let long : length t ≡ b * 16 = ap length t_is ∙ length_made n byte_of ∙ nb in
      let all : p.rows * 16 ≡ b * 16 = ap (λ (x : ℕ). x * 16) rb in
      let lie : p.rows * (p.columns * p.size) ≤ length t = rw width (omega arith) in
      e ∙ rows_in_lem t 16 b p.to p.row_stride d fb
      ∙ sym (
      spread w r f k.turns.stride t (omega arith) lie
      (λ i j hi hj. turned_bytes n (omega arith) i j hi hj ∙ ap (λ (x : List ℕ). take p.size (drop (i * (p.columns * p.size) + j * p.size) x)) (sym t_is))
      ∙ ap (λ (x : ℕ). run_stored (λ i. take x (drop (i * x) t)) p.to p.row_stride p.rows d) width
      ∙ ap (λ (x : ℕ). run_stored (λ i. take 16 (drop (i * 16) t)) p.to p.row_stride x d) rb
      )

-- ---- pixels taken apart

-- i bytes on, and then j times three
thrice : (a i j : ℕ) → along (along a 1 i) 3 j ≡ along a 1 (i + j * 3)
unfolding along
thrice a i j = mod-add-mod (a + i * 1) (2 ^ 64) (j * 3) ∙ ap (λ (y : ℕ). y % 2 ^ 64) (omega arith)

module _ {o : Origin} {d : List ℕ} {p : Patch} (w : PatchFits d p) (r : PatchReads o d p) (f : length d < 2 ^ 63) (fa : p.at < 2 ^ 64)
    (k : SplitRows p) (c : p.columns ≡ 32) where
  pixel_home : (i j : ℕ) → patch_home p i j ≡ along p.at 1 (i + j * 3)
  pixel_home i j = rw (k.row_jump, k.jump) (thrice p.at i j)

  pixel_width : p.columns * p.size ≡ 32
  pixel_width = rw (c, k.size)

  pub split_reads : p.at + 96 ≤ length (source_bytes o d)
  split_reads =
      all_lie (length (source_bytes o d)) p.at 1 96 fa (source w r f)
      (λ x h.
      let e : x % 3 + x / 3 * 3 ≡ x = omega arith in
      let g = r.held (x % 3) (x / 3) (rw k.rows (omega arith)) (rw c (omega arith)) in
      let l = rw (pixel_home (x % 3) (x / 3), e, k.size) at g in
      l)
      (omega arith)

  pub split_writes : Held (length d) p.to p.row_stride 32 3
  split_writes i h =
      let l = rows_lie w r f (k.stride ∙ sym k.size) (rw c (omega arith)) i (rw k.rows h) in
      omega (arith, pixel_width)

  abbrev pixel_of : ℕ → ℕ
  pixel_of x = get_or (source_bytes o d) (p.at + (x % 32 * 3 + x / 32)) 0

  split_bytes : (i j : ℕ) → i < p.rows → j < p.columns
      → patch_bytes (source_bytes o d) p i j ≡ take p.size (drop (i * (p.columns * p.size) + j * p.size) (made 96 pixel_of))
  split_bytes i j hi hj =
      let z = k.size in
      let hr : i < 3 = rw k.rows at hi in
      let hc : j < 32 = rw c at hj in
      let jz : j * p.size ≡ j = rw z (mul-one j) in
      let l = split_reads in
      let h : patch_home p i j ≡ p.at + (i + j * 3) = pixel_home i j ∙ along_is p.at 1 (i + j * 3) (omega (arith, source w r f)) ∙ omega arith in
      rw (pixel_width, jz)
      (cut_made (source_bytes o d) pixel_of 96 (patch_home p i j) (i * 32 + j) p.size (r.held i j hi hj) (omega arith)
      (λ y hy.
      let a : (i * 32 + j + y) % 32 ≡ j = omega arith in
      let b : (i * 32 + j + y) / 32 ≡ i = omega arith in
      rw (a, b) (ap (λ (x : ℕ). get_or (source_bytes o d) x 0) (omega arith))))

  pub split_is : {t d' : List ℕ} → t ≡ split_of (source_bytes o d) p.at
      → d' ≡ run_stored (kept_bytes t (rows_in 32 3 p.to p.row_stride)) p.to p.row_stride 3 d → d' ≡ patch_copied o d p
  unfolding split_of
  split_is {t} {d'} et e =
      let long : length t ≡ 96 = ap length et ∙ length_made 96 pixel_of in
      let lie : p.rows * (p.columns * p.size) ≤ length t = rw (pixel_width, k.rows) (omega arith) in
      e ∙ rows_in_lem t 32 3 p.to p.row_stride d (omega arith)
      ∙ sym (
      spread w r f (k.stride ∙ sym k.size) t (omega arith) lie
      (λ i j hi hj. split_bytes i j hi hj ∙ ap (λ (x : List ℕ). take p.size (drop (i * (p.columns * p.size) + j * p.size) x)) (sym et))
      ∙ ap (λ (x : ℕ). run_stored (λ i. take x (drop (i * x) t)) p.to p.row_stride p.rows d) pixel_width
      ∙ ap (λ (x : ℕ). run_stored (λ i. take 32 (drop (i * 32) t)) p.to p.row_stride x d) k.rows
      )

-- ---- pixels put together

module _ {o : Origin} {d : List ℕ} {p : Patch} (w : PatchFits d p) (r : PatchReads o d p) (f : length d < 2 ^ 63) (ft : p.to < 2 ^ 64)
    (k : MergedRows p) (c : p.columns ≡ 16) where
  -- as rows of three bytes
  turned_fits : PatchFits d (swapped_of p)
  turned_fits = swap_fits w

  turned_reads' : PatchReads o d (swapped_of p)
  turned_reads' = swap_reads r

  three_wide : p.rows * p.size ≡ 3
  three_wide = rw (k.rows, k.size)

  pub merged_reads : Held (length (source_bytes o d)) p.at p.row_jump 16 3
  merged_reads i h =
      let e : p.columns * p.size ≡ 16 = rw (c, k.size) in
      let l = columns_lie turned_fits turned_reads' f (k.jump ∙ sym k.size) (rw c (omega arith)) i (rw k.rows h) in
      omega (arith, e)

  merged_held : Held (length d) p.to 3 3 16
  merged_held i h =
      let l = rows_lie turned_fits turned_reads' f (k.row_stride ∙ sym k.size) (rw k.rows (omega arith)) i (rw c h) in
      let m = rw (k.stride, three_wide) at l in
      m

  pub merged_writes : p.to + 48 ≤ length d
  merged_writes = all_lie (length d) p.to 3 16 ft (omega arith) merged_held (omega arith)

  abbrev merge_of : ℕ → ℕ
  merge_of x = get_or (source_bytes o d) (along p.at p.row_jump (x % 3) + x / 3) 0

  merged_bytes : (i j : ℕ) → i < p.columns → j < p.rows
      → patch_bytes (source_bytes o d) (swapped_of p) i j ≡ take p.size (drop (i * (p.rows * p.size) + j * p.size) (made 48 merge_of))
  merged_bytes i j hi hj =
      let z = k.size in
      let hr : j < 3 = rw k.rows at hj in
      let hc : i < 16 = rw c at hi in
      let jz : j * p.size ≡ j = rw z (mul-one j) in
      let iz : i * p.size ≡ i = rw z (mul-one i) in
      let h = column_plain turned_fits turned_reads' f (k.jump ∙ sym k.size) i j hi hj in
      rw (three_wide, jz)
      (cut_made (source_bytes o d) merge_of 48 (patch_home (swapped_of p) i j) (i * 3 + j) p.size (turned_reads'.held i j hi hj) (omega arith)
      (λ y hy.
      let a : (i * 3 + j + y) % 3 ≡ j = omega arith in
      let b : (i * 3 + j + y) / 3 ≡ i = omega arith in
      rw (a, b) (ap (λ (x : ℕ). get_or (source_bytes o d) x 0) (omega arith))))

  pub merged_is : {t d' : List ℕ} → t ≡ merged_of (source_bytes o d) p.at p.row_jump → d' ≡ sets d p.to (take 48 (drop 0 t)) → d' ≡ patch_copied o d p
  unfolding merged_of
  merged_is {t} {d'} et e =
      let m = length_made 48 merge_of in
      let cut : take 48 (drop 0 t) ≡ take 48 (drop 0 (made 48 merge_of)) = ap (λ (x : List ℕ). take 48 (drop 0 x)) et ∙ take-append-le 48 (made 48 merge_of) _ (omega arith) in
      let lie : p.columns * (p.rows * p.size) ≤ length (made 48 merge_of) = rw (three_wide, c) (omega arith) in
      e ∙ ap (sets d p.to) cut
      ∙ sym (
      sym (swap_copied o w)
      ∙ spread turned_fits turned_reads' f (k.row_stride ∙ sym k.size) (made 48 merge_of) (omega arith) lie merged_bytes
      ∙ ap (λ (x : ℕ). run_stored (λ i. take x (drop (i * x) (made 48 merge_of))) p.to p.stride p.columns d) three_wide
      ∙ ap (λ (x : ℕ). run_stored (λ i. take 3 (drop (i * 3) (made 48 merge_of))) p.to p.stride x d) c
      ∙ ap (λ (x : ℕ). run_stored (λ i. take 3 (drop (i * 3) (made 48 merge_of))) p.to x 16 d) k.stride
      ∙ row_whole (made 48 merge_of) (λ i. take 3 (drop (i * 3) (made 48 merge_of))) 0 p.to 3 16 d (omega arith) (omega arith) (omega arith) ft (omega arith) merged_held
      (λ j h. ap (λ (x : ℕ). take 3 (drop x (made 48 merge_of))) (sym (zero-add (j * 3))))
      )
