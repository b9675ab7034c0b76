-- A record laid out in code, group after group, is the record's bytes. Assumes nothing.
use Prim.Native.Nat.{ℕ, ◌+◌, ◌*◌}
use native.Mathlib.Omega.{arith}
use mathlib.Core.Path.{◌≡◌, refl, sym, ap, ap₂, ◌∙◌}
use mathlib.Core.List.{List, [], ◌++◌, append_assoc}
use lib.ListN.{length, length-append}
use lib.Seq.{sets}
use Rattle.plane.specs.declared.Tensor.{Tensor}
use Rattle.plane.specs.declared.Config.{Config}
use Rattle.plane.specs.Arrays.{sum}
use Rattle.plane.proofs.Numbers.{length_little}
use Rattle.plane.specs.Numbers.{little}
use Rattle.record.specs.Layout.{consecutive, twos_words, group_count, group, width, four_bytes, record_length, fill_width, length_of, version_for, head_bytes}
use Rattle.record.specs.Records.{record_bytes}
use Rattle.record.specs.Private.{tensor_bytes, config_at, config_bytes}
use Rattle.record.proofs.Parts.{Stored, stored_next, sets_next, sets_whole, length_consecutive}
use Rattle.record.proofs.Digits.{length_four}

-- a group stored behind what is stored already
group_next : (l : List ℕ) (i : ℕ) (xs : List ℕ) (w : ℕ) (ys : List ℕ) {n : ℕ} {m o : List ℕ} → Stored l i n xs m → o ≡ sets m (i + n) (four_bytes w ys) → Stored l i (n + 4 * w) (xs ++ four_bytes w ys) o
group_next l i xs w ys s e = stored_next l i xs (four_bytes w ys) (4 * w) s (length_four w ys) e

module _ (l : List ℕ) (v : ℕ) (t : Tensor) where
  tensor_stored : {a b m : List ℕ} → a ≡ sets l 0 (head_bytes v t.rank t.element_size) → b ≡ sets a 7 (four_bytes 4 t.shape) → m ≡ sets b 23 (four_bytes 4 (twos_words t.stride)) → Stored l 0 39 (tensor_bytes v t) m
  unfolding tensor_bytes little
  tensor_stored ea eb em =
      let h = head_bytes v t.rank t.element_size in
      let one = group_next l 0 h 4 t.shape (record { is = ea; long = refl }) eb in
      group_next l 0 (h ++ four_bytes 4 t.shape) 4 (twos_words t.stride) one em

  -- as the code comes to it: w are the words of the strides
  pub tensor_laid : {a b m w : List ℕ} → a ≡ sets l 0 (head_bytes v t.rank t.element_size) → b ≡ sets a 7 (four_bytes 4 t.shape) → w ≡ twos_words t.stride → m ≡ sets b 23 (four_bytes 4 w) → m ≡ sets l 0 (tensor_bytes v t)
  tensor_laid {b = b} ea eb ew em = (tensor_stored ea eb (em ∙ ap (λ (w : List ℕ). sets b 23 (four_bytes 4 w)) ew)).is

module _ (l : List ℕ) (c : Config) {m1 m2 m3 m4 m5 m6 m7 m8 : List ℕ} (e1 : m1 ≡ sets l config_at (four_bytes 4 c.offset)) (e2 : m2 ≡ sets m1 55 (four_bytes 4 c.size)) (e3 : m3 ≡ sets m2 71 (four_bytes 4 c.step)) (e4 : m4 ≡ sets m3 87 (four_bytes 4 c.dst_offset)) (e5 : m5 ≡ sets m4 103 (four_bytes 4 c.dst_stride)) (e6 : m6 ≡ sets m5 119 (four_bytes 1 c.perm)) (e7 : m7 ≡ sets m6 123 (four_bytes 1 c.pre)) (e8 : m8 ≡ sets m7 127 (four_bytes 1 c.post)) where
  pub config_laid : m8 ≡ sets l config_at (config_bytes c)
  unfolding config_bytes consecutive
  config_laid =
      let a = four_bytes 4 c.offset in
      let b = a ++ four_bytes 4 c.size in
      let d = b ++ four_bytes 4 c.step in
      let e = d ++ four_bytes 4 c.dst_offset in
      let f = e ++ four_bytes 4 c.dst_stride in
      let g = f ++ four_bytes 1 c.perm in
      let h = g ++ four_bytes 1 c.pre in
      let s1 : Stored l config_at 16 a m1 = record { is = e1; long = length_four 4 c.offset } in
      let s2 = group_next l config_at a 4 c.size s1 e2 in
      let s3 = group_next l config_at b 4 c.step s2 e3 in
      let s4 = group_next l config_at d 4 c.dst_offset s3 e4 in
      let s5 = group_next l config_at e 4 c.dst_stride s4 e5 in
      let s6 = group_next l config_at f 1 c.perm s5 e6 in
      let s7 = group_next l config_at g 1 c.pre s6 e7 in
      (group_next l config_at h 1 c.post s7 e8).is

regroup : (h a b d e f g k m n p : List ℕ) → h ++ a ++ b ++ (d ++ e ++ f ++ g ++ k ++ m ++ n ++ p) ≡ h ++ (a ++ b ++ d ++ e ++ f ++ g ++ k ++ m ++ n ++ p)
regroup h a b d e f g k m n p = simp append_assoc

module _ (t : Tensor) (c : Config) where
  -- up to the end of the groups
  abbrev before : List ℕ
  before = head_bytes (version_for c) t.rank t.element_size ++ consecutive group_count (λ k. four_bytes (width k) (group t c k))

  pub length_before : length before ≡ record_length
  unfolding little sum
  length_before =
      length-append (head_bytes (version_for c) t.rank t.element_size) (consecutive group_count (λ k. four_bytes (width k) (group t c k))) ∙
      ap (λ (n : ℕ). 7 + n) (length_consecutive group_count (λ k. four_bytes (width k) (group t c k)) (λ k. 4 * width k) (λ k _. length_four (width k) (group t c k)))

  pub length_record : length (record_bytes t c) ≡ length_of (version_for c)
  unfolding record_bytes
  length_record =
      let fill = little (fill_width (version_for c)) c.fill in
      length-append before fill ∙ ap₂ (λ (m n : ℕ). m + n) length_before (length_little (fill_width (version_for c)) c.fill)

  two_pieces : tensor_bytes (version_for c) t ++ config_bytes c ≡ before
  unfolding tensor_bytes config_bytes consecutive
  two_pieces =
      regroup (head_bytes (version_for c) t.rank t.element_size) (four_bytes 4 t.shape) (four_bytes 4 (twos_words t.stride)) (four_bytes 4 c.offset) (four_bytes 4 c.size)
      (four_bytes 4 c.step) (four_bytes 4 c.dst_offset) (four_bytes 4 c.dst_stride) (four_bytes 1 c.perm) (four_bytes 1 c.pre) (four_bytes 1 c.post)

  -- the pieces stored in a room of the record's length
  pub record_laid : (l : List ℕ) {a b d : List ℕ} → length l ≡ length_of (version_for c) → a ≡ sets l 0 (tensor_bytes (version_for c) t) → b ≡ sets a config_at (config_bytes c) → d ≡ sets b record_length (little (fill_width (version_for c)) c.fill) → d ≡ record_bytes t c
  unfolding record_bytes
  record_laid l h ea eb ed =
      let fill = little (fill_width (version_for c)) c.fill in
      let n = (tensor_stored [] (version_for c) t refl refl refl).long in
      let m = length_before in
      ed ∙
      ap (λ (b : List ℕ). sets b record_length fill)
      (eb ∙ ap (λ (a : List ℕ). sets a config_at (config_bytes c)) ea ∙
      sets_next (tensor_bytes (version_for c) t) (config_bytes c) l 0 config_at (omega arith) ∙
      ap (sets l 0) two_pieces) ∙
      sets_next before fill l 0 record_length (omega arith) ∙ sets_whole (record_bytes t c) l (length_record ∙ sym h)
