-- What is written reads back to the same fields, and what is read and accepted writes back to the same bytes. So equal fields and
-- equal bytes go together, and accepted bytes are the writing of exactly one tensor record and configuration. Assumes nothing.
use Prim.Native.Nat.{ℕ, zero, suc, ◌+◌, ◌*◌, ◌^◌, ◌≤◌, ◌<◌}
use native.Mathlib.Nat.{not-suc-le-zero, pow-le-pow_right}
use native.Mathlib.Omega.{arith}
use mathlib.Core.Path.{◌≡◌, refl, sym, ap, ap₂, subst, subst⁻¹, ◌∙◌}
use mathlib.Core.Logic.{⊎_elim}
use mathlib.Core.Bool.{Bool, true, false, cond, not}
use mathlib.Core.List.{List, [], ◌∷◌, ◌++◌}
use borrow.Author.Tests.{eqb-true, eq-eqb, le-ltb, not-false}
use lib.Dec.{eqb}
use lib.ListN.{length, get_or, take, drop, length-take, length-drop, drop_of_length-le, take-append-drop}
use lib.Seq.{take_all, take-add}
use Rattle.plane.specs.declared.Tensor.{Tensor}
use Rattle.plane.specs.declared.Config.{Config}
use Rattle.plane.specs.Arrays.{at, sum, some}
use Rattle.plane.specs.Settings.{array_of}
use Rattle.plane.proofs.Arrays.{array_at, is_array}
use Rattle.plane.proofs.Configs.{same_config}
use Rattle.plane.proofs.Numbers.{length_little}
use Rattle.faults.proofs.Bools.{either_clear}
use Rattle.faults.proofs.Faults.{status, or_clear}
use Rattle.faults.proofs.Chains.{unbroken, unbroken_accepts}
use Rattle.record.specs.declared.Reading.{Reading}
use Rattle.plane.specs.Numbers.{little, number}
use Rattle.record.specs.Layout.{part, consecutive, twos_numbers, record_length, fill_width, length_of, version_by_length, version_for, version_in, rank_in, size_in, fill_in, head_bytes, group_count, group, width, start, four_bytes}
use Rattle.record.specs.Records.{group_in, tensor_in, config_in, record_bytes, length_in, bad_length, bad_mark, bad_version, fields_rules, fields_fault, read_rules, read_fault, write_fault, reading, read_of, written_room}
use Rattle.record.specs.RoundTrip.{InRange, Fits, Bytes, OneWriting, ReadBack, WriteBack, ReadLength, SameFieldsSameBytes, AcceptedOnce}
use Rattle.record.proofs.Parts.{part_cons, length_part, part_append, part_left, part_part, sum_step, sum_const, consecutive_same, part_consecutive, consecutive_parts}
use Rattle.record.proofs.Digits.{bytes_part, number_little, little_number, number_fits, length_four, head_is}
use Rattle.record.proofs.TwosComplement.{in_range, numbers_at, words_length, numbers_back, words_back}
use Rattle.record.proofs.Laying.{length_before, length_record}
use Rattle.record.proofs.Lengths.{two_lengths, fill_none, long_enough, length_again, by_version, version_plain, version_filled, version_again, length_right}
use Rattle.record.proofs.Fields.{fill_passed}
use Rattle.record.proofs.Answers.{read-fields, read-given, read-status, write-fields, room-written}

-- the bytes of group k
four : ℕ → ℕ
four k = 4 * width k

-- entry d of a group of four numbers of w bytes ends within the group
within : (d w : ℕ) → d < 4 → d * w + w ≤ 4 * w
within d w h =
    let e = sum_step 4 d (λ _. w) h in
    let p = sum_const d w in
    let q = sum_const 4 w in
    omega arith

-- group k ends where the groups end, or before
group_end : (k : ℕ) → k < group_count → start k + 4 * width k ≤ record_length
unfolding start sum four
group_end k h = let e = sum_step group_count k four h in omega arith

-- ---- a. Fields written come back

module _ (t : Tensor) (c : Config) (f : Fits t c) where
  entry_back : (k d : ℕ) → k < group_count → d < 4 → number (part (start k + d * width k) (width k) (record_bytes t c)) ≡ at (group t c k) d
  unfolding record_bytes little start four
  entry_back k d h q =
      let w = width k in
      let xs = group t c k in
      let s = sum k four in
      let heads = head_bytes (version_for c) t.rank t.element_size in
      let all = consecutive group_count (λ j. four_bytes (width j) (group t c j)) in
      let place : start k + d * w ≡ length heads + (s + d * w) = omega arith in
      let same : d * w ≡ sum d (λ _. w) = sym (sum_const d w) in
      let ends = group_end k h in
      let i = within d w q in
      let long = length_before t c in
      ap number
      (part_left (heads ++ all) (little (fill_width (version_for c)) c.fill) (start k + d * w) w (omega arith) ∙
      ap (λ (p : ℕ). part p w (heads ++ all)) place ∙
      part_append heads all (s + d * w) w ∙
      sym (part_part s (4 * w) (d * w) w all (within d w q)) ∙
      ap (part (d * w) w) (part_consecutive group_count (λ j. four_bytes (width j) (group t c j)) four k (λ j _. length_four (width j) (group t c j)) h) ∙
      ap (λ (p : ℕ). part p w (four_bytes w xs)) same ∙
      part_consecutive 4 (λ j. little w (at xs j)) (λ _. w) d (λ j _. length_little w (at xs j)) q) ∙
      number_little w (at xs d) (f.small k d h q)

  group_back : (k : ℕ) → k < group_count → group_in (record_bytes t c) k ≡ group t c k
  group_back k h =
      sym (is_array 0 (group t c k) (λ d. number (part (start k + d * width k) (width k) (record_bytes t c))) (f.long k h) (λ d q. sym (entry_back k d h q)))

  strides_back : twos_numbers (group_in (record_bytes t c) 1) ≡ t.stride
  strides_back =
      let n = sym (words_length t.stride) ∙ f.long 1 (omega arith) in
      ap twos_numbers (group_back 1 (omega arith)) ∙ numbers_back t.stride (λ d q. f.strides d (omega arith))

  tensor_back : tensor_in (record_bytes t c) ≡ t
  unfolding tensor_in record_bytes little
  tensor_back =
      λ i. record { rank = t.rank; element_size = t.element_size; shape = group_back 0 (omega arith) i; stride = strides_back i }

  fill_fits : c.fill < 256 ^ fill_width (version_for c)
  fill_fits = by_test (eqb c.fill 0) refl
    where
      by_test : (b : Bool) → eqb c.fill 0 ≡ b → c.fill < 256 ^ fill_width (cond b 1 2)
      by_test true e = let z = eqb-true c.fill 0 e in omega arith
      by_test false e = f.fill

  fill_back : fill_in (record_bytes t c) ≡ c.fill
  unfolding record_bytes
  fill_back =
      let w = fill_width (version_for c) in
      let before = head_bytes (version_for c) t.rank t.element_size ++ consecutive group_count (λ j. four_bytes (width j) (group t c j)) in
      let place : record_length ≡ length before + 0 = let long = length_before t c in omega arith in
      let short : w ≤ 4 = by_version c (λ v. fill_width v ≤ 4) (omega arith) (omega arith) in
      ap number
      (ap (λ (p : ℕ). part p 4 (before ++ little w c.fill)) place ∙
      part_append before (little w c.fill) 0 4 ∙
      take_all 4 (little w c.fill) (let long = length_little w c.fill in omega arith)) ∙
      number_little w c.fill fill_fits

  config_back : config_in (record_bytes t c) ≡ c
  unfolding config_in
  config_back =
      same_config _ (array_of c)
      (λ k h. group_back (2 + k) (omega arith) ∙ ap (group t c) (let z : 2 + k ≡ suc (suc k) = omega arith in z))
      fill_back

  mark_back : bad_mark (record_bytes t c) ≡ false
  unfolding record_bytes some
  mark_back = refl

  -- the version that is written is that of the length
  version_is : version_by_length (length (record_bytes t c)) ≡ version_for c
  version_is = ap version_by_length (length_record t c) ∙ version_again c

  version_in_lem : version_in (record_bytes t c) ≡ version_for c
  unfolding record_bytes little
  version_in_lem = number_little 2 (version_for c) (by_version c (λ v. v < 256 ^ 2) (omega arith) (omega arith))

  version_back : bad_version (record_bytes t c) ≡ false
  version_back = ap not (eq-eqb _ _ (version_in_lem ∙ sym version_is))

  -- a record is judged as its fields are
  fault_back : read_fault (record_bytes t c) ≡ fields_fault (version_for c) t c
  fault_back =
      read-fields (record_bytes t c) (ap bad_length (length_record t c) ∙ length_right c) mark_back version_back ∙
      (λ i. fields_fault (version_is i) (tensor_back i) (config_back i))

  -- and that of accepted fields reads as they are
  pub record_back : (fields_fault (version_for c) t c).status ≡ 0 → read_of (record_bytes t c) ≡ reading t c
  record_back z = read-given (record_bytes t c) (status fault_back ∙ z) ∙ ap₂ reading tensor_back config_back

-- the theorem: what is written reads back
pub read_back : ReadBack
unfolding write_fault fields_fault
read_back t c f room z = ap read_of (room-written t c room z) ∙ record_back t c f (or_clear _ _ z).1

-- ---- b. Bytes read and accepted come back

ten_at : {A : Type 0} (f : ℕ → A) (z : A) (k : ℕ) → k < 10 → get_or (f 0 ∷ f 1 ∷ f 2 ∷ f 3 ∷ f 4 ∷ f 5 ∷ f 6 ∷ f 7 ∷ f 8 ∷ f 9 ∷ []) k z ≡ f k
ten_at f z zero h = refl
ten_at f z (suc zero) h = refl
ten_at f z (suc (suc zero)) h = refl
ten_at f z (suc (suc (suc zero))) h = refl
ten_at f z (suc (suc (suc (suc zero)))) h = refl
ten_at f z (suc (suc (suc (suc (suc zero))))) h = refl
ten_at f z (suc (suc (suc (suc (suc (suc zero)))))) h = refl
ten_at f z (suc (suc (suc (suc (suc (suc (suc zero))))))) h = refl
ten_at f z (suc (suc (suc (suc (suc (suc (suc (suc zero)))))))) h = refl
ten_at f z (suc (suc (suc (suc (suc (suc (suc (suc (suc zero))))))))) h = refl
ten_at f z (suc (suc (suc (suc (suc (suc (suc (suc (suc (suc k)))))))))) h = absurd (let l : k < 0 = omega arith in not-suc-le-zero l)

module _ (bs : List ℕ) (b : Bytes bs) (l : record_length ≤ length bs) where
  group_ends : (k : ℕ) → k < group_count → start k + 4 * width k ≤ length bs
  group_ends k h = let e = group_end k h in omega arith

  -- an entry fits its bytes
  entry_small : (k d : ℕ) → k < group_count → d < 4 → at (group_in bs k) d < 256 ^ width k
  entry_small k d h q =
      let w = width k in
      let p = start k + d * w in
      let e = group_ends k h in
      let i = within d w q in
      let n = length_part p w bs (omega arith) in
      let y : number (part p w bs) < 256 ^ w = subst (λ (m : ℕ). number (part p w bs) < 256 ^ m) n (number_fits (part p w bs) (bytes_part bs b p w)) in
      rw (array_at (λ j. number (part (start k + j * w) w bs)) 0 d q) y

  -- the groups of the fields that are read are those that stand there: strides are words again
  group_in_lem : (k : ℕ) → k < group_count → group (tensor_in bs) (config_in bs) k ≡ group_in bs k
  unfolding tensor_in config_in
  group_in_lem k h =
      let g = group_in bs in
      ap (λ (xs : List ℕ). get_or (g 0 ∷ xs ∷ g 2 ∷ g 3 ∷ g 4 ∷ g 5 ∷ g 6 ∷ g 7 ∷ g 8 ∷ g 9 ∷ []) k []) (words_back (g 1) (λ d q. entry_small 1 d (omega arith) q)) ∙
      ten_at g [] k h

  -- a group's bytes are where it was read
  entry_bytes : (k d : ℕ) → k < group_count → d < 4 → little (width k) (at (group_in bs k) d) ≡ part (start k + d * width k) (width k) bs
  entry_bytes k d h q =
      let w = width k in
      let p = start k + d * w in
      let g : ℕ → ℕ = λ j. number (part (start k + j * w) w bs) in
      let e = group_ends k h in
      let i = within d w q in
      let n = length_part p w bs (omega arith) in
      ap (little w) (array_at g 0 d q) ∙ ap (λ (m : ℕ). little m (g d)) (sym n) ∙ little_number (part p w bs) (bytes_part bs b p w)

  group_bytes : (k : ℕ) → k < group_count → four_bytes (width k) (group_in bs k) ≡ part (start k) (4 * width k) bs
  group_bytes k h =
      let w = width k in
      consecutive_same 4 _ (λ d. part (start k + sum d (λ _. w)) w bs)
      (λ d q. entry_bytes k d h q ∙ ap (λ (m : ℕ). part (start k + m) w bs) (sym (sum_const d w))) ∙
      consecutive_parts 4 (start k) (λ _. w) bs ∙ ap (λ (m : ℕ). part (start k) m bs) (sum_const 4 w)

  groups_bytes : consecutive group_count (λ k. four_bytes (width k) (group (tensor_in bs) (config_in bs) k)) ≡ part 7 124 bs
  unfolding start sum four
  groups_bytes =
      consecutive_same group_count _ (λ k. part (7 + sum k four) (four k) bs)
      (λ k h. ap (four_bytes (width k)) (group_in_lem k h) ∙ group_bytes k h) ∙
      consecutive_parts group_count 7 four bs

  head_bytes_lem : bad_mark bs ≡ false → bad_version bs ≡ false → head_bytes (version_by_length (length bs)) (rank_in bs) (size_in bs) ≡ part 0 7 bs
  head_bytes_lem m v =
      head_is 82 77 86 (version_by_length (length bs)) bs _ b (omega arith) m v
      (sym (part_cons 5 1 bs (omega arith) ∙ ap (λ (l : List ℕ). rank_in bs ∷ l) (part_cons 6 0 bs (omega arith))))

  before_bytes : bad_mark bs ≡ false → bad_version bs ≡ false → head_bytes (version_by_length (length bs)) (rank_in bs) (size_in bs) ++ consecutive group_count (λ k. four_bytes (width k) (group (tensor_in bs) (config_in bs) k)) ≡ take record_length bs
  before_bytes m v = ap₂ (λ (x y : List ℕ). x ++ y) (head_bytes_lem m v) groups_bytes ∙ sym (take-add 7 124 bs)

  fits_read : Fits (tensor_in bs) (config_in bs)
  unfolding tensor_in config_in
  fits_read = record {
    rank = b 5;
    element = b 6;
    long = λ k h. ap length (group_in_lem k h);
    small = λ k d h q. subst⁻¹ (λ (xs : List ℕ). at xs d < 256 ^ width k) (group_in_lem k h) (entry_small k d h q);
    strides = λ d q. subst⁻¹ InRange (numbers_at (group_in bs 1) d) (in_range (at (group_in bs 1) d) (entry_small 1 d (omega arith) q));
    fill = fill;
  }
    where
      fill : (config_in bs).fill < 256 ^ 4
      fill =
          let p = part record_length 4 bs in
          let n : length p ≤ 4 = simp length-take (omega arith) in
          let m = number_fits p (bytes_part bs b record_length 4) in
          let y : 256 ^ length p ≤ 256 ^ 4 = pow-le-pow_right (omega arith) n in
          omega arith

-- the bytes of the fill are where it was read
fill_bytes : (bs : List ℕ) → Bytes bs → bad_length (length bs) ≡ false → little (fill_width (version_by_length (length bs))) (fill_in bs) ≡ drop record_length bs
unfolding little
fill_bytes bs b h =
    ⊎_elim
    (λ n. ap (λ (m : ℕ). little (fill_width (version_by_length m)) (fill_in bs)) n ∙ sym (drop_of_length-le bs {i = record_length} (omega arith)))
    (λ n.
    let p = part record_length 4 bs in
    let l = length_part record_length 4 bs (omega arith) in
    let r = length-drop record_length bs in
    ap (λ (m : ℕ). little (fill_width (version_by_length m)) (fill_in bs)) n ∙
    ap (λ (m : ℕ). little m (number p)) (sym l) ∙ little_number p (bytes_part bs b record_length 4) ∙
    take_all 4 (drop record_length bs) (omega arith))
    (two_lengths (length bs) h)

-- what an accepted reading has passed
record Passed (bs : List ℕ) : Type 0 where
  long : bad_length (length bs) ≡ false
  mark : bad_mark bs ≡ false
  version : bad_version bs ≡ false
  fields : (fields_fault (version_by_length (length bs)) (tensor_in bs) (config_in bs)).status ≡ 0

passed : (bs : List ℕ) → (read_fault bs).status ≡ 0 → Passed bs
unfolding read_fault fields_fault
passed bs z =
    let u = unbroken (read_rules bs) (omega arith) z in
    record {
      long = u.0;
      mark = u.1.0;
      version = u.1.1.0;
      fields = unbroken_accepts (fields_rules (version_by_length (length bs)) (tensor_in bs) (config_in bs)) u.1.1.1;
    }

-- the version that is written of what was read is the one that was read
version_same : (bs : List ℕ) → Passed bs → version_for (config_in bs) ≡ version_by_length (length bs)
unfolding config_in
version_same bs p =
    ⊎_elim
    (λ n. version_plain (config_in bs) (fill_none bs n) ∙ sym (ap version_by_length n))
    (λ n.
    let z = sym (status (ap (λ (m : ℕ). fields_fault (version_by_length m) (tensor_in bs) (config_in bs)) n)) ∙ p.fields in
    let e = (either_clear (eqb (fill_in bs) 0) _ (fill_passed (tensor_in bs) (config_in bs) z)).0 in
    version_filled (config_in bs) e ∙ sym (ap version_by_length n))
    (two_lengths (length bs) p.long)

-- the bytes that were read are the record of their fields
bytes_back : (bs : List ℕ) → Bytes bs → Passed bs → record_bytes (tensor_in bs) (config_in bs) ≡ bs
unfolding record_bytes tensor_in config_in
bytes_back bs b p =
    ap (λ (v : ℕ). head_bytes v (rank_in bs) (size_in bs) ++ consecutive group_count (λ k. four_bytes (width k) (group (tensor_in bs) (config_in bs) k)) ++ little (fill_width v) (fill_in bs)) (version_same bs p) ∙
    ap₂ (λ (x y : List ℕ). x ++ y) (before_bytes bs b (long_enough (length bs) p.long) p.mark p.version) (fill_bytes bs b p.long) ∙
    take-append-drop record_length bs

-- the theorem: what is read and accepted is accepted by a write too, and written over any room that is as long gives the bytes
pub write_back : WriteBack
write_back bs room b z l =
    let y = sym (read-status bs) ∙ z in
    let p = passed bs y in
    let g = sym (read-given bs y) in
    let v = version_same bs p in
    let e = write-fields (tensor_in bs) (config_in bs) (length room) (l ∙ sym (ap length_of v ∙ length_again (length bs) p.long)) in
    let a = status (e ∙ ap (λ (v : ℕ). fields_fault v (tensor_in bs) (config_in bs)) v) ∙ p.fields in
    subst (λ (r : Reading). ((write_fault r.tensor r.config (length room)).status ≡ 0) × (written_room r.tensor r.config room ≡ bs)) g
    (a, room-written (tensor_in bs) (config_in bs) room a ∙ bytes_back bs b p)

-- the theorem: its first bytes tell how long it is
pub read_length : ReadLength
unfolding length_in
read_length bs n h z =
    let p = passed bs (sym (read-status bs) ∙ z) in
    let l = long_enough (length bs) p.long in
    let m : 5 ≤ length (take n bs) = simp length-take (omega arith) in
    let v : version_in bs ≡ version_by_length (length bs) = eqb-true _ _ (not-false _ p.version) in
    rw (le-ltb (length (take n bs)) 5 m, part_part 0 n 3 2 bs h, v) (length_again (length bs) p.long)

-- ---- c. Equal fields and equal bytes go together

pub same_fields_same_bytes : SameFieldsSameBytes
same_fields_same_bytes t c t' c' f f' = (
  λ e. (sym (tensor_back t c f) ∙ ap tensor_in e ∙ tensor_back t' c' f', sym (config_back t c f) ∙ ap config_in e ∙ config_back t' c' f'),
  λ e. ap₂ record_bytes e.0 e.1,
)

-- a read accepts exactly the bytes that are one writing
pub accepted_once : AcceptedOnce
accepted_once bs b = (
  λ z. once (sym (read-status bs) ∙ z),
  λ w. subst (λ (l : List ℕ). (read_of l).status ≡ 0) w.is (ap (λ (r : Reading). r.status) (record_back w.tensor w.config w.fits w.accepts)),
)
  where
    once : (read_fault bs).status ≡ 0 → OneWriting bs
    once y =
        let p = passed bs y in
        let f = fits_read bs b (long_enough (length bs) p.long) in
        let e = bytes_back bs b p in record {
          tensor = tensor_in bs;
          config = config_in bs;
          fits = f;
          accepts = status (ap (λ (v : ℕ). fields_fault v (tensor_in bs) (config_in bs)) (version_same bs p)) ∙ p.fields;
          is = e;
          only = λ t c g q. (same_fields_same_bytes t c (tensor_in bs) (config_in bs) g f).0 (q ∙ sym e);
        }
