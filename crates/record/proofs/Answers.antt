-- What read and write come to where a test in code stops them, and where none does. Assumes nothing.
use Prim.Native.Nat.{ℕ}
use native.Mathlib.Decide.{ℕ_discrete}
use native.Mathlib.Omega.{arith}
use mathlib.Core.Path.{◌≡◌, refl, sym, ap, ◌∙◌}
use mathlib.Core.Bool.{Bool, true, false, not}
use mathlib.Core.List.{List}
use borrow.Author.Tests.{eq-eqb, ne_eqb, eqb-true, not-false}
use lib.Dec.{eqb}
use lib.ListN.{length}
use lib.Seq.{sets}
use mir.Syntax.{w16}
use Rattle.std.specs.Prelude.{Result}
use Rattle.plane.specs.declared.Tensor.{Tensor}
use Rattle.plane.specs.declared.Config.{Config}
use Rattle.faults.specs.declared.Fault.{Fault}
use Rattle.faults.specs.Faults.{fault, outcome}
use Rattle.faults.proofs.Faults.{status, given, spared, if_fault_lem, if_none, when_clear, or_clear}
use Rattle.record.specs.declared.Reading.{Reading}
use Rattle.plane.specs.Numbers.{little}
use Rattle.std.specs.Int.{from_le_bytes}
use Rattle.std.specs.List.{starts_with}
use Rattle.record.specs.Layout.{part, mark, version_in, record_length, fill_width, length_of, version_by_length, version_for}
use Rattle.record.specs.Records.{tensor_in, config_in, record_bytes, bad_length, bad_room, bad_mark, bad_version, fields_fault, read_fault, write_rules, write_fault, no_reading, reading, read_of, written_room}
use Rattle.record.specs.Private.{fault_in, tensor_bytes, config_at, config_bytes}
use Rattle.record.proofs.Lengths.{fill_none, long_enough}
use Rattle.record.proofs.Digits.{mark_told, half_is}
use Rattle.record.proofs.Fields.{fault_back}
use Rattle.record.proofs.Laying.{record_laid}

-- ---- read

module _ (bs : List ℕ) where
  pub read-25 : bad_length (length bs) ≡ true → read_fault bs ≡ fault 25 0
  unfolding read_fault fields_fault
  read-25 l = given 25 0 _ _ (omega arith) l

  pub read-26 : bad_length (length bs) ≡ false → bad_mark bs ≡ true → read_fault bs ≡ fault 26 0
  unfolding read_fault fields_fault
  read-26 l m = spared 25 0 _ _ l ∙ given 26 0 _ _ (omega arith) m

  pub read-27 : bad_length (length bs) ≡ false → bad_mark bs ≡ false → bad_version bs ≡ true → read_fault bs ≡ fault 27 0
  unfolding read_fault fields_fault
  read-27 l m v = spared 25 0 _ _ l ∙ spared 26 0 _ _ m ∙ given 27 0 _ _ (omega arith) v

  pub read-fields : bad_length (length bs) ≡ false → bad_mark bs ≡ false → bad_version bs ≡ false → read_fault bs ≡ fields_fault (version_by_length (length bs)) (tensor_in bs) (config_in bs)
  unfolding read_fault fields_fault
  read-fields l m v = spared 25 0 _ _ l ∙ spared 26 0 _ _ m ∙ spared 27 0 _ _ v

  pub read-refused : {f : Fault} {r : Reading} → read_fault bs ≡ f → (f.status ≡ 0 → ⊥) → r ≡ no_reading f → r ≡ read_of bs
  unfolding read_of
  read-refused e h q =
      q ∙ ap no_reading (sym e) ∙ sym (if_fault_lem (read_fault bs) (no_reading (read_fault bs)) (reading (tensor_in bs) (config_in bs)) (λ z. h (sym (status e) ∙ z)))

  pub read-given : (read_fault bs).status ≡ 0 → read_of bs ≡ reading (tensor_in bs) (config_in bs)
  unfolding read_of
  read-given z = if_none (read_fault bs) (no_reading (read_fault bs)) (reading (tensor_in bs) (config_in bs)) z

  -- an answer's number is its fault's
  pub read-status : (read_of bs).status ≡ (read_fault bs).status
  unfolding read_of
  read-status = elim (ℕ_discrete (read_fault bs).status 0) [
    | yes z ↦ ap (λ (r : Reading). r.status) (if_none (read_fault bs) (no_reading (read_fault bs)) (reading (tensor_in bs) (config_in bs)) z) ∙ sym z
    | no z ↦ ap (λ (r : Reading). r.status) (if_fault_lem (read_fault bs) (no_reading (read_fault bs)) (reading (tensor_in bs) (config_in bs)) z)
  ]

  -- 131 bytes tell no fill, accepted or not
  pub read_plain : length bs ≡ record_length → (read_of bs).config.fill ≡ 0
  unfolding config_in
  read_plain l = elim (ℕ_discrete (read_fault bs).status 0) [
    | yes z ↦ ap (λ (r : Reading). r.config.fill) (read-given z) ∙ fill_none bs l
    | no z ↦ ap (λ (r : Reading). r.config.fill) (sym (read-refused {f = read_fault bs} refl z refl))
  ]

  -- the tests in code
  pub marked : bad_length (length bs) ≡ false → {b d : Bool} → b ≡ starts_with eqb bs mark → b ≡ d → bad_mark bs ≡ not d
  marked l e h = let n = long_enough (length bs) l in mark_told 82 77 86 bs (omega arith) e h

  module _ {xs : List ℕ} {m n : ℕ} (l : bad_length (length bs) ≡ false) (xe : xs ≡ part 3 2 bs) (me : m ≡ from_le_bytes w16 xs) (ne : n ≡ version_by_length (length bs)) where
    read-version : m ≡ version_in bs
    read-version = let h = long_enough (length bs) l in half_is 3 bs (omega arith) xe me

    pub version-other : (m ≡ n → ⊥) → bad_version bs ≡ true
    version-other h = ap not (ne_eqb _ _ (λ e. h (read-version ∙ e ∙ sym ne)))

    pub version-same : m ≡ n → bad_version bs ≡ false
    version-same h = ap not (eq-eqb _ _ (sym read-version ∙ h ∙ ne))

  -- as the code comes to it: the fields read, and then judged
  module _ {t : Tensor} {c : Config} {v : ℕ} {f : Fault} (te : t ≡ tensor_in bs) (ce : c ≡ config_in bs) (ve : v ≡ version_by_length (length bs)) (fe : f ≡ fields_fault v t c) (l : bad_length (length bs) ≡ false) (m : bad_mark bs ≡ false) (w : bad_version bs ≡ false) where
    pub read-judged : read_fault bs ≡ f
    read-judged = read-fields l m w ∙ sym (λ i. fields_fault (ve i) (te i) (ce i)) ∙ sym fe

-- ---- write

module _ (t : Tensor) (c : Config) where
  room-bad : (n : ℕ) → (n ≡ length_of (version_for c) → ⊥) → bad_room c n ≡ true
  room-bad n h = ap not (ne_eqb n (length_of (version_for c)) h)

  pub write-fields : (n : ℕ) → n ≡ length_of (version_for c) → write_fault t c n ≡ fields_fault (version_for c) t c
  unfolding write_fault fields_fault
  write-fields n l = spared 25 0 _ _ (ap not (eq-eqb n (length_of (version_for c)) l))

  -- as the code comes to it
  pub write-25 : (n : ℕ) → (n ≡ length_of (version_for c) → ⊥) → write_fault t c n ≡ fault 25 0
  unfolding write_fault fields_fault
  write-25 n l = given 25 0 _ _ (omega arith) (room-bad n l)

  pub write-told : (n : ℕ) {r : Result (Unit {0}) Fault} {f : Fault} → r ≡ outcome (write_fault t c n) tt → f ≡ fault_in r → f ≡ write_fault t c n
  unfolding write_fault
  write-told n re fe = fe ∙ ap fault_in re ∙ fault_back (write_rules t c n) (omega arith) tt

  pub write-long : (n : ℕ) → (write_fault t c n).status ≡ 0 → n ≡ length_of (version_for c)
  unfolding write_fault
  write-long n z = eqb-true _ _ (not-false _ (when_clear 25 0 (bad_room c n) (omega arith) (or_clear _ _ z).0))

  module _ (room : List ℕ) where
    pub room-kept : ((write_fault t c (length room)).status ≡ 0 → ⊥) → written_room t c room ≡ room
    unfolding written_room
    room-kept h = if_fault_lem (write_fault t c (length room)) room (record_bytes t c) h

    module _ (z : (write_fault t c (length room)).status ≡ 0) where
      pub room-written : written_room t c room ≡ record_bytes t c
      unfolding written_room
      room-written = if_none (write_fault t c (length room)) room (record_bytes t c) z

      pub write-given : {v : ℕ} {a b d : List ℕ} → v ≡ version_for c → a ≡ sets room 0 (tensor_bytes v t) → b ≡ sets a config_at (config_bytes c) → d ≡ sets b record_length (little (fill_width (version_for c)) c.fill) → d ≡ written_room t c room
      write-given ve ea eb ed =
          let e = ea ∙ ap (λ (v : ℕ). sets room 0 (tensor_bytes v t)) ve in
          record_laid t c room (write-long (length room) z) e eb ed ∙ sym room-written
