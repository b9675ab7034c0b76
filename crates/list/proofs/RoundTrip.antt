-- Lists there and back: what start and appends write, that it is read back in order, where all of them are accepted, that bytes which
-- are read are what appending writes, and that one record more leaves those before it as they were. Assumes nothing.
use Prim.Native.Nat.{ℕ, zero, suc, ◌+◌, ◌*◌, ◌≤◌, ◌<◌}
use native.Mathlib.Nat.{not-suc-le-zero}
use native.Mathlib.Decide.{ℕ_discrete}
use native.Mathlib.Numerals.{add-one}
use native.Mathlib.Omega.{arith}
use mathlib.Core.Path.{◌≡◌, refl, sym, ap, ap₂, subst, ◌∙◌}
use mathlib.Core.List.{List, [], ◌∷◌, ◌++◌, append-nil, append_assoc}
use borrow.Author.Tests.{eq-eqb, ne_eqb}
use lib.ListN.{length, take, drop, length-append, length-drop, take-append-drop}
use lib.Seq.{sets, sets-eq, length-take-le, take_all, take_at, drop_at, drop-drop, take-add, append_snoc}
use Rattle.plane.specs.declared.Tensor.{Tensor}
use Rattle.plane.specs.declared.Config.{Config}
use Rattle.record.specs.declared.Reading.{Reading}
use Rattle.record.specs.Layout.{part, record_length}
use Rattle.record.specs.Records.{record_bytes, reading, read_of}
use Rattle.record.specs.RoundTrip.{Fits, Bytes}
use Rattle.record.proofs.Parts.{length_part, part_left, part_append}
use Rattle.record.proofs.Digits.{bytes_part}
use Rattle.record.proofs.Answers.{room-written}
use Rattle.record.proofs.RoundTrip.{record_back, write_back}
use Rattle.list.specs.declared.Numbered.{Numbered}
use Rattle.list.specs.Layout.{list_head_length, most, list_head, list_length}
use Rattle.list.specs.Lists.{list_fault, record_count, record_in, record_at}
use Rattle.list.specs.Writers.{start_fault, member_fault, append_fault, append_of, appended_buffer}
use Rattle.list.specs.RoundTrip.{Move, move_at, moves_bytes, list_bytes, numbered, moves_from, moves_in}
use Rattle.list.specs.RoundTrip.{Written, started, appended, appends, written}
use Rattle.list.specs.RoundTrip.{WrittenReads, WrittenBytes, AcceptedWhere, ReadWrites, AppendReads}
use Rattle.list.proofs.Answers.{at_in}
use Rattle.list.proofs.Writing.{start_0, append_same, append_status, append_behind, append_member}
use Rattle.list.proofs.Listing.{Sound, listed_opens, listed_count, listed_record, opened_ends, opened_is, opened_sound}
use Rattle.list.proofs.Buffers.{Lies, start_lies, lies_taken, append_accepted, append_lies}
use Rattle.list.proofs.Members.{member_length, member_written, written_member}

-- ---- moves

-- the record of a move, and what can be wrong with its fields
abbrev bytes_of : Move → List ℕ
bytes_of m = record_bytes m.tensor m.config

abbrev fault_of : Move → ℕ
fault_of m = (member_fault m.tensor m.config).status

-- each of some moves is such
abbrev Each : (Move → Type 0) → List Move → Type 0
Each P ms = (k : ℕ) → k < length ms → P (move_at ms k)

-- its record has 131 bytes, and reads as the move
record Reads (m : Move) : Type 0 where
  long : length (bytes_of m) ≡ record_length
  is : read_of (bytes_of m) ≡ reading m.tensor m.config

reads : (m : Move) → Fits m.tensor m.config → fault_of m ≡ 0 → Reads m
reads m f z = record {
  long = member_length m.tensor m.config z;
  is = record_back m.tensor m.config f (member_written m.tensor m.config z);
}

each_more : (P : Move → Type 0) (ms : List Move) (m : Move) → Each P ms → P m → Each P (ms ++ (m ∷ []))
each_more P [] m h p zero q = p
each_more P [] m h p (suc k) q = absurd (let z : k < 0 = omega arith in not-suc-le-zero z)
each_more P (x ∷ ms) m h p zero q = h 0 (omega arith)
each_more P (x ∷ ms) m h p (suc k) q = each_more P ms m (λ j r. h (suc j) (omega arith)) p k (omega arith)

length_more : (ms : List Move) (m : Move) → length (ms ++ (m ∷ [])) ≡ suc (length ms)
length_more ms m = length-append ms (m ∷ []) ∙ add-one (length ms)

bytes_more : (ms : List Move) (m : Move) → moves_bytes (ms ++ (m ∷ [])) ≡ moves_bytes ms ++ bytes_of m
unfolding moves_bytes
bytes_more [] m = append-nil (bytes_of m)
bytes_more (x ∷ ms) m =
    ap (λ (bs : List ℕ). bytes_of x ++ bs) (bytes_more ms m) ∙ sym (append_assoc (bytes_of x) (moves_bytes ms) (bytes_of m))

-- each record is found where those before it end
part_moves : (ms : List Move) (k : ℕ) → Each Reads ms → k < length ms → part (record_length * k) record_length (moves_bytes ms) ≡ bytes_of (move_at ms k)
unfolding moves_bytes
part_moves [] k r h = absurd (not-suc-le-zero h)
part_moves (m ∷ ms) zero r h = take_at (bytes_of m) (moves_bytes ms) record_length (r 0 (omega arith)).long
part_moves (m ∷ ms) (suc k) r h =
    let l = (r 0 (omega arith)).long in
    let p : record_length * suc k ≡ length (bytes_of m) + record_length * k = omega arith in
    ap (λ (j : ℕ). part j record_length (bytes_of m ++ moves_bytes ms)) p ∙
    part_append (bytes_of m) (moves_bytes ms) (record_length * k) record_length ∙ part_moves ms k (λ j q. r (suc j) (omega arith)) (omega arith)

-- ---- start and appends

-- the accepted moves lie in the buffer as a list
abbrev Holds : List ℕ → Written → Type 0
Holds buffer w = Lies buffer (length w.moves) (moves_bytes w.moves) w.buffer w.length

started_holds : (buffer : List ℕ) → (start_fault buffer).status ≡ 0 → Holds buffer (started buffer)
unfolding moves_bytes
started_holds buffer z = start_lies buffer z

-- the number of refusal of one append more
abbrev refusal : Written → Move → ℕ
refusal w m = (append_fault w.buffer w.length m.tensor m.config).status

module _ (w : Written) (m : Move) where
  answered : (append_of w.buffer w.length m.tensor m.config).status ≡ refusal w m
  answered = append_status w.buffer w.length m.tensor m.config

  -- an accepted move is one more
  one_more : refusal w m ≡ 0 → appended w m ≡ record { buffer = appended_buffer w.buffer w.length m.tensor m.config; length = (append_of w.buffer w.length m.tensor m.config).length; moves = w.moves ++ (m ∷ []) }
  unfolding appended
  one_more z = rw (eq-eqb _ 0 (answered ∙ z))

  -- and a refused one changes nothing
  passed_over : (refusal w m ≡ 0 → ⊥) → appended w m ≡ w
  unfolding appended
  passed_over h = rw (ne_eqb _ 0 (λ z. h (sym answered ∙ z)), append_same w.buffer w.length m.tensor m.config h)

  module _ (buffer : List ℕ) (s : Holds buffer w) where
    appended_holds : Holds buffer (appended w m)
    appended_holds = elim (ℕ_discrete (refusal w m) 0) [
      | yes z ↦ subst (Holds buffer) (sym (one_more z))
          (rw (length_more w.moves m, bytes_more w.moves m) (append_lies buffer _ _ _ _ s m.tensor m.config z))
      | no h ↦ subst (Holds buffer) (sym (passed_over h)) s
    ]

    -- the accepted ones read, if those before do
    appended_reads : Fits m.tensor m.config → Each Reads w.moves → Each Reads (appended w m).moves
    appended_reads f r = elim (ℕ_discrete (refusal w m) 0) [
      | yes z ↦ subst (λ (v : Written). Each Reads v.moves) (sym (one_more z))
          (each_more Reads w.moves m r (reads m f (append_member w.buffer w.length m.tensor m.config z)))
      | no h ↦ subst (λ (v : Written). Each Reads v.moves) (sym (passed_over h)) r
    ]

module _ (buffer : List ℕ) where
  appends_hold : (ms : List Move) (w : Written) → Holds buffer w → Holds buffer (appends w ms)
  unfolding appends
  appends_hold [] w s = s
  appends_hold (m ∷ ms) w s = appends_hold ms (appended w m) (appended_holds w m buffer s)

  appends_read : (ms : List Move) (w : Written) → Holds buffer w → Each (λ m. Fits m.tensor m.config) ms → Each Reads w.moves → Each Reads (appends w ms).moves
  unfolding appends
  appends_read [] w s f r = r
  appends_read (m ∷ ms) w s f r =
      appends_read ms (appended w m) (appended_holds w m buffer s) (λ k h. f (suc k) (omega arith)) (appended_reads w m buffer s (f 0 (omega arith)) r)

  -- with room for all, and fields that are accepted, all are
  appends_all : (ms : List Move) (w : Written) → Holds buffer w → length w.moves + length ms ≤ most → list_length (length w.moves + length ms) ≤ length buffer → Each (λ m. fault_of m ≡ 0) ms → (appends w ms).moves ≡ w.moves ++ ms
  unfolding appends
  appends_all [] w s f r h = sym (append-nil w.moves)
  appends_all (m ∷ ms) w s f r h =
      let z = append_accepted buffer _ _ _ _ s m.tensor m.config (omega arith) (omega arith) (h 0 (omega arith)) in
      let e : (appended w m).moves ≡ w.moves ++ (m ∷ []) = ap (λ (v : Written). v.moves) (one_more w m z) in
      let l : length (appended w m).moves ≡ suc (length w.moves) = ap length e ∙ length_more w.moves m in
      appends_all ms (appended w m) (appended_holds w m buffer s) (omega arith) (omega arith) (λ k q. h (suc k) (omega arith)) ∙
      ap (λ (v : List Move). v ++ ms) e ∙ append_snoc w.moves m ms

-- the theorem: what start and appends leave is the list of the accepted moves, and nothing else changed
pub written_bytes : WrittenBytes
written_bytes buffer ms z = let s = appends_hold buffer ms (started buffer) (started_holds buffer z) in (s.is, s.ends)

-- the theorem: it opens, and its records read in order are those moves
pub written_reads : WrittenReads
written_reads buffer ms z f =
    let s = appends_hold buffer ms (started buffer) (started_holds buffer z) in
    let e = lies_taken buffer _ _ _ _ s in
    let w = written buffer ms in
    let read = appends_read buffer ms (started buffer) (started_holds buffer z) f (λ k h. absurd (not-suc-le-zero h)) in (
      ap (λ (bs : List ℕ). (list_fault bs).status) e ∙ listed_opens _ _ s.sound,
      ap record_count e ∙ listed_count _ _ s.sound,
      λ k h. ap (λ (bs : List ℕ). record_at bs k) e ∙ listed_record _ _ s.sound k h ∙
          ap (λ (r : Reading). record { number = k; reading = r }) (ap read_of (part_moves w.moves k read h) ∙ (read k h).is),
    )

-- the theorem: with room for all, and fields that are accepted, all calls are
pub accepted_where : AcceptedWhere
accepted_where buffer ms f r h =
    let z = start_0 buffer (omega arith) in
    (z, appends_all buffer ms (started buffer) (started_holds buffer z) (omega arith) (omega arith) h)

-- ---- bytes that open

length_from : (bs : List ℕ) (n k : ℕ) → length (moves_from bs k n) ≡ n
unfolding moves_from
length_from bs zero k = refl
length_from bs (suc n) k = ap suc (length_from bs n (k + 1))

module _ (bs : List ℕ) (b : Bytes bs) (z : (list_fault bs).status ≡ 0) where
  -- the fields of a record that reads are accepted, and their bytes are the record
  move_writes : (k : ℕ) → k < record_count bs → (record_at bs k).reading.status ≡ 0 → let r = (record_at bs k).reading in ((member_fault r.tensor r.config).status ≡ 0) × (record_bytes r.tensor r.config ≡ record_in bs k)
  move_writes k h y =
      let e = opened_ends bs z in
      let one = record_in bs k in
      let l = length_part (list_length k) record_length bs (omega arith) in
      let r : (record_at bs k).reading ≡ read_of one = ap (λ (n : Numbered). n.reading) (at_in bs k h) in
      let w = write_back one one (bytes_part bs b (list_length k) record_length) (ap (λ (n : Reading). n.status) (sym r) ∙ y) refl in
      let t = (read_of one).tensor in
      let c = (read_of one).config in
      subst (λ (n : Reading). ((member_fault n.tensor n.config).status ≡ 0) × (record_bytes n.tensor n.config ≡ one)) (sym r)
      (written_member t c (length one) l w.0, sym (room-written t c one w.0) ∙ w.1)

  module _ (good : (k : ℕ) → k < record_count bs → (record_at bs k).reading.status ≡ 0) where
    -- where all read, the fields of each are accepted
    from_accepted : (n k : ℕ) → k + n ≤ record_count bs → Each (λ m. fault_of m ≡ 0) (moves_from bs k n)
    unfolding moves_from
    from_accepted zero k h j q = absurd (not-suc-le-zero q)
    from_accepted (suc n) k h zero q = (move_writes k (omega arith) (good k (omega arith))).0
    from_accepted (suc n) k h (suc j) q = from_accepted n (k + 1) (omega arith) j (omega arith)

    -- and their bytes are those of the list
    from_bytes : (n k : ℕ) → k + n ≤ record_count bs → moves_bytes (moves_from bs k n) ≡ part (list_length k) (record_length * n) bs
    unfolding moves_from moves_bytes
    from_bytes zero k h = refl
    from_bytes (suc n) k h =
        let p : list_length (k + 1) ≡ list_length k + record_length = omega arith in
        let q : record_length + record_length * n ≡ record_length * suc n = omega arith in
        ap₂ (λ (x y : List ℕ). x ++ y) (move_writes k (omega arith) (good k (omega arith))).1
        (from_bytes n (k + 1) (omega arith) ∙ ap (λ (j : ℕ). part j (record_length * n) bs) p ∙ ap (take (record_length * n)) (sym (drop-drop record_length (list_length k) bs))) ∙
        sym (take-add record_length (record_length * n) (drop (list_length k) bs)) ∙ ap (λ (j : ℕ). part (list_length k) j bs) q

    -- so the list of the fields is the bytes
    moves_are : list_bytes (moves_in bs) ≡ bs
    moves_are =
        let n = record_count bs in
        let e = opened_ends bs z in
        let d = length-drop list_head_length bs in
        ap₂ (λ (k : ℕ) (body : List ℕ). list_head k ++ body) (length_from bs n 0)
        (from_bytes n 0 (omega arith) ∙ take_all (record_length * n) (drop list_head_length bs) (omega arith)) ∙
        sym (opened_is bs z b)

-- the theorem: bytes that open, and whose records all read, are what start and appends of those fields write
pub read_writes : ReadWrites
read_writes bs b z good buffer room =
    let ms = moves_in bs in
    let l = length_from bs (record_count bs) 0 in
    let e = opened_ends bs z in
    let few = (opened_sound bs z b).few in
    let a = accepted_where buffer ms (omega arith) (omega arith) (from_accepted bs b z good (record_count bs) 0 (omega arith)) in
    let w = written_bytes buffer ms a.0 in
    (a.0, a.1, w.1 ∙ ap (λ (v : List Move). list_length (length v)) a.1 ∙ ap list_length l ∙ sym e, w.0 ∙ ap (λ (v : List Move). sets buffer 0 (list_bytes v)) a.1 ∙ ap (sets buffer 0) (moves_are bs b z good))

-- ---- one record more

module _ (n : ℕ) (body : List ℕ) (s : Sound n body) (t : Tensor) (c : Config) (s' : Sound (suc n) (body ++ record_bytes t c)) where
  -- the records before are those of the list before
  before_same : (k : ℕ) → k < n → record_at (list_head (suc n) ++ (body ++ record_bytes t c)) k ≡ record_at (list_head n ++ body) k
  before_same k h =
      let l = s.long in
      listed_record (suc n) (body ++ record_bytes t c) s' k (omega arith) ∙
      ap (λ (bs : List ℕ). record { number = k; reading = read_of bs }) (part_left body (record_bytes t c) (record_length * k) record_length (omega arith)) ∙
      sym (listed_record n body s k h)

  -- the last is the new one
  last_reads : Reads (record { tensor = t; config = c }) → record_at (list_head (suc n) ++ (body ++ record_bytes t c)) n ≡ numbered n (record { tensor = t; config = c })
  last_reads r =
      let l = r.long in
      listed_record (suc n) (body ++ record_bytes t c) s' n (omega arith) ∙
      ap (λ (r : Reading). record { number = n; reading = r })
      (ap (λ (bs : List ℕ). read_of (take record_length bs)) (drop_at body (record_bytes t c) (record_length * n) s.long) ∙
      ap read_of (take_all record_length (record_bytes t c) (omega arith)) ∙ r.is)

-- bytes at a buffer's start that open lie in it as a list
old_lies : (buffer : List ℕ) (n : ℕ) → Bytes buffer → n ≤ length buffer → (list_fault (take n buffer)).status ≡ 0 → let old = take n buffer in Lies buffer (record_count old) (drop list_head_length old) buffer n
old_lies buffer n b h z =
    let old = take n buffer in
    let l = length-take-le n buffer h in
    let e = opened_ends old z in
    let o = bytes_part buffer b 0 n in
    let same : sets buffer 0 old ≡ buffer =
    sets-eq old buffer 0 (omega arith) ∙ ap (λ (k : ℕ). old ++ drop k buffer) (let q : 0 + length old ≡ n = omega arith in q) ∙ take-append-drop n buffer in
    record {
      is = sym same ∙ ap (sets buffer 0) (opened_is old z o);
      ends = sym l ∙ e;
      sound = opened_sound old z o;
      room = omega arith;
    }

-- the theorem: the records before are read as before, and the new one last
pub append_reads : AppendReads
append_reads buffer n t c b f answer = (
  ap (λ (bs : List ℕ). (list_fault bs).status) is ∙ listed_opens (suc count) more lies'.sound,
  ap record_count is ∙ listed_count (suc count) more lies'.sound ∙ sym (add-one count),
  λ k h. ap (λ (bs : List ℕ). record_at bs k) is ∙ before_same count body lies.sound t c lies'.sound k h ∙ ap (λ (bs : List ℕ). record_at bs k) (sym old_is),
  ap (λ (bs : List ℕ). record_at bs count) is ∙ last_reads count body lies.sound t c lies'.sound (reads (record { tensor = t; config = c }) f (append_member buffer n t c z)),
)
  where
    z : (append_fault buffer n t c).status ≡ 0
    z = sym (append_status buffer n t c) ∙ answer

    count : ℕ
    count = record_count (take n buffer)

    body : List ℕ
    body = drop list_head_length (take n buffer)

    more : List ℕ
    more = body ++ record_bytes t c

    lies : Lies buffer count body buffer n
    lies = let o = append_behind buffer n t c z in old_lies buffer n b o.0 o.1

    lies' : Lies buffer (suc count) more (appended_buffer buffer n t c) (append_of buffer n t c).length
    lies' = append_lies buffer count body buffer n lies t c z

    old_is : take n buffer ≡ list_head count ++ body
    old_is = lies_taken buffer count body buffer n lies

    is : take (append_of buffer n t c).length (appended_buffer buffer n t c) ≡ list_head (suc count) ++ more
    is = lies_taken buffer (suc count) more (appended_buffer buffer n t c) (append_of buffer n t c).length lies'
