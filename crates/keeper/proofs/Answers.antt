-- What the functions compute, over plain values: words with a run taken or free, and the calls' answers case by case. Assumes nothing.
use Prim.Native.Nat.{ℕ, ◌+◌, ◌-◌, ◌*◌, ◌/◌, ◌%◌, ◌^◌, ◌≤◌, ◌<◌}
use native.Mathlib.Nat.{lt_of_lt_of_le, lt_of_le_of_lt, mul-le-mul}
use native.Mathlib.Omega.{arith}
use mathlib.Core.Path.{◌≡◌, refl, sym, ap, ◌∙◌}
use mathlib.Core.Logic.{inl}
use mathlib.Core.Bool.{Bool, true, false, cond, not, ◌&&◌, ◌||◌}
use borrow.Author.Tests.{lt-ltb, le-ltb, ltb-false, not-false}
use lib.Dec.{eqb, ltb}
use lib.ListN.{length}
use lib.Bits.{bit_and, bit_or, or_lt, and_le_l}
use lib.Pow.{pow_mono, shl_lt, shl_exact, ones_lt, ones_split, high}
use Rattle.std.specs.Prelude.{Ok, Err}
use Rattle.std.specs.List.{list_any}
use Rattle.std.proofs.lemmas.List.{take_all}
use Rattle.faults.specs.declared.Fault.{Fault}
use Rattle.faults.specs.Faults.{fault, when, ◌or_else◌, outcome}
use Rattle.faults.specs.Exactness.{Unbroken}
use Rattle.faults.proofs.Bools.{either_clear, either_first, either_second, neither, in_range}
use Rattle.faults.proofs.Faults.{status, or_none, if_none, given, spared, when_bad, when_good, when_zero}
use Rattle.faults.proofs.Chains.{unbroken}
use Rattle.faults.proofs.Outcomes.{passes, refuses, halts, tells_ok, tells_err, answer_ok, answer_err}
use Rattle.plane.specs.Arrays.{some}
use Rattle.plane.proofs.Arrays.{some_found}
use Rattle.parts.specs.declared.Part.{Part}
use Rattle.transfers.specs.declared.Slot.{Slot}
use Rattle.transfers.specs.declared.Table.{Table}
use Rattle.transfers.specs.declared.Poll.{Poll}
use Rattle.transfers.specs.declared.Poll.TheVariants as says
use Rattle.transfers.specs.Slots.{zero_part, slot_at, table_sound, limit}
use Rattle.transfers.specs.Calls.{left, poll_slot, poll_of, poll_status}
use Rattle.transfers.proofs.Exact.{poll_exact}
use Rattle.transfers.proofs.Sounds.{sound_tells}
use Rattle.transfers.proofs.Fours.{any_some}
use Rattle.transfers.proofs.Steps.{its_poll, poll_18}
use Rattle.keeper.specs.Blocks.{is_taken, bad_block_count, bad_run, in_run, all_free, all_taken, starts, some_run, lowest_run, with_run, without_run}
use Rattle.keeper.specs.Calls.{request_fault, request_of, run_part, part_fault, part_of, uses, in_use, table_rules, table_fault, give_back_rules, give_back_fault, give_back_of}
use Rattle.keeper.proofs.Bits.{taken_or, taken_and, taken_not, taken_run, is_of}
use Rattle.keeper.proofs.Search.{lowest_is}

-- ---- words

pub low_ones : (n : ℕ) → n ≤ 64 → 18446744073709551615 / 2 ^ (64 - n) ≡ 2 ^ n - 1
low_ones n h =
    let m : 64 ≡ n + (64 - n) = omega arith in
    let e : 18446744073709551615 ≡ (2 ^ n - 1) * 2 ^ (64 - n) + (2 ^ (64 - n) - 1) = ap (λ (x : ℕ). 2 ^ x - 1) m ∙ ones_split n (64 - n) in
    ap (λ (x : ℕ). x / 2 ^ (64 - n)) e ∙ high (2 ^ n - 1) (64 - n) (ones_lt (64 - n))

module _ (w first n : ℕ) (wide : w < 2 ^ 64) (inside : first + n ≤ 64) where
  fits : n + first ≤ 64
  fits = omega arith

  run-lt : (2 ^ n - 1) * 2 ^ first < 2 ^ 64
  run-lt = lt_of_lt_of_le (shl_lt n first (ones_lt n)) (pow_mono fits)

  pub run-taken-too : bit_or w ((2 ^ n - 1) * 2 ^ first % 2 ^ 64) ≡ with_run w first n
  unfolding with_run
  run-taken-too =
      ap (bit_or w) (shl_exact n first 64 (ones_lt n) fits) ∙
      is_of 64 (bit_or w ((2 ^ n - 1) * 2 ^ first)) (λ b. is_taken w b || in_run first n b) (or_lt 64 w ((2 ^ n - 1) * 2 ^ first) wide run-lt)
      (λ b _. taken_or w ((2 ^ n - 1) * 2 ^ first) b ∙ ap (λ (t : Bool). is_taken w b || t) (taken_run first n b))

  pub run-left-out : bit_and w (2 ^ 64 - 1 - (2 ^ n - 1) * 2 ^ first % 2 ^ 64) ≡ without_run w first n
  unfolding without_run
  run-left-out =
      let r = (2 ^ n - 1) * 2 ^ first in
      ap (λ (m : ℕ). bit_and w (2 ^ 64 - 1 - m)) (shl_exact n first 64 (ones_lt n) fits) ∙
      is_of 64 (bit_and w (2 ^ 64 - 1 - r)) (λ b. is_taken w b && not (in_run first n b)) (lt_of_le_of_lt (and_le_l w (2 ^ 64 - 1 - r)) wide)
      (λ b l. taken_and w (2 ^ 64 - 1 - r) b ∙ ap (λ (t : Bool). is_taken w b && t) (taken_not 64 r b run-lt l ∙ ap not (taken_run first n b)))

-- ---- 31

module _ (n : ℕ) where
  short : n < 1 → bad_block_count n ≡ true
  short h = either_first _ _ (lt-ltb n 1 h)

  pub long : 64 < n → bad_block_count n ≡ true
  long h = either_second (ltb n 1) _ (lt-ltb 64 n h)

  pub fair : 1 ≤ n → n ≤ 64 → bad_block_count n ≡ false
  fair h l = neither _ _ (le-ltb n 1 h) (le-ltb 64 n l)

-- a run that is none of those
pub record GoodRun (first n : ℕ) : Type 0 where
  pub least : 1 ≤ n
  pub inside : first + n ≤ 64

pub good-run : (first n : ℕ) → bad_run first n ≡ false → GoodRun first n
good-run first n e =
    let l = either_clear (bad_block_count n) (ltb 64 (first + n)) e in
    record { least = (in_range n 1 64 l.0).0; inside = ltb-false 64 (first + n) l.1 }

-- ---- request

module _ (w n : ℕ) where
  pub granted-31 : bad_block_count n ≡ true → Err (fault 31 0) ≡ outcome (request_fault w n) (lowest_run w n)
  unfolding request_fault
  granted-31 h = refuses (lowest_run w n) (given 31 0 (bad_block_count n) (when 32 0 (not (some_run w n))) (omega arith) h) (λ z. omega arith)

  module _ (good : bad_block_count n ≡ false) where
    decides : request_fault w n ≡ when 32 0 (not (some_run w n))
    unfolding request_fault
    decides = spared 31 0 (bad_block_count n) (when 32 0 (not (some_run w n))) good

    pub granted-32 : some_run w n ≡ false → Err (fault 32 0) ≡ outcome (request_fault w n) (lowest_run w n)
    granted-32 h = refuses (lowest_run w n) (decides ∙ when_bad 32 0 (not (some_run w n)) (ap not h)) (λ z. omega arith)

    pub granted-0 : (first : ℕ) → first < starts n → all_free w first n ≡ true → some first (λ b. all_free w b n) ≡ false
        → Ok first ≡ outcome (request_fault w n) (lowest_run w n)
    granted-0 first l here below =
        let e : lowest_run w n ≡ first = lowest_is (λ b. all_free w b n) (starts n) first l here below in
        let s : some_run w n ≡ true = some_found (starts n) first (λ b. all_free w b n) l here in
        ap Ok (sym e) ∙ passes _ (lowest_run w n) (status (decides ∙ when_good 32 0 (not (some_run w n)) (ap not s)))

    pub request-32 : some_run w n ≡ false → record { status = 32; first = 0; word = w } ≡ request_of w n
    unfolding request_of
    request-32 h = rw (decides ∙ when_bad 32 0 (not (some_run w n)) (ap not h))

    pub request-0 : (first : ℕ) → first < starts n → all_free w first n ≡ true → some first (λ b. all_free w b n) ≡ false
        → record { status = 0; first = first; word = with_run w first n } ≡ request_of w n
    unfolding request_of
    request-0 first l here below =
        let e : lowest_run w n ≡ first = lowest_is (λ b. all_free w b n) (starts n) first l here below in
        let s : some_run w n ≡ true = some_found (starts n) first (λ b. all_free w b n) l here in
        rw (decides ∙ when_good 32 0 (not (some_run w n)) (ap not s), e)

module _ (w n : ℕ) where
  pub request_stopped : {e : Fault} → Err e ≡ outcome (request_fault w n) (lowest_run w n) → record { status = e.status; first = 0; word = w } ≡ request_of w n
  unfolding request_of
  request_stopped q =
      ap (λ (f : Fault). record { status = f.status; first = 0; word = w }) (tells_err _ _ q).0 ∙ answer_err (request_fault w n) (lowest_run w n) _ _ q

  pub request_went : {first u : ℕ} → Ok first ≡ outcome (request_fault w n) (lowest_run w n) → u ≡ with_run w first n
      → record { status = 0; first = first; word = u } ≡ request_of w n
  unfolding request_of
  request_went {first} q e =
      let is = (tells_ok _ _ q).0 in
      let m = e ∙ ap (λ (k : ℕ). with_run w k n) is in
      (λ i. record { status = 0; first = is i; word = m i }) ∙ answer_ok (request_fault w n) (lowest_run w n) _ _ q

-- ---- the part that a run is

-- the bytes of up to 64 blocks of a memory within the limit fit 64 bits
pub bytes_fit : (n l : ℕ) → n ≤ 64 → l ≤ limit → n * (l / 64) < 18446744073709551616
bytes_fit n l h m =
    let b : l / 64 ≤ 33554431 = omega arith in
    let p : n * (l / 64) ≤ 64 * 33554431 = mul-le-mul h b in
    omega arith

module _ (l first n : ℕ) where
  pub placed-17 : (ltb l 64 || ltb limit l) ≡ true → Err (fault 17 0) ≡ outcome (part_fault l first n) (run_part l first n)
  unfolding part_fault
  placed-17 h =
      refuses (run_part l first n) (given 17 0 (ltb l 64 || ltb limit l) (when 31 0 (bad_run first n)) (omega arith) h) (λ z. omega arith)

  module _ (good : (ltb l 64 || ltb limit l) ≡ false) where
    run-decides : part_fault l first n ≡ when 31 0 (bad_run first n)
    unfolding part_fault
    run-decides = spared 17 0 (ltb l 64 || ltb limit l) (when 31 0 (bad_run first n)) good

    pub placed-31 : bad_run first n ≡ true → Err (fault 31 0) ≡ outcome (part_fault l first n) (run_part l first n)
    placed-31 h = refuses (run_part l first n) (run-decides ∙ when_bad 31 0 (bad_run first n) h) (λ z. omega arith)

    pub placed-0 : bad_run first n ≡ false → Ok (run_part l first n) ≡ outcome (part_fault l first n) (run_part l first n)
    placed-0 h = passes _ (run_part l first n) (status (run-decides ∙ when_good 31 0 (bad_run first n) h))

  pub part_stopped : {e : Fault} → Err e ≡ outcome (part_fault l first n) (run_part l first n) → record { status = e.status; part = zero_part } ≡ part_of l first n
  unfolding part_of
  part_stopped q =
      ap (λ (f : Fault). record { status = f.status; part = zero_part }) (tells_err _ _ q).0 ∙
      answer_err (part_fault l first n) (run_part l first n) _ _ q

  pub part_went : {p : Part} → Ok p ≡ outcome (part_fault l first n) (run_part l first n) → record { status = 0; part = p } ≡ part_of l first n
  unfolding part_of
  part_went q =
      ap (λ (p : Part). record { status = 0; part = p }) (tells_ok _ _ q).0 ∙ answer_ok (part_fault l first n) (run_part l first n) _ _ q

-- ---- 17 and 18 of a table

-- no slot is told as a refusal
no_refusal : (x : Slot) (num : ℕ) → says.Refused num ≡ poll_slot x → ⊥
unfolding poll_slot
no_refusal x num = by_tests (eqb x.state 0) (eqb x.state 1) (eqb x.state 2)
  where
    by_tests : (a b d : Bool) → says.Refused num ≡ cond a says.Free (cond b (says.Prepared (left x)) (cond d (says.Running (left x)) says.Done)) → ⊥
    by_tests true b d e = cc
    by_tests false true d e = cc
    by_tests false false true e = cc
    by_tests false false false e = cc

module _ (t : Table) where
  pub table-17 : t.length < 64 → Err (fault 17 0) ≡ outcome (table_fault t) (tt {0})
  unfolding table_fault
  table-17 h =
      refuses (tt {0}) (given 17 0 (ltb t.length 64) (when 18 0 (not (table_sound t))) (omega arith) (lt-ltb t.length 64 h)) (λ z. omega arith)

  -- a poll of slot 0 tells whether the table is sound
  polled : (b : Bool) → table_sound t ≡ b → poll_status (poll_of t 0) ≡ (when 18 0 (not (table_sound t))).status
  polled true e = (poll_exact t 0).accepts.1 (ap not e, refl) ∙ sym (when_zero 18 0 (not (table_sound t)) (ap not e))
  polled false e =
      (((poll_exact t 0).gives 18 0 (omega arith)).1 (inl (refl, ap not e, refl))).0 ∙ sym (status (when_bad 18 0 (not (table_sound t)) (ap not e)))

  pub table-polled : 64 ≤ t.length → {told : Poll} → told ≡ poll_of t 0 → poll_status told ≡ (table_fault t).status
  unfolding table_fault
  table-polled h e =
      ap poll_status e ∙ polled (table_sound t) refl ∙
      sym (status (spared 17 0 (ltb t.length 64) (when 18 0 (not (table_sound t))) (le-ltb t.length 64 h)))

  -- and it refuses no other
  pub table-refused : 64 ≤ t.length → {num : ℕ} → says.Refused num ≡ poll_of t 0 → Err (fault num 0) ≡ outcome (table_fault t) (tt {0})
  unfolding table_fault
  table-refused h {num} q = by_test (table_sound t) refl
    where
      by_test : (b : Bool) → table_sound t ≡ b → Err (fault num 0) ≡ outcome (table_fault t) (tt {0})
      by_test true e = absurd (no_refusal (slot_at t 0) num (q ∙ sym (its_poll t 0 e (omega arith) refl)))
      by_test false e =
          let w : says.Refused num ≡ says.Refused 18 = q ∙ sym (poll_18 t 0 e) in
          let n : num ≡ 18 = cc in
          refuses (tt {0})
          (spared 17 0 (ltb t.length 64) (when 18 0 (not (table_sound t))) (le-ltb t.length 64 h) ∙ when_bad 18 0 (not (table_sound t)) (ap not e) ∙
          ap (λ (k : ℕ). fault k 0) (sym n))
          (λ z. omega arith)

  -- a table that is not refused is sound, and so within the limit
  table-sound : (table_fault t).status ≡ 0 → table_sound t ≡ true
  unfolding table_fault
  table-sound e = not-false (table_sound t) (unbroken (table_rules t) (omega arith) e).1

  pub table-short : (table_fault t).status ≡ 0 → t.length ≤ limit
  table-short e = (sound_tells t (table-sound e)).short

-- ---- give back

module _ (t : Table) (w first n : ℕ) where
  abbrev held : Bool
  held = not (all_taken w first n) || in_use t (run_part t.length first n)

  pub back-table : {e : Fault} → Err e ≡ outcome (table_fault t) (tt {0}) → Err e ≡ outcome (give_back_fault t w first n) (without_run w first n)
  unfolding give_back_fault table_fault
  back-table q = sym (halts (table_fault t) _ (when 31 0 (bad_run first n) or_else when 33 0 held) (without_run w first n) q refl)

  module _ (sound : (table_fault t).status ≡ 0) where
    after_table : give_back_fault t w first n ≡ (when 31 0 (bad_run first n) or_else when 33 0 held)
    unfolding give_back_fault table_fault
    after_table = or_none (table_fault t) (when 31 0 (bad_run first n) or_else when 33 0 held) sound

    pub back-31 : bad_run first n ≡ true → Err (fault 31 0) ≡ outcome (give_back_fault t w first n) (without_run w first n)
    back-31 h = refuses (without_run w first n) (after_table ∙ given 31 0 (bad_run first n) (when 33 0 held) (omega arith) h) (λ z. omega arith)

    module _ (good : bad_run first n ≡ false) where
      after_run : give_back_fault t w first n ≡ when 33 0 held
      after_run = after_table ∙ spared 31 0 (bad_run first n) (when 33 0 held) good

      pub back-33 : held ≡ true → Err (fault 33 0) ≡ outcome (give_back_fault t w first n) (without_run w first n)
      back-33 h = refuses (without_run w first n) (after_run ∙ when_bad 33 0 held h) (λ z. omega arith)

      pub back-0 : held ≡ false → Ok (without_run w first n) ≡ outcome (give_back_fault t w first n) (without_run w first n)
      back-0 h = passes _ (without_run w first n) (status (after_run ∙ when_good 33 0 held h))

  -- what acceptance tells
  pub back-told : (give_back_fault t w first n).status ≡ 0 → Unbroken (give_back_rules t w first n)
  unfolding give_back_fault
  back-told e = unbroken (give_back_rules t w first n) (omega arith) e

  pub back_stopped : {e : Fault} → Err e ≡ outcome (give_back_fault t w first n) (without_run w first n) → record { status = e.status; word = w } ≡ give_back_of t w first n
  unfolding give_back_of
  back_stopped q =
      ap (λ (f : Fault). record { status = f.status; word = w }) (tells_err _ _ q).0 ∙ answer_err (give_back_fault t w first n) (without_run w first n) _ _ q

  pub back-given : (give_back_fault t w first n).status ≡ 0 → record { status = 0; word = without_run w first n } ≡ give_back_of t w first n
  unfolding give_back_of
  back-given e = sym (if_none (give_back_fault t w first n) _ _ e)

  pub back_went : {u : ℕ} → Ok u ≡ outcome (give_back_fault t w first n) (without_run w first n) → record { status = 0; word = u } ≡ give_back_of t w first n
  unfolding give_back_of
  back_went q =
      ap (λ (u : ℕ). record { status = 0; word = u }) (tells_ok _ _ q).0 ∙ answer_ok (give_back_fault t w first n) (without_run w first n) _ _ q

-- the search through the slots, as the code makes it
pub in_use_told : (t : Table) (p : Part) → length t.slots ≡ 4 → list_any (λ s. uses s p) t.slots ≡ in_use t p
unfolding in_use
in_use_told t p e =
    ap (list_any (λ (s : Slot). uses s p)) (sym (take_all 4 t.slots (omega arith))) ∙ any_some (λ (s : Slot). uses s p) t.slots 4 (omega arith)
