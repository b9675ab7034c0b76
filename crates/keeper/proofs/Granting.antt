-- Which run is granted and which blocks change, what is given back, and counts (`specs/Claims.antt`). Assumes nothing.
use Prim.Native.Nat.{ℕ, zero, suc, ◌+◌, ◌-◌, ◌≤◌, ◌<◌, min}
use native.Mathlib.Decide.{dec_lt, dec_le}
use native.Mathlib.Omega.{arith}
use mathlib.Core.Path.{◌≡◌, refl, sym, ap, subst, ◌∙◌}
use mathlib.Core.Logic.{◌↔◌}
use mathlib.Core.Bool.{Bool, true, false, not, cond, ◌&&◌, ◌||◌, true≢false, or-false, and-true}
use borrow.Author.Tests.{ne_eqb, lt-ltb, le-ltb, le-leb, lt-leb, ltb-true, leb-true, not-true, not-false}
use lib.Dec.{ltb, leb}
use Rattle.faults.proofs.Faults.{if_none}
use Rattle.faults.proofs.Bools.{both_first, both_second, both, not_first, not_second, either_clear, either_second}
use Rattle.faults.proofs.Chains.{unbroken}
use Rattle.plane.specs.Arrays.{some, how_many}
use Rattle.plane.proofs.Arrays.{some_clear, some_none, some_found, every_all, every_each}
use Rattle.mover.specs.Within.{meets}
use Rattle.mover.proofs.Meeting.{meets_apart}
use Rattle.transfers.specs.declared.Table.{Table}
use Rattle.transfers.specs.Slots.{slot_at}
use Rattle.keeper.specs.declared.Granted.{Granted}
use Rattle.keeper.specs.declared.GivenBack.{GivenBack}
use Rattle.keeper.specs.Blocks.{is_taken, free_blocks, free_before_first_taken, in_run, all_free, all_taken, starts, some_run, lowest_run, with_run, without_run, lowest_of}
use Rattle.keeper.specs.Calls.{request_rules, request_fault, request_of, run_part, uses, in_use, give_back_fault, give_back_of}
use Rattle.keeper.specs.Claims.{Word, InRun, FreeRun, GrantedRun, Requests, BackRun, Gets, GivesBack, FreeBefore, CountsBefore}
use Rattle.keeper.proofs.Bits.{taken_of, is_of}
use Rattle.keeper.proofs.Search.{Lowest, found, lowest_none}
use Rattle.keeper.proofs.Exact.{request_number, back_number}
use Rattle.keeper.proofs.Answers.{fair, GoodRun, good-run, request-32, request-0, back-told, back-given}

-- ---- runs, as they are tested and as they are meant

module _ (first n b : ℕ) where
  in_run_lem : InRun first n b → in_run first n b ≡ true
  in_run_lem h = both _ _ (le-leb first b h.0) (lt-ltb b (first + n) h.1)

  run_has : in_run first n b ≡ true → InRun first n b
  run_has e = (leb-true first b (both_first _ (ltb b (first + n)) e), ltb-true b (first + n) (both_second (leb first b) _ e))

  out_of_run : (InRun first n b → ⊥) → in_run first n b ≡ false
  out_of_run h = elim (dec_le first b) [
    | yes l ↦ not_second (leb first b) _ (le-ltb b (first + n) (elim (dec_lt b (first + n)) [
      | yes m ↦ absurd (h (l, m))
      | no m ↦ omega arith
    ]))
    | no l ↦ not_first _ (ltb b (first + n)) (lt-leb first b (omega arith))
  ]

module _ (w first n : ℕ) where
  -- of the blocks first, first + 1, ..
  at_run : {t : Bool} → ((k : ℕ) → k < n → is_taken w (first + k) ≡ t) → (b : ℕ) → InRun first n b → is_taken w b ≡ t
  at_run {t} h b (l, m) =
      let e : first + (b - first) ≡ b = omega arith in
      subst (λ (x : ℕ). is_taken w x ≡ t) e (h (b - first) (omega arith))

  free_run : first < starts n → all_free w first n ≡ true → FreeRun w first n
  free_run l e = record {
    inside = omega arith;
    free = at_run (λ k m. not-true (is_taken w (first + k)) (every_each (λ k. not (is_taken w (first + k))) n e k m));
  }

  is_free_run : FreeRun w first n → all_free w first n ≡ true
  is_free_run f = every_all (λ k. not (is_taken w (first + k))) n (λ k m. ap not (f.free (first + k) (omega arith, omega arith)))

  taken_each : all_taken w first n ≡ true → (b : ℕ) → InRun first n b → is_taken w b ≡ true
  taken_each e = at_run (every_each (λ k. is_taken w (first + k)) n e)

-- ---- the word after

module _ (w first n b : ℕ) (l : b < 64) where
  with_block : is_taken (with_run w first n) b ≡ (is_taken w b || in_run first n b)
  unfolding with_run
  with_block = taken_of 64 (λ b. is_taken w b || in_run first n b) b l

  without_block : is_taken (without_run w first n) b ≡ (is_taken w b && not (in_run first n b))
  unfolding without_run
  without_block = taken_of 64 (λ b. is_taken w b && not (in_run first n b)) b l

-- ---- counts

-- two counts that make a third
sum_of : (k : ℕ) (p q r : ℕ → Bool) → ((b : ℕ) → b < k → cond (p b) 1 0 + cond (q b) 1 0 ≡ cond (r b) 1 0) → how_many k p + how_many k q ≡ how_many k r
unfolding how_many
sum_of zero p q r h = refl
sum_of (suc k) p q r h = omega (arith, sum_of k p q r (λ b l. h b (omega arith)), h k (omega arith))

run_count : (first n k : ℕ) → how_many k (in_run first n) ≡ min n (k - first)
unfolding how_many
run_count first n zero = omega arith
run_count first n (suc k) = elim (dec_le first k) [
  | yes l ↦ elim (dec_lt k (first + n)) [
    | yes m ↦ rw (in_run_lem first n k (l, m)) (omega (arith, run_count first n k))
    | no m ↦ rw (out_of_run first n k (λ i. m i.1)) (omega (arith, run_count first n k))
  ]
  | no l ↦ rw (out_of_run first n k (λ i. l i.0)) (omega (arith, run_count first n k))
]

-- a block that was free and is taken, and one that stays
taken_more : (s t : Bool) → (t ≡ true → s ≡ false) → cond (not (s || t)) 1 0 + cond t 1 0 ≡ cond (not s) 1 0
taken_more true true h = absurd (true≢false (h refl))
taken_more true false h = refl
taken_more false true h = refl
taken_more false false h = refl

taken_less : (s t : Bool) → (t ≡ true → s ≡ true) → cond (not s) 1 0 + cond t 1 0 ≡ cond (not (s && not t)) 1 0
taken_less true true h = refl
taken_less true false h = refl
taken_less false true h = absurd (true≢false (sym (h refl)))
taken_less false false h = refl

module _ (w first n : ℕ) (inside : first + n ≤ 64) where
  with_count : ((b : ℕ) → InRun first n b → is_taken w b ≡ false) → free_blocks (with_run w first n) + n ≡ free_blocks w
  with_count free =
      let e : how_many 64 (in_run first n) ≡ n = run_count first n 64 ∙ omega arith in
      let s = sum_of 64 (λ b. not (is_taken (with_run w first n) b)) (in_run first n) (λ b. not (is_taken w b)) (λ b l.
      ap (λ (t : Bool). cond (not t) 1 0 + cond (in_run first n b) 1 0) (with_block w first n b l) ∙
      taken_more (is_taken w b) (in_run first n b) (λ i. free b (run_has first n b i))) in
      omega (arith, e, s)

  without_count : ((b : ℕ) → InRun first n b → is_taken w b ≡ true) → free_blocks (without_run w first n) ≡ free_blocks w + n
  without_count all =
      let e : how_many 64 (in_run first n) ≡ n = run_count first n 64 ∙ omega arith in
      let s = sum_of 64 (λ b. not (is_taken w b)) (in_run first n) (λ b. not (is_taken (without_run w first n) b)) (λ b l.
      taken_less (is_taken w b) (in_run first n b) (λ i. all b (run_has first n b i)) ∙
      ap (λ (t : Bool). cond (not t) 1 0) (sym (without_block w first n b l))) in
      omega (arith, e, s)

-- ---- what is granted

-- a free run begins at one of the places
place : (w first n : ℕ) → FreeRun w first n → first < starts n
place w first n f = let i = f.inside in omega arith

module _ (w n : ℕ) (ok : (request_of w n).status ≡ 0) where
  clear : (request_fault w n).status ≡ 0
  clear = sym (request_number w n) ∙ ok

  pub answer : request_of w n ≡ record { status = 0; first = lowest_run w n; word = with_run w (lowest_run w n) n }
  unfolding request_of
  answer = if_none (request_fault w n) _ _ clear

  some_run_lem : some_run w n ≡ true
  unfolding request_fault
  some_run_lem = not-false (some_run w n) (unbroken (request_rules w n) (omega arith) clear).1

  lowest : Lowest (λ b. all_free w b n) (starts n) (lowest_run w n)
  lowest = found (λ b. all_free w b n) (starts n) some_run_lem

  pub granted_run : GrantedRun w n (request_of w n)
  granted_run =
      let f = lowest_run w n in
      let r = free_run w f n lowest.range lowest.holds in
      rw answer
      (record {
        run = r;
        lowest = λ first g. elim (dec_lt first f) [
          | yes l ↦ absurd (true≢false (sym (is_free_run w first n g) ∙ lowest.below first l))
          | no l ↦ omega arith
        ];
        taken = λ b i. with_block w f n b (omega (arith, r.inside, i.1)) ∙ either_second (is_taken w b) _ (in_run_lem f n b i);
        others = λ b l h. with_block w f n b l ∙ ap (λ (t : Bool). is_taken w b || t) (out_of_run f n b h) ∙ or-false (is_taken w b);
        fewer = with_count w f n r.inside r.free;
      })

module _ (w n : ℕ) (one : 1 ≤ n) (most : n ≤ 64) where
  -- a request that is not granted finds no run
  no_run : some_run w n ≡ false → (request_of w n).status ≡ 32
  no_run e = ap (λ (r : Granted). r.status) (sym (request-32 w n (fair n one most) e))

  run_granted : some_run w n ≡ true → (request_of w n).status ≡ 0
  run_granted e =
      let f = found (λ b. all_free w b n) (starts n) e in
      ap (λ (r : Granted). r.status)
      (sym (request-0 w n (fair n one most) (lowest_run w n) f.range f.holds (some_none (lowest_run w n) _ f.below)))

  granted_where : (first : ℕ) → FreeRun w first n → (request_of w n).status ≡ 0
  granted_where first g = run_granted (some_found (starts n) first (λ b. all_free w b n) (place w first n g) (is_free_run w first n g))

  by_run : (t : Bool) → some_run w n ≡ t → ((request_of w n).status ≡ 32) ↔ ((first : ℕ) → FreeRun w first n → ⊥)
  by_run true e = (
    λ z. absurd (omega (arith, z, run_granted e)),
    λ h. let f = found (λ b. all_free w b n) (starts n) e in absurd (h (lowest_run w n) (free_run w (lowest_run w n) n f.range f.holds)),
  )
  by_run false e = (
    λ z first g. true≢false (sym (is_free_run w first n g) ∙ some_clear (starts n) (λ b. all_free w b n) e first (place w first n g)),
    λ h. no_run e,
  )

  or_32 : (t : Bool) → some_run w n ≡ t → ((request_of w n).status ≡ 0 → ⊥) → (request_of w n).status ≡ 32
  or_32 true e h = absurd (h (run_granted e))
  or_32 false e h = no_run e

pub requests : Requests
requests = record {
  granted = granted_run;
  none = λ w n one most. by_run w n one most (some_run w n) refl;
  only = λ w n one most. or_32 w n one most (some_run w n) refl;
}

-- ---- what is given back

module _ (t : Table) (w first n : ℕ) (ok : (give_back_of t w first n).status ≡ 0) where
  back_clear : (give_back_fault t w first n).status ≡ 0
  back_clear = sym (back_number t w first n) ∙ ok

  back_answer : give_back_of t w first n ≡ record { status = 0; word = without_run w first n }
  back_answer = sym (back-given t w first n back_clear)

  -- what acceptance tells
  back_good : GoodRun first n
  back_good = good-run first n (back-told t w first n back_clear).1.0

  held_clear : (not (all_taken w first n) ≡ false) × (in_use t (run_part t.length first n) ≡ false)
  held_clear = either_clear (not (all_taken w first n)) (in_use t (run_part t.length first n)) (back-told t w first n back_clear).1.1

  unused : (h : ℕ) → h < 4 → ((slot_at t h).state ≡ 0 → ⊥) →
      (meets (run_part t.length first n) (slot_at t h).job.source ≡ false) × (meets (run_part t.length first n) (slot_at t h).job.destination ≡ false)
  unfolding in_use uses
  unused h l b =
      let s = slot_at t h in
      let p = run_part t.length first n in
      let e = some_clear 4 (λ h. uses (slot_at t h) p) held_clear.1 h l in
      either_clear (meets p s.job.source) (meets p s.job.destination)
      (rw (ne_eqb s.state 0 b) at e)

  pub back_run : BackRun t w first n (give_back_of t w first n).word
  back_run =
      let g = back_good in
      let all = taken_each w first n (not-false (all_taken w first n) held_clear.0) in
      rw back_answer
      (record {
        inside = g.inside;
        was = all;
        source = λ h l b. meets_apart _ _ (unused h l b).0;
        destination = λ h l b. meets_apart _ _ (unused h l b).1;
        free = λ b i. without_block w first n b (omega (arith, g.inside, i.1)) ∙ not_second (is_taken w b) _ (ap not (in_run_lem first n b i));
        others = λ b l h. without_block w first n b l ∙ ap (λ (t : Bool). is_taken w b && not t) (out_of_run first n b h) ∙ and-true (is_taken w b);
        more = without_count w first n g.inside all;
      })

  free_again : FreeRun (give_back_of t w first n).word first n
  free_again = record { inside = back_run.inside; free = back_run.free }

-- where a run is free, a request for as many gets it or a lower one
gets : (w first n : ℕ) → 1 ≤ n → FreeRun w first n → Gets w first n
gets w first n one f =
    let m : n ≤ 64 = omega (arith, f.inside) in
    let ok = granted_where w n one m first f in
    let g = granted_run w n ok in
    record {
      granted = ok;
      same = (
        λ e lower l r. omega (arith, e, g.lowest lower r),
        λ h. elim (dec_lt (request_of w n).first first) [
          | yes l ↦ absurd (h (request_of w n).first l g.run)
          | no l ↦ omega (arith, g.lowest first f)
        ],
      );
    }

-- a block out of the run is as it was, and one of it was free
taken_back : (s t : Bool) → (t ≡ true → s ≡ false) → s ≡ ((s || t) && not t)
taken_back true true h = absurd (true≢false (h refl))
taken_back true false h = refl
taken_back false true h = refl
taken_back false false h = refl

restored : (w first n : ℕ) → Word w → FreeRun w first n → without_run (with_run w first n) first n ≡ w
unfolding without_run
restored w first n wide f =
    sym (is_of 64 w (λ b. is_taken (with_run w first n) b && not (in_run first n b)) wide (λ b l.
    taken_back (is_taken w b) (in_run first n b) (λ e. f.free b (run_has first n b e)) ∙
    ap (λ (t : Bool). t && not (in_run first n b)) (sym (with_block w first n b l))))

pub gives_back : GivesBack
gives_back = record {
  freed = back_run;
  again = λ t w first n ok. gets (give_back_of t w first n).word first n (back_good t w first n ok).least (free_again t w first n ok);
  restored = λ t w n wide ok back.
      ap (λ (r : GivenBack). r.word) (back_answer t (request_of w n).word (request_of w n).first n back) ∙
      (rw (answer w n ok) (restored w (lowest_run w n) n wide (rw (answer w n ok) at (granted_run w n ok).run)));
}

-- ---- counts

pub free_before : CountsBefore
free_before w = go (some 64 (is_taken w)) refl
  where
    go : (t : Bool) → some 64 (is_taken w) ≡ t → FreeBefore w (free_before_first_taken w)
    go true e =
        let f = found (is_taken w) 64 e in
        record { most = omega (arith, f.range); before = f.below; taken = λ l. f.holds }
    go false e =
        let n : lowest_of 64 (is_taken w) ≡ 64 = lowest_none (is_taken w) 64 e in
        rw n (record { most = omega arith; before = λ b l. some_clear 64 (is_taken w) e b l; taken = λ l. absurd (omega arith) })
