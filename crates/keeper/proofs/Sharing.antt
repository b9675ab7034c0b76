-- Tools that share one memory (`specs/Sharing.antt`): demand 3 stands; no block is held by two, so parts in blocks of one's own meet
-- nobody else's. Assumes nothing.
use Prim.Native.Nat.{ℕ, ◌+◌, ◌/◌, ◌<◌}
use native.Mathlib.Decide.{ℕ_discrete}
use native.Mathlib.Omega.{arith}
use mathlib.Core.Path.{◌≡◌, refl, sym, ap, ◌∙◌}
use mathlib.Core.Logic.{inl, inr}
use mathlib.Core.Bool.{Bool, true, false, ◌||◌, true≢false}
use mathlib.Core.List.{List, [], ◌∷◌}
use borrow.Author.Tests.{eq-eqb, ne_eqb, eqb-true, le-ltb, not-false}
use lib.Dec.{eqb}
use Rattle.faults.specs.Faults.{overall}
use Rattle.faults.specs.Exactness.{Given, Unbroken}
use Rattle.faults.proofs.Bools.{neither}
use Rattle.faults.proofs.Chains.{never_given}
use Rattle.parts.specs.declared.Part.{Part}
use Rattle.parts.specs.Parts.{Has}
use Rattle.plane.proofs.Arrays.{some_none}
use Rattle.mover.specs.declared.Job.{Job}
use Rattle.mover.specs.Within.{leaves, meets, job_rules}
use Rattle.mover.proofs.Exact.{given_20}
use Rattle.mover.proofs.Meeting.{meets_shared, leaves_end}
use Rattle.transfers.specs.declared.Table.{Table}
use Rattle.transfers.specs.Slots.{slot_at, breaks, clashes, table_sound, lowest_free}
use Rattle.transfers.specs.Calls.{open_rules, prepare_rules, prepare_of}
use Rattle.transfers.specs.Demand3.{run}
use Rattle.transfers.proofs.Demand3.{demand_3_run}
use Rattle.transfers.proofs.Exact.{prepare_exact}
use Rattle.transfers.proofs.Sounds.{sound_tells, free_breaks_none}
use Rattle.transfers.proofs.Meeting.{breaks_either}
use Rattle.keeper.specs.declared.Granted.{Granted}
use Rattle.keeper.specs.declared.GivenBack.{GivenBack}
use Rattle.keeper.specs.Blocks.{is_taken}
use Rattle.keeper.specs.Calls.{request_of, block_bytes, give_back_of}
use Rattle.keeper.specs.Claims.{InRun}
use Rattle.keeper.specs.Sharing.{Deed, granted, given_back, Holds, InOwn, Owners, RunIsOwn, ToolCall, on_table, request, give_back, ask, Tools, fresh_tools, note_request, note_back, after_tool, run_tools, table_calls, DemandStands, GrantedOnce, AllHoused, OfItsOwn, Neither20Nor22, NoCollision}
use Rattle.keeper.proofs.Exact.{refused_keeper}
use Rattle.keeper.proofs.Granting.{granted_run, back_run}
use Rattle.keeper.proofs.Placing.{blocks_end, run_ends, block_of}

-- ---- demand 3 stands

alone : (cs : List ToolCall) (s : Tools) → (run_tools cs s).world ≡ run (table_calls cs) s.world
unfolding run_tools after_tool run
alone [] s = refl
alone (on_table who c ∷ cs) s = alone cs (after_tool (on_table who c) s)
alone (request who n ∷ cs) s = alone cs (after_tool (request who n) s)
alone (give_back first n ∷ cs) s = alone cs (after_tool (give_back first n) s)
alone (ask ∷ cs) s = alone cs s

pub demand_stands : DemandStands
unfolding fresh_tools
demand_stands = record {
  alone = alone;
  stands = λ n m₀ w cs. rw (alone cs (fresh_tools n m₀ w)) (demand_3_run n m₀ (table_calls cs));
}

-- ---- no block is held by two

-- of the word, and of what is written down of it
record Kept (w : ℕ) (deeds : List Deed) : Type 0 where
  pub inside : (who b : ℕ) → Holds deeds who b → b < 64
  pub taken : (who b : ℕ) → Holds deeds who b → is_taken w b ≡ true
  pub one : (who other b : ℕ) → Holds deeds who b → Holds deeds other b → who ≡ other

module _ {w : ℕ} {deeds : List Deed} (k : Kept w deeds) where
  module _ (who n : ℕ) (ok : (request_of w n).status ≡ 0) where
    -- nobody holds what is granted
    unheld : (other b : ℕ) → InRun (request_of w n).first n b → Holds deeds other b → ⊥
    unheld other b i h = true≢false (sym (k.taken other b h) ∙ (granted_run w n ok).run.free b i)

    kept_grant : Kept (request_of w n).word (granted who (request_of w n).first n ∷ deeds)
    kept_grant = record {
      inside = inside_then;
      taken = taken_then;
      one = one_then;
    }
      where
        inside_then : (x b : ℕ) → Holds (granted who (request_of w n).first n ∷ deeds) x b → b < 64
        inside_then x b (inl h) = omega (arith, h.1.1, (granted_run w n ok).run.inside)
        inside_then x b (inr h) = k.inside x b h

        taken_then : (x b : ℕ) → Holds (granted who (request_of w n).first n ∷ deeds) x b → is_taken (request_of w n).word b ≡ true
        taken_then x b (inl h) = (granted_run w n ok).taken b h.1
        taken_then x b (inr h) =
            (granted_run w n ok).others b (k.inside x b h) (λ i. unheld x b i h) ∙ k.taken x b h

        one_then : (x y b : ℕ) → Holds (granted who (request_of w n).first n ∷ deeds) x b → Holds (granted who (request_of w n).first n ∷ deeds) y b → x ≡ y
        one_then x y b (inl h) (inl g) = sym h.0 ∙ g.0
        one_then x y b (inl h) (inr g) = absurd (unheld y b h.1 g)
        one_then x y b (inr h) (inl g) = absurd (unheld x b g.1 h)
        one_then x y b (inr h) (inr g) = k.one x y b h g

  kept_request : (who n : ℕ) → Kept (request_of w n).word (note_request who n (request_of w n) deeds)
  unfolding note_request
  kept_request who n = elim (ℕ_discrete (request_of w n).status 0) [
    | yes z ↦ rw (eq-eqb (request_of w n).status 0 z) (kept_grant who n z)
    | no z ↦ rw (ne_eqb (request_of w n).status 0 z, ap (λ (r : Granted). r.word) (refused_keeper.request w n z)) k
  ]

  kept_free : (t : Table) (first n : ℕ) → (give_back_of t w first n).status ≡ 0 → Kept (give_back_of t w first n).word (given_back first n ∷ deeds)
  kept_free t first n ok = record {
    inside = λ who b h. k.inside who b h.1;
    taken = λ who b h. (back_run t w first n ok).others b (k.inside who b h.1) h.0 ∙ k.taken who b h.1;
    one = λ who other b h g. k.one who other b h.1 g.1;
  }

  kept_back : (t : Table) (first n : ℕ) → let a = give_back_of t w first n in Kept a.word (note_back first n a deeds)
  unfolding note_back
  kept_back t first n = elim (ℕ_discrete (give_back_of t w first n).status 0) [
    | yes z ↦ rw (eq-eqb (give_back_of t w first n).status 0 z) (kept_free t first n z)
    | no z ↦ rw (ne_eqb (give_back_of t w first n).status 0 z, ap (λ (r : GivenBack). r.word) (refused_keeper.give_back t w first n z)) k
  ]

kept_tools : (cs : List ToolCall) (s : Tools) → Kept s.word s.deeds → let r = run_tools cs s in Kept r.word r.deeds
unfolding run_tools after_tool
kept_tools [] s k = k
kept_tools (on_table who c ∷ cs) s k = kept_tools cs (after_tool (on_table who c) s) k
kept_tools (request who n ∷ cs) s k = kept_tools cs (after_tool (request who n) s) (kept_request k who n)
kept_tools (give_back first n ∷ cs) s k = kept_tools cs (after_tool (give_back first n) s) (kept_back k s.world.table first n)
kept_tools (ask ∷ cs) s k = kept_tools cs s k

kept_fresh : (n : ℕ) (m₀ : List ℕ) (w : ℕ) → let s = fresh_tools n m₀ w in Kept s.word s.deeds
unfolding fresh_tools
kept_fresh n m₀ w = record { inside = λ who b x. absurd x; taken = λ who b x. absurd x; one = λ who other b x y. absurd x }

pub granted_once : GrantedOnce
granted_once n m₀ w cs k ok = unheld (kept_tools cs (fresh_tools n m₀ w) (kept_fresh n m₀ w)) 0 k ok

-- ---- parts in blocks of one's own

pub run_is_own : RunIsOwn
run_is_own l deeds who first n p inside all lo hi = record {
  ends = omega (arith, run_ends l first n inside);
  held = λ i h. all (i / block_bytes l) (block_of l first n i (positive i h) (omega (arith, h.0), omega (arith, h.1)));
}
  where
    positive : (i : ℕ) → Has p i → 0 < block_bytes l
    positive i h = omega (arith, run_ends l first n inside, h.0, h.1)

-- parts in blocks of two owners who are not the same share no byte
module _ {w : ℕ} {deeds : List Deed} (k : Kept w deeds) (l : ℕ) where
  no_meeting : {who other : ℕ} {p q : Part} → (who ≡ other → ⊥) → InOwn l deeds who p → InOwn l deeds other q → meets p q ≡ false
  no_meeting {who} {other} {p} {q} d a b = go (meets p q) refl
    where
      go : (t : Bool) → meets p q ≡ t → t ≡ false
      go true e = let (i, x, y) = meets_shared p q e in absurd (d (k.one who other (i / block_bytes l) (a.held i x) (b.held i y)))
      go false e = refl

-- such a part does not leave the memory
stays : (l : ℕ) (deeds : List Deed) (who : ℕ) (p : Part) → InOwn l deeds who p → leaves l p ≡ false
stays l deeds who p a = leaves_end l p ∙ le-ltb l (p.start + p.length) (omega (arith, a.ends, blocks_end l))

-- ---- prepare gives neither 20 nor 22

module _
    (t : Table) {w : ℕ} {deeds : List Deed} (k : Kept w deeds) (owner : ℕ → Owners) (all : AllHoused t deeds owner) (who : Owners) (j : Job)
    (own : OfItsOwn t deeds owner who j) where
  no_clash : table_sound t ≡ true → clashes t j 4 ≡ false
  unfolding clashes breaks
  no_clash e = some_none 4 (λ h. breaks j (slot_at t h).job) (λ h l. elim (ℕ_discrete (slot_at t h).state 0) [
    | yes z ↦ breaks_either j (slot_at t h).job ∙ free_breaks_none t.length (slot_at t h) j ((sound_tells t e).each h l) z
    | no z ↦ let a = own.housed in let b = all h (l, z) in
        neither _ _
        (neither _ _ (no_meeting k t.length (own.unwritten h (l, z)) a.destination b.destination)
        (no_meeting k t.length (own.unread h (l, z)) a.destination b.source))
        (no_meeting k t.length (own.unchanged h (l, z)) a.source b.destination)
  ])

  module _ (n d : ℕ) where
    -- 17 and 18 are not given: the memory is as long as the table's, which is sound
    long : Unbroken (open_rules t n) → n ≡ t.length
    long u = eqb-true n t.length (not-false (eqb n t.length) u.0)

    fits : n ≡ t.length → (leaves n j.source || leaves n j.destination) ≡ false
    fits e = rw e (neither _ _ (stays t.length deeds who.reads j.source own.housed.source) (stays t.length deeds who.writes j.destination own.housed.destination))

    never_20 : Given (prepare_rules t n j) 20 d → ⊥
    never_20 (inl g) = never_given (open_rules t n) 20 d refl g
    never_20 (inr (u, inl g)) = never_given (overall 19 (eqb (lowest_free t) 4)) 20 d refl g
    never_20 (inr (u, inr (v, inl g))) = true≢false (sym (given_20 n j d g) ∙ fits (long u))
    never_20 (inr (u, inr (v, inr g))) = never_given (overall 22 (clashes t j 4)) 20 d refl g.1

    never_22 : Given (prepare_rules t n j) 22 d → ⊥
    never_22 (inl g) = never_given (open_rules t n) 22 d refl g
    never_22 (inr (u, inl g)) = never_given (overall 19 (eqb (lowest_free t) 4)) 22 d refl g
    never_22 (inr (u, inr (v, inl g))) = never_given (job_rules n j) 22 d refl g
    never_22 (inr (u, inr (v, inr g))) = true≢false (sym g.1.1 ∙ no_clash (not-false (table_sound t) u.1))

  neither_given : (n : ℕ) → Neither20Nor22 t n j
  neither_given n = let d = (prepare_of t n j).dim in record {
    not_20 = λ z. never_20 n d (((prepare_exact t n j).gives 20 d (omega arith)).0 (z, refl));
    not_22 = λ z. never_22 n d (((prepare_exact t n j).gives 22 d (omega arith)).0 (z, refl));
  }

pub no_collision : NoCollision
no_collision n m₀ w cs owner all who j own k =
    let s = run_tools cs (fresh_tools n m₀ w) in
    neither_given s.world.table (kept_tools cs (fresh_tools n m₀ w) (kept_fresh n m₀ w)) owner all who j own k
