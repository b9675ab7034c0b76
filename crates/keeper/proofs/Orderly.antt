-- Tools that prepare each transfer in blocks of its own: the parts of every transfer in the table stay in blocks that its owner holds,
-- since no block with a byte of them is given back. So no prepare of theirs meets 20 or 22. Assumes nothing.
use Prim.Native.Nat.{ℕ, ◌/◌, ◌<◌}
use native.Mathlib.Decide.{ℕ_discrete}
use native.Mathlib.Omega.{arith}
use mathlib.Core.Path.{◌≡◌, refl, ap, ◌∙◌}
use mathlib.Core.Logic.{inr}
use mathlib.Core.Bool.{cond}
use mathlib.Core.List.{List, [], ◌∷◌}
use borrow.Author.Tests.{eq-eqb, ne_eqb}
use lib.Dec.{eqb}
use lib.ListN.{length}
use Rattle.faults.proofs.Faults.{by_fault}
use Rattle.parts.specs.declared.Part.{Part}
use Rattle.parts.specs.Parts.{Has, Apart}
use Rattle.plane.proofs.Arrays.{same_at}
use Rattle.mover.specs.declared.Job.{Job}
use Rattle.transfers.specs.declared.Slot.{Slot}
use Rattle.transfers.specs.declared.Table.{Table}
use Rattle.transfers.specs.declared.FreshTable.{FreshTable}
use Rattle.transfers.specs.declared.Prepared.{Prepared}
use Rattle.transfers.specs.declared.Changed.{Changed}
use Rattle.transfers.specs.declared.Stepped.{Stepped}
use Rattle.transfers.specs.Slots.{free_slot, slot_at, with_slot, lowest_free}
use Rattle.transfers.specs.Calls.{fresh_fault, fresh_of, prepare_fault, prepare_of, new_slot, call_fault, changed, start_of, release_of, later, step_count, step_of}
use Rattle.transfers.specs.Demand3.{Call, prepare, start, step, release, poll, fresh_world, after}
use Rattle.transfers.proofs.Fours.{slot_same, slot_other, with_length, lowest_is}
use Rattle.transfers.proofs.Answers.{called, preparing}
use Rattle.keeper.specs.Calls.{request_of, block_bytes, run_part, give_back_of}
use Rattle.keeper.specs.Sharing.{Deed, given_back, Holds, InOwn, Owners, Housed, ToolCall, on_table, request, give_back, ask, Tools, fresh_tools, note_request, note_back, note_owner, owners_after, after_tool, run_tools, AllHoused, InOrder, AllInOrder, OrderlyTools}
use Rattle.keeper.proofs.Granting.{back_run}
use Rattle.keeper.proofs.Placing.{byte_of}
use Rattle.keeper.proofs.Sharing.{no_collision}

-- ---- calls of the keeper

module _ (l : ℕ) (deeds later : List Deed) where
  -- where each block with a byte of the part stays held
  abbrev Stays : ℕ → Part → Type 0
  Stays who p = (i : ℕ) → Has p i → Holds deeds who (i / block_bytes l) → Holds later who (i / block_bytes l)

  own_still : (who : ℕ) (p : Part) → Stays who p → InOwn l deeds who p → InOwn l later who p
  own_still who p f a = record { ends = a.ends; held = λ i h. f i h (a.held i h) }

  house_still : (o : Owners) (j : Job) → Stays o.reads j.source → Stays o.writes j.destination → Housed l deeds o j → Housed l later o j
  house_still o j f g a = record { source = own_still _ _ f a.source; destination = own_still _ _ g a.destination }

module _ (t : Table) (w : ℕ) (deeds : List Deed) (owner : ℕ → Owners) (all : AllHoused t deeds owner) where
  in_request : (who n : ℕ) → AllHoused t (note_request who n (request_of w n) deeds) owner
  unfolding note_request
  in_request who n = elim (ℕ_discrete (request_of w n).status 0) [
    | yes z ↦ rw (eq-eqb (request_of w n).status 0 z) (λ h b.
        house_still t.length deeds _ (owner h) (slot_at t h).job (λ i x y. inr y) (λ i x y. inr y) (all h b))
    | no z ↦ rw (ne_eqb (request_of w n).status 0 z) all
  ]

  -- a part that has no byte of the run has none in its blocks
  spared : (p : Part) (who first n : ℕ) → InOwn t.length deeds who p → Apart (run_part t.length first n) p
      → (i : ℕ) → Has p i → Holds deeds who (i / block_bytes t.length) → Holds (given_back first n ∷ deeds) who (i / block_bytes t.length)
  spared p who first n a free i x y =
      let b : 0 < block_bytes t.length = omega (arith, a.ends, x.0, x.1) in
      (λ r. free i (byte_of t.length first n i b r) x, y)

  in_back : (first n : ℕ) → AllHoused t (note_back first n (give_back_of t w first n) deeds) owner
  unfolding note_back
  in_back first n = elim (ℕ_discrete (give_back_of t w first n).status 0) [
    | yes z ↦ rw (eq-eqb (give_back_of t w first n).status 0 z) (λ h b.
        let j = (slot_at t h).job in
        let a = all h b in
        let r = back_run t w first n z in
        house_still t.length deeds (given_back first n ∷ deeds) (owner h) j
        (spared j.source (owner h).reads first n a.source (r.source h b.0 b.1))
        (spared j.destination (owner h).writes first n a.destination (r.destination h b.0 b.1)) a)
    | no z ↦ rw (ne_eqb (give_back_of t w first n).status 0 z) all
  ]

  -- ---- calls on the table

  -- a slot put in its place, for whom: its parts, where it is not free, lie in that one's blocks
  in_with : (g : ℕ) (s : Slot) (then : ℕ → Owners) → g < 4 → ((h : ℕ) → (h ≡ g → ⊥) → then h ≡ owner h)
      → ((s.state ≡ 0 → ⊥) → Housed t.length deeds (then g) s.job) → AllHoused (with_slot t g s) deeds then
  in_with g s then l same new h b = elim (ℕ_discrete h g) [
    | yes e ↦ let q : slot_at (with_slot t g s) h ≡ s = ap (slot_at (with_slot t g s)) e ∙ slot_same t g s l in
        rw (with_length t g s, q, e) (new (λ z. b.1 (ap (λ (x : Slot). x.state) q ∙ z)))
    | no e ↦ let q = slot_other t g s h b.0 e in
        rw (with_length t g s, q, same h e) (all h (b.0, λ z. b.1 (ap (λ (x : Slot). x.state) q ∙ z)))
  ]

  in_prepare : (who : Owners) (n : ℕ) (j : Job) → Housed t.length deeds who j → AllHoused (prepare_of t n j).table deeds (note_owner who (prepare_of t n j) owner)
  unfolding prepare_of note_owner
  in_prepare who n j house =
      by_fault (λ (a : Prepared). AllHoused a.table deeds (note_owner who a owner)) (prepare_fault t n j)
      (λ z. let g = lowest_free t in
      in_with g (new_slot j) (λ h. cond (eqb h g) who (owner h)) (lowest_is t (preparing t n j z).room).range
      (λ h d. rw (ne_eqb h g d)) (λ b. rw (eq-eqb g g refl) house))
      (λ z h b. rw (ne_eqb (prepare_fault t n j).status 0 z) (all h b))

  -- a slot whose job stays, or that is free then
  in_changed : (n g want : ℕ) (s : Slot) → ((s.state ≡ 0 → ⊥) → s.job ≡ (slot_at t g).job) → AllHoused (changed (call_fault t n g want) t g s).table deeds owner
  unfolding changed
  in_changed n g want s same =
      by_fault (λ (a : Changed). AllHoused a.table deeds owner) (call_fault t n g want)
      (λ z. let c = called t n g want z in
      in_with g s owner c.range (λ h d. refl) (λ b. rw (same b) (all g (c.range, c.taken))))
      (λ z. all)

  in_step : (n g budget : ℕ) → AllHoused (step_of t n g budget).table deeds owner
  unfolding step_of later
  in_step n g budget =
      by_fault (λ (a : Stepped). AllHoused a.table deeds owner) (call_fault t n g 2)
      (λ z. let c = called t n g 2 z in
      in_with g (later (slot_at t g) (step_count (slot_at t g) budget)) owner c.range (λ h d. refl) (λ b. all g (c.range, c.taken)))
      (λ z. all)

-- ---- a call, and many

in_call : (who : Owners) (c : Call) (s : Tools) → InOrder (on_table who c) s → AllHoused s.world.table s.deeds s.owner
    → AllHoused (after c s.world).table s.deeds (owners_after who c s.world s.owner)
unfolding after start_of release_of
in_call who (prepare j) s own all = let w = s.world in in_prepare w.table s.word s.deeds s.owner all who (length w.memory) j own.housed
in_call who (start h) s own all = let w = s.world in in_changed w.table s.word s.deeds s.owner all (length w.memory) h 1 _ (λ b. refl)
in_call who (step h b) s own all = let w = s.world in in_step w.table s.word s.deeds s.owner all (length w.memory) h b
in_call who (release h) s own all = let w = s.world in in_changed w.table s.word s.deeds s.owner all (length w.memory) h 3 free_slot (λ b. absurd (b refl))
in_call who (poll h) s own all = all

all_housed : (cs : List ToolCall) (s : Tools) → AllInOrder cs s → AllHoused s.world.table s.deeds s.owner
    → let r = run_tools cs s in AllHoused r.world.table r.deeds r.owner
unfolding run_tools after_tool
all_housed [] s o all = all
all_housed (on_table who c ∷ cs) s o all = all_housed cs (after_tool (on_table who c) s) o.1 (in_call who c s o.0 all)
all_housed (request who n ∷ cs) s o all =
    all_housed cs (after_tool (request who n) s) o.1 (in_request s.world.table s.word s.deeds s.owner all who n)
all_housed (give_back first n ∷ cs) s o all =
    all_housed cs (after_tool (give_back first n) s) o.1 (in_back s.world.table s.word s.deeds s.owner all first n)
all_housed (ask ∷ cs) s o all = all_housed cs s o.1 all

fresh_housed : (n : ℕ) (m₀ : List ℕ) (w : ℕ) → let s = fresh_tools n m₀ w in AllHoused s.world.table s.deeds s.owner
unfolding fresh_tools fresh_world fresh_of
fresh_housed n m₀ w h b =
    let free = ap (λ (x : Slot). x.state) (same_at free_slot h) in
    absurd (b.1 (by_fault (λ (a : FreshTable). (slot_at a.table h).state ≡ 0) (fresh_fault n) (λ z. free) (λ z. free)))

pub orderly_tools : OrderlyTools
orderly_tools n m₀ w cs o who j own k =
    let s = run_tools cs (fresh_tools n m₀ w) in
    no_collision n m₀ w cs s.owner (all_housed cs (fresh_tools n m₀ w) o (fresh_housed n m₀ w)) who j own k
