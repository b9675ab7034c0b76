-- Tools that share one memory: calls of the keeper between calls on a table, and who holds which blocks. Demand 3 stands; and transfers
-- with both parts in blocks of their own are refused by neither 20 nor 22.
use Rattle.std.specs.Prelude.{ℕ, ◌+◌, ◌*◌, ◌/◌, ◌≤◌, ◌<◌, ◌≡◌, ◌⊎◌, cond, ◌&&◌, List, [], ◌∷◌, eqb, length}
use Rattle.parts.specs.declared.Part.{Part}
use Rattle.parts.specs.Parts.{Has}
use Rattle.mover.specs.declared.Job.{Job}
use Rattle.transfers.specs.declared.Table.{Table}
use Rattle.transfers.specs.declared.Prepared.{Prepared}
use Rattle.transfers.specs.Slots.{slot_at}
use Rattle.transfers.specs.Calls.{prepare_of}
use Rattle.transfers.specs.Demand3.{Call, prepare, start, step, release, poll, World, fresh_world, after, run, Demand3}
use Rattle.keeper.specs.declared.Granted.{Granted}
use Rattle.keeper.specs.declared.GivenBack.{GivenBack}
use Rattle.keeper.specs.Calls.{request_of, block_bytes, run_part, give_back_of}
use Rattle.keeper.specs.Claims.{InRun}

-- ---- who holds which blocks

-- what the tools write down of the keeper's accepted calls, the newest first. An owner is any number by which runs are told apart
pub data Deed : Type 0 where
  -- to which owner, and the run: its first block, and how many
  granted : ℕ → ℕ → ℕ → Deed
  given_back : ℕ → ℕ → Deed

-- block b was granted to `who` in some run, and was not given back since
abbrev pub Holds : List Deed → ℕ → ℕ → Type 0
Holds [] who b = ⊥
Holds (granted to first n ∷ older) who b = ((to ≡ who) × InRun first n b) ⊎ Holds older who b
Holds (given_back first n ∷ older) who b = (InRun first n b → ⊥) × Holds older who b

-- the part of a memory of l bytes lies in blocks that the owner `who` holds. (`ends` speaks for a part that has no bytes)
pub record InOwn (l : ℕ) (deeds : List Deed) (who : ℕ) (p : Part) : Type 0 where
  pub ends : p.start + p.length ≤ 64 * block_bytes l
  pub held : (i : ℕ) → Has p i → Holds deeds who (i / block_bytes l)

-- a transfer has two owners: it reads in blocks of the one, and writes in blocks of the other, which may be the same. So transfers may
-- read in the same blocks, as prepare allows
pub record Owners : Type 0 where
  pub reads : ℕ
  pub writes : ℕ

-- both parts of a job lie in blocks of its owners
pub record Housed (l : ℕ) (deeds : List Deed) (o : Owners) (j : Job) : Type 0 where
  pub source : InOwn l deeds o.reads j.source
  pub destination : InOwn l deeds o.writes j.destination

-- a part is in its own blocks if it lies in the part of a run, each of whose blocks `who` holds
abbrev pub RunIsOwn : Type 0
RunIsOwn =
    (l : ℕ) (deeds : List Deed) (who first n : ℕ) (p : Part) → first + n ≤ 64 → ((b : ℕ) → InRun first n b → Holds deeds who b)
    → (run_part l first n).start ≤ p.start → p.start + p.length ≤ (run_part l first n).start + (run_part l first n).length
    → InOwn l deeds who p

-- ---- calls of the tools

pub data ToolCall : Type 0 where
  -- for which owners, and a call on the table
  on_table : Owners → Call → ToolCall
  -- for which owner, and how many blocks
  request : ℕ → ℕ → ToolCall
  -- the run
  give_back : ℕ → ℕ → ToolCall
  -- a call of the keeper that only tells: a count, or the part that a run is
  ask : ToolCall

-- table, memory and log; the word, and what is written down of it; the owners of the transfer at each handle
pub record Tools : Type 0 where
  pub world : World
  pub word : ℕ
  pub deeds : List Deed
  pub owner : ℕ → Owners

-- a fresh table for n bytes, the memory m, and a word to begin with
unfoldable pub fresh_tools : ℕ → List ℕ → ℕ → Tools
fresh_tools n m w = record { world = fresh_world n m; word = w; deeds = []; owner = λ h. record { reads = 0; writes = 0 } }

-- of a refused call nothing is written down

unfoldable pub note_request : ℕ → ℕ → Granted → List Deed → List Deed
note_request who n a deeds = cond (eqb a.status 0) (granted who a.first n ∷ deeds) deeds

unfoldable pub note_back : ℕ → ℕ → GivenBack → List Deed → List Deed
note_back first n a deeds = cond (eqb a.status 0) (given_back first n ∷ deeds) deeds

unfoldable pub note_owner : Owners → Prepared → (ℕ → Owners) → ℕ → Owners
note_owner who a owner h = cond (eqb a.status 0 && eqb h a.handle) who (owner h)

-- whose the transfers are after a call on the table: only a prepare changes it
abbrev pub owners_after : Owners → Call → World → (ℕ → Owners) → ℕ → Owners
owners_after who (prepare j) w owner = note_owner who (prepare_of w.table (length w.memory) j) owner
owners_after who (start h) w owner = owner
owners_after who (step h b) w owner = owner
owners_after who (release h) w owner = owner
owners_after who (poll h) w owner = owner

-- a call of the keeper is handed the word, to give back also the table, and changes neither table nor memory
unfoldable pub after_tool : ToolCall → Tools → Tools
after_tool (on_table who c) s =
    record { world = after c s.world; word = s.word; deeds = s.deeds; owner = owners_after who c s.world s.owner }
after_tool (request who n) s =
    let a = request_of s.word n in
    record { world = s.world; word = a.word; deeds = note_request who n a s.deeds; owner = s.owner }
after_tool (give_back first n) s =
    let a = give_back_of s.world.table s.word first n in
    record { world = s.world; word = a.word; deeds = note_back first n a s.deeds; owner = s.owner }
after_tool ask s = s

unfoldable pub run_tools : List ToolCall → Tools → Tools
run_tools [] s = s
run_tools (c ∷ cs) s = run_tools cs (after_tool c s)

-- ---- demand 3 stands

-- the calls on the table alone
abbrev pub table_calls : List ToolCall → List Call
table_calls [] = []
table_calls (on_table who c ∷ cs) = c ∷ table_calls cs
table_calls (request who n ∷ cs) = table_calls cs
table_calls (give_back first n ∷ cs) = table_calls cs
table_calls (ask ∷ cs) = table_calls cs

-- whatever the tools call, table, memory and log are what the calls on the table alone lead to, and demand 3 holds of them
pub record DemandStands : Type 0 where
  pub alone : (cs : List ToolCall) (s : Tools) → (run_tools cs s).world ≡ run (table_calls cs) s.world
  pub stands : (n : ℕ) (m₀ : List ℕ) (w : ℕ) (cs : List ToolCall) →
      let r = (run_tools cs (fresh_tools n m₀ w)).world in Demand3 m₀ r.table r.memory r.log

-- ---- no two tools collide

-- whatever the tools called before, a request gets no block that anybody holds
abbrev pub GrantedOnce : Type 0
GrantedOnce =
    (n : ℕ) (m₀ : List ℕ) (w : ℕ) (cs : List ToolCall) → let s = run_tools cs (fresh_tools n m₀ w) in
    (k : ℕ) → let a = request_of s.word k in a.status ≡ 0 → (who b : ℕ) → InRun a.first k b → Holds s.deeds who b → ⊥

-- the slot at h is not free
abbrev pub Busy : Table → ℕ → Type 0
Busy t h = (h < 4) × ((slot_at t h).state ≡ 0 → ⊥)

-- both parts of each transfer in the table lie in blocks of its owners
abbrev pub AllHoused : Table → List Deed → (ℕ → Owners) → Type 0
AllHoused t deeds owner = (h : ℕ) → Busy t h → Housed t.length deeds (owner h) (slot_at t h).job

-- a job with both parts in blocks of its owners, where no other transfer in the table reads or writes in the blocks that it writes in, nor
-- writes in those that it reads in
pub record OfItsOwn (t : Table) (deeds : List Deed) (owner : ℕ → Owners) (who : Owners) (j : Job) : Type 0 where
  pub housed : Housed t.length deeds who j
  pub unwritten : (h : ℕ) → Busy t h → who.writes ≡ (owner h).writes → ⊥
  pub unread : (h : ℕ) → Busy t h → who.writes ≡ (owner h).reads → ⊥
  pub unchanged : (h : ℕ) → Busy t h → who.reads ≡ (owner h).writes → ⊥

-- over a memory of n bytes, prepare refuses the job with neither
pub record Neither20Nor22 (t : Table) (n : ℕ) (j : Job) : Type 0 where
  pub not_20 : (prepare_of t n j).status ≡ 20 → ⊥
  pub not_22 : (prepare_of t n j).status ≡ 22 → ⊥

-- whatever the tools called before: if every slot that is not free has both its parts in blocks that were granted to its owners and not
-- given back since, a prepare whose parts lie in blocks of its own meets neither 20 nor 22
abbrev pub NoCollision : Type 0
NoCollision =
    (n : ℕ) (m₀ : List ℕ) (w : ℕ) (cs : List ToolCall) →
    let s = run_tools cs (fresh_tools n m₀ w) in let t = s.world.table in
    (owner : ℕ → Owners) → AllHoused t s.deeds owner → (who : Owners) (j : Job) → OfItsOwn t s.deeds owner who j
    → (k : ℕ) → Neither20Nor22 t k j

-- a call in order: a prepare is of such a job; every other call may be made at any time
abbrev pub InOrder : ToolCall → Tools → Type 0
InOrder (on_table who (prepare j)) s = OfItsOwn s.world.table s.deeds s.owner who j
InOrder (on_table who (start h)) s = Unit {0}
InOrder (on_table who (step h b)) s = Unit {0}
InOrder (on_table who (release h)) s = Unit {0}
InOrder (on_table who (poll h)) s = Unit {0}
InOrder (request who n) s = Unit {0}
InOrder (give_back first n) s = Unit {0}
InOrder ask s = Unit {0}

abbrev pub AllInOrder : List ToolCall → Tools → Type 0
AllInOrder [] s = Unit {0}
AllInOrder (c ∷ cs) s = InOrder c s × AllInOrder cs (after_tool c s)

-- tools that make only such calls never meet 20 or 22, with nothing asked of the table: no block with a byte of a transfer in it is
-- given back
abbrev pub OrderlyTools : Type 0
OrderlyTools =
    (n : ℕ) (m₀ : List ℕ) (w : ℕ) (cs : List ToolCall) → AllInOrder cs (fresh_tools n m₀ w) →
    let s = run_tools cs (fresh_tools n m₀ w) in let t = s.world.table in
    (who : Owners) (j : Job) → OfItsOwn t s.deeds s.owner who j → (k : ℕ) → Neither20Nor22 t k j
