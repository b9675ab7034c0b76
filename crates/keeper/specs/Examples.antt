-- Two tools that share a memory, call by call: what is asked of tools can be met.
use Rattle.std.specs.Prelude.{ℕ, ◌≡◌, List, [], ◌∷◌, replicate}
use Rattle.plane.specs.Signs.{zeros_z}
use Rattle.plane.specs.Settings.{zero_config, with_step}
use Rattle.mover.specs.declared.Job.{Job}
use Rattle.transfers.specs.Slots.{slot_at}
use Rattle.transfers.specs.Calls.{new_slot}
use Rattle.transfers.specs.Demand3.{prepare}
use Rattle.keeper.specs.Sharing.{Owners, ToolCall, on_table, request, give_back, Tools, fresh_tools, run_tools, AllInOrder}

-- one byte, from byte a to byte b
abbrev pub byte_job : ℕ → ℕ → Job
byte_job a b = record {
  source = record { start = a; length = 1 };
  destination = record { start = b; length = 1 };
  tensor = record { rank = 1; element_size = 1; shape = 1 ∷ 0 ∷ 0 ∷ 0 ∷ []; stride = zeros_z };
  config = with_step zero_config (1 ∷ 0 ∷ 0 ∷ 0 ∷ []);
}

-- in 64 bytes a block is a byte. Owner 3 gets blocks 0 and 1, owners 1 and 2 blocks 2 and 3; two transfers read byte 0, and one writes into
-- byte 2, the other into byte 3. Then block 1 is given back, which neither needs, and block 0 is asked to be given back
abbrev pub into : ℕ → Owners
into who = record { reads = 3; writes = who }

abbrev pub two_tools : List ToolCall
two_tools =
    request 3 2 ∷ request 1 1 ∷ request 2 1 ∷ on_table (into 1) (prepare (byte_job 0 2)) ∷ on_table (into 2) (prepare (byte_job 0 3)) ∷
    give_back 1 1 ∷ give_back 0 1 ∷ []

abbrev pub begun : Tools
begun = fresh_tools 64 (replicate 64 0) 0

-- they keep order; all is accepted but for the last, so both transfers are prepared, and blocks 0, 2 and 3 are taken
pub record ToolsMet : Type 0 where
  pub in_order : AllInOrder two_tools begun
  pub first : slot_at (run_tools two_tools begun).world.table 0 ≡ new_slot (byte_job 0 2)
  pub second : slot_at (run_tools two_tools begun).world.table 1 ≡ new_slot (byte_job 0 3)
  pub word : (run_tools two_tools begun).word ≡ 13
