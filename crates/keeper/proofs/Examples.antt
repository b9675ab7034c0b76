-- What is asked of tools can be met (`specs/Examples.antt`). Assumes nothing.
use Prim.Native.Nat.{ℕ, zero, suc, ◌<◌}
use native.Mathlib.Omega.{arith}
use mathlib.Core.Path.{◌≡◌, refl, ap}
use mathlib.Core.Bool.{cond}
use lib.Dec.{eqb}
use mathlib.Core.Logic.{inl, inr}
use mathlib.Core.List.{List, [], ◌∷◌}
use Rattle.faults.specs.Faults.{when, ◌or_else◌, first, lowest, outward}
use Rattle.plane.specs.Signs.{sizes}
use Rattle.plane.specs.Arrays.{firsts_or, sum, product, how_many, some, every}
use Rattle.plane.proofs.Arrays.{same_at}
use Rattle.plane.specs.Planes.{inner, resolved, bad_stride_at, span, source_fault}
use Rattle.plane.specs.Moves.{count, extent, dst_extents, need, bad_dst_offset_at, config_fault, dst_fault, move_fault}
use Rattle.mover.specs.Moved.{total}
use Rattle.mover.specs.Within.{job_fault}
use Rattle.transfers.specs.declared.Slot.{Slot}
use Rattle.transfers.specs.declared.Table.{Table}
use Rattle.transfers.specs.Slots.{free_slot, fresh_table, with_slot, lowest_free, breaks, clashes, is_zero_tensor, is_zero_config, is_zero_job, moved_right, slot_sound, sound_at, table_sound}
use Rattle.transfers.specs.Calls.{fresh_fault, fresh_of, open_fault, prepare_fault, new_slot, prepare_of}
use Rattle.transfers.specs.Demand3.{fresh_world, note_prepare, after}
use Rattle.keeper.specs.Blocks.{word_of, lowest_of, with_run, without_run}
use Rattle.keeper.specs.Calls.{request_fault, request_of, run_part, uses, in_use, table_fault, give_back_fault, give_back_of}
use Rattle.keeper.specs.Claims.{InRun}
use Rattle.keeper.specs.Sharing.{Deed, granted, Holds, Owners, InOwn, Housed, Busy, fresh_tools, note_request, note_back, note_owner, after_tool, run_tools}
use Rattle.keeper.specs.Examples.{byte_job, into, ToolsMet}
use Rattle.keeper.proofs.Sharing.{run_is_own}

-- what is written down of the three requests
abbrev three : List Deed
three = granted 2 3 1 ∷ granted 1 2 1 ∷ granted 3 0 2 ∷ []

-- a byte, in the block of who holds it
own : (who b : ℕ) → b < 64 → ((x : ℕ) → InRun b 1 x → Holds three who x) → InOwn 64 three who (record { start = b; length = 1 })
unfolding run_part
own who b h all = run_is_own 64 three who b 1 _ (omega arith) all (omega arith) (omega arith)

picture : InOwn 64 three 3 (record { start = 0; length = 1 })
picture = own 3 0 (omega arith) (λ b i. inr (inr (inl (refl, (i.0, omega (arith, i.1))))))

first_housed : Housed 64 three (into 1) (byte_job 0 2)
first_housed = record { source = picture; destination = own 1 2 (omega arith) (λ b i. inr (inl (refl, i))) }

second_housed : Housed 64 three (into 2) (byte_job 0 3)
second_housed = record { source = picture; destination = own 2 3 (omega arith) (λ b i. inl (refl, i)) }

-- before the first is prepared every slot is free
none_yet : (h : ℕ) → Busy (fresh_table 64) h → ⊥
none_yet h b = b.1 (ap (λ (s : Slot). s.state) (same_at free_slot h))

-- and then slot 0 alone is not: it is tool 1's
abbrev one : Table
one = record { length = 64; slots = new_slot (byte_job 0 2) ∷ free_slot ∷ free_slot ∷ free_slot ∷ [] }

abbrev after_first_lem : ℕ → Owners
after_first_lem h = cond (eqb h 0) (into 1) (record { reads = 0; writes = 0 })

the_first : (h : ℕ) → Busy one h → h ≡ 0
the_first zero b = refl
the_first (suc zero) b = absurd (b.1 refl)
the_first (suc (suc zero)) b = absurd (b.1 refl)
the_first (suc (suc (suc zero))) b = absurd (b.1 refl)
the_first (suc (suc (suc (suc h)))) b = absurd (omega (arith, b.0))

pub tools_met : ToolsMet
unfolding sizes when ◌or_else◌ lowest first outward source_fault config_fault dst_fault move_fault span need sum product how_many some every firsts_or bad_stride_at bad_dst_offset_at resolved inner extent count dst_extents total job_fault with_slot lowest_free breaks clashes is_zero_tensor is_zero_config is_zero_job moved_right slot_sound sound_at table_sound fresh_fault fresh_of open_fault prepare_fault prepare_of fresh_world note_prepare after word_of lowest_of with_run without_run request_fault request_of run_part uses in_use table_fault give_back_fault give_back_of fresh_tools note_request note_back note_owner after_tool run_tools
tools_met = record {
  in_order = (
    tt,
    (
      tt,
      (
        tt,
        (
          record { housed = first_housed; unwritten = λ h b e. none_yet h b; unread = λ h b e. none_yet h b; unchanged = λ h b e. none_yet h b },
          (
            record {
              housed = second_housed;
              unwritten = λ h b e. omega (arith, e, ap (λ (x : ℕ). (after_first_lem x).writes) (the_first h b));
              unread = λ h b e. omega (arith, e, ap (λ (x : ℕ). (after_first_lem x).reads) (the_first h b));
              unchanged = λ h b e. omega (arith, e, ap (λ (x : ℕ). (after_first_lem x).writes) (the_first h b));
            },
            (tt, (tt, tt)),
          ),
        ),
      ),
    ),
  );
  first = refl;
  second = refl;
  word = refl;
}
