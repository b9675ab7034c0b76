-- What start and append change in a buffer, and that nothing else does. Assumes nothing.
use Prim.Native.Nat.{ℕ, suc, ◌+◌, ◌≤◌, ◌<◌}
use native.Mathlib.Decide.{ℕ_discrete}
use native.Mathlib.Omega.{arith}
use mathlib.Core.Path.{◌≡◌, refl, sym, ap, ◌∙◌}
use mathlib.Core.Logic.{◌⊎◌, inl, inr, ⊎_elim}
use mathlib.Core.List.{List, [], ◌∷◌}
use lib.ListN.{length, take, set}
use lib.Seq.{sets, length-sets, get_or-set_other}
use Rattle.plane.specs.Arrays.{at}
use Rattle.plane.specs.Numbers.{little}
use Rattle.record.specs.Layout.{record_length}
use Rattle.record.specs.Records.{record_bytes}
use Rattle.plane.proofs.Numbers.{length_little}
use Rattle.list.specs.declared.Appended.{Appended}
use Rattle.list.specs.Layout.{list_head_length, count_place, list_head}
use Rattle.list.specs.Lists.{record_count}
use Rattle.list.specs.Writers.{start_fault}
use Rattle.list.specs.Claims.{StartAlone, AppendAlone}
use Rattle.list.proofs.Writing.{start_same, start_given, append_given, append_told, append_status, append_behind, head_within, append_member}
use Rattle.list.proofs.Listing.{length_head}
use Rattle.list.proofs.Members.{member_length}

-- entries stored from i on leave those before and behind them
sets_out : (vs l : List ℕ) (i j : ℕ) → (j < i) ⊎ (i + length vs ≤ j) → at (sets l i vs) j ≡ at l j
sets_out [] l i j h = refl
sets_out (v ∷ vs) l i j h =
    sets_out vs (set l i v) (suc i) j (⊎_elim (λ b. inl (omega arith)) (λ b. inr (omega arith)) h) ∙
    get_or-set_other l i j v 0 (⊎_elim (λ b e. omega arith) (λ b e. omega arith) h)

pub start_alone : StartAlone
start_alone buffer = elim (ℕ_discrete (start_fault buffer).status 0) [
  | yes z ↦ let e = start_given buffer z in (
    ap length e ∙ length-sets buffer 0 (list_head 0),
    λ i h. ap (λ (l : List ℕ). at l i) e ∙ sets_out (list_head 0) buffer 0 i (inr (let l = length_head 0 in omega arith)),
  )
  | no z ↦ let e = start_same buffer z in (ap length e, λ i h. ap (λ (l : List ℕ). at l i) e)
]

-- a byte that is neither the count's nor the new record's
abbrev Beside : ℕ → ℕ → Type 0
Beside n i = (i < count_place) ⊎ ((count_place + 2 ≤ i) × (i < n)) ⊎ (n + record_length ≤ i)

beside_count : (n i k : ℕ) → list_head_length ≤ n → k ≡ 2 → Beside n i → (i < count_place) ⊎ (count_place + k ≤ i)
beside_count n i k h e b = ⊎_elim (λ l. inl l) (λ r. ⊎_elim (λ m. inr (omega arith)) (λ m. inr (omega arith)) r) b

beside_record : (n i k : ℕ) → list_head_length ≤ n → k ≡ record_length → Beside n i → (i < n) ⊎ (n + k ≤ i)
beside_record n i k h e b = ⊎_elim (λ l. inl (omega arith)) (λ r. ⊎_elim (λ m. inl m.1) (λ m. inr (omega arith)) r) b

pub append_alone : AppendAlone
append_alone buffer n t c y =
    let z = sym (append_status buffer n t c) ∙ y in
    let o = append_behind buffer n t c z in
    let h = head_within buffer n t c o.0 o.1 in
    let two = little 2 (record_count (take n buffer) + 1) in
    let e = append_given buffer n t c z in (
      ap length e ∙ length-sets (sets buffer n (record_bytes t c)) count_place two ∙ length-sets buffer n (record_bytes t c),
      λ i b. ap (λ (l : List ℕ). at l i) e ∙
          sets_out two (sets buffer n (record_bytes t c)) count_place i (beside_count n i (length two) h (length_little 2 (record_count (take n buffer) + 1)) b) ∙
          sets_out (record_bytes t c) buffer n i (beside_record n i (length (record_bytes t c)) h (member_length t c (append_member buffer n t c z)) b),
      ap (λ (a : Appended). a.length) (append_told buffer n t c z),
    )
