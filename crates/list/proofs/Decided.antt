-- Each public call asks nothing of its caller, and no two differing outcomes satisfy its contract: neither two answers nor two
-- buffers, and of a reader that is lent neither two places. `Pre` and `Post` are the contract as the checker reads it off the source.
-- Assumes nothing.
use mathlib.Core.Path.{◌≡◌, refl, sym, ◌∙◌}
use seplogic.Ra.Ura.{Ura}
use base.Logic.{SProp}
use prog.Memory.{Memory}
use prog.Routine.{Routine}
use types.Logic.{Logic}
use contract.Lifetimes.{Lfts}
use contract.Monad.{Fun}
use contract.Notation.{connectives}
use denote.Triple.Entry.{Args, Res}
use denote.Triple.Clauses.{AtExit}
use Rattle.faults.specs.Decided.{Decided, OneLeft}
use Rattle.faults.proofs.Deciding.{by_equation, by_first}
use Rattle.list.specs.Readers.{opened, answer, advanced, first_two_of}
use Rattle.list.proofs.head.list_fault.Reads as list-fault
use Rattle.list.proofs.head.record_count.Reads as record-count
use Rattle.list.proofs.records.record_at.Reads as record-at
use Rattle.list.proofs.records.place_after.Reads as place_after
use Rattle.list.proofs.reader.open.Reads as open_reads
use Rattle.list.specs.contracts.reader.open as opens
use Rattle.list.proofs.ListReader.next.Reads as next_reads
use Rattle.list.specs.contracts.ListReader.next as next
use Rattle.list.proofs.reader.first_two.Reads as first_two_reads
use Rattle.list.specs.contracts.reader.first_two as first_two
use Rattle.list.proofs.writer.start.Reads as start
use Rattle.list.proofs.writer.append.Reads as append

pub list_fault_decided : Decided list-fault.Pre list-fault.Post
list_fault_decided = by_equation

pub record_count_decided : Decided record-count.Pre record-count.Post
record_count_decided = by_equation

pub record_at_decided : Decided record-at.Pre record-at.Post
record_at_decided = by_equation

pub place_after_decided : Decided place_after.Pre place_after.Post
place_after_decided = by_equation

pub start_decided : Decided start.Pre start.Post
start_decided = by_first

pub start_buffer : OneLeft start.Post (λ κ r s. s.0.now)
start_buffer = record { one = λ κ a x y s t p q. p.1 ∙ sym q.1 }

pub append_decided : Decided append.Pre append.Post
append_decided = by_first

pub append_buffer : OneLeft append.Post (λ κ r s. s.0.now)
append_buffer = record { one = λ κ a x y s t p q. p.1 ∙ sym q.1 }

-- ---- through the reader

-- the reader that is handed out too
pub open_reads_decided : Decided open_reads.Pre open_reads.Post
open_reads_decided = by_equation

pub next_reads_decided : Decided next_reads.Pre next_reads.Post
next_reads_decided = by_first

-- the reader after it
pub next_reads_reader : OneLeft next_reads.Post (λ κ r s. s.0.now)
next_reads_reader = record { one = λ κ a x y s t p q. p.1 ∙ sym q.1 }

pub first_two_reads_decided : Decided first_two_reads.Pre first_two_reads.Post
first_two_reads_decided = by_equation

-- The same of what these three say, written out as facts: `asks` and `says` hold each contract, by its clauses, to asking nothing and to
-- that fact, which decides.

abbrev pub OpenPost : (κ : Lfts 1) → Args opens.signature κ → Res opens.signature κ → AtExit opens.ended κ → Type 0
OpenPost κ a r s = r ≡ opened a.0

abbrev pub NextPost : (κ : Lfts 2) → Args next.signature κ → Res next.signature κ → AtExit next.ended κ → Type 0
NextPost κ a r s = (r ≡ answer a.0.now) × (s.0.now ≡ advanced a.0.now)

abbrev pub FirstTwoPost : (κ : Lfts 1) → Args first_two.signature κ → Res first_two.signature κ → AtExit first_two.ended κ → Type 0
FirstTwoPost κ a r s = r ≡ first_two_of a.0.now

module _ {M : Type 1} {𝓤 : Ura M} (𝓛 : Logic 𝓤) (mem : Memory → SProp 𝓤) (run : Routine → Fun 𝓤) where
  open connectives 𝓤 use {⌜◌⌝, ⊤ₛ}

  pub open_asks : (κ : Lfts 1) (a : Args opens.signature κ) → (opens.clauses 𝓛 mem run κ a).requires tt ≡ ⊤ₛ
  open_asks κ a = refl

  pub open_says : (κ : Lfts 1) (a : Args opens.signature κ) (r : Res opens.signature κ) (s : AtExit opens.ended κ) → (opens.clauses 𝓛 mem run κ a).ensures tt r s ≡ ⌜ OpenPost κ a r s ⌝
  open_says κ a r s = refl

  pub next_asks : (κ : Lfts 2) (a : Args next.signature κ) → (next.clauses 𝓛 mem run κ a).requires tt ≡ ⊤ₛ
  next_asks κ a = refl

  pub next_says : (κ : Lfts 2) (a : Args next.signature κ) (r : Res next.signature κ) (s : AtExit next.ended κ) → (next.clauses 𝓛 mem run κ a).ensures tt r s ≡ ⌜ NextPost κ a r s ⌝
  next_says κ a r s = refl

  pub first_two_asks : (κ : Lfts 1) (a : Args first_two.signature κ) → (first_two.clauses 𝓛 mem run κ a).requires tt ≡ ⊤ₛ
  first_two_asks κ a = refl

  pub first_two_says : (κ : Lfts 1) (a : Args first_two.signature κ) (r : Res first_two.signature κ) (s : AtExit first_two.ended κ) → (first_two.clauses 𝓛 mem run κ a).ensures tt r s ≡ ⌜ FirstTwoPost κ a r s ⌝
  first_two_says κ a r s = refl

pub open_decided : Decided (λ κ a. Unit) OpenPost
open_decided = by_equation

pub next_decided : Decided (λ κ a. Unit) NextPost
next_decided = by_first

pub next_reader : OneLeft NextPost (λ κ r s. s.0.now)
next_reader = record { one = λ κ a x y s t p q. p.1 ∙ sym q.1 }

pub first_two_decided : Decided (λ κ a. Unit) FirstTwoPost
first_two_decided = by_equation
