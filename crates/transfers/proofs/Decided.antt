-- Each public call asks nothing of its caller, and no two differing outcomes satisfy its contract: neither two answers, the table
-- handed back with them, nor two memories. `Pre` and `Post` are the contract as the checker reads it off the source. Assumes nothing.
use mathlib.Core.Path.{sym, ◌∙◌}
use Rattle.faults.specs.Decided.{Decided, OneLeft}
use Rattle.faults.proofs.Deciding.{by_equation, by_first}
use Rattle.transfers.proofs.Table.fresh.Reads as fresh
use Rattle.transfers.proofs.Table.prepare.Reads as prepare
use Rattle.transfers.proofs.Table.start.Reads as start
use Rattle.transfers.proofs.Table.step.Reads as step
use Rattle.transfers.proofs.Table.release.Reads as release
use Rattle.transfers.proofs.Table.poll.Reads as poll

pub fresh_decided : Decided fresh.Pre fresh.Post
fresh_decided = by_equation

pub prepare_decided : Decided prepare.Pre prepare.Post
prepare_decided = by_equation

pub start_decided : Decided start.Pre start.Post
start_decided = by_equation

pub step_decided : Decided step.Pre step.Post
step_decided = by_first

-- the memory
pub step_memory_lem : OneLeft step.Post (λ κ r s. s.1.0.now)
step_memory_lem = record { one = λ κ a x y s t p q. p.1 ∙ sym q.1 }

pub release_decided : Decided release.Pre release.Post
release_decided = by_equation

pub poll_decided : Decided poll.Pre poll.Post
poll_decided = by_first
