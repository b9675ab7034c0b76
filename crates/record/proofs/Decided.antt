-- Each public call asks nothing of its caller, and no two differing outcomes satisfy its contract. `Pre` and `Post` are the
-- contract of the call as the checker reads it off the source. Assumes nothing.
use mathlib.Core.Path.{sym, ◌∙◌}
use Rattle.faults.specs.Decided.{Decided, OneLeft}
use Rattle.faults.proofs.Deciding.{by_equation, by_first}
use Rattle.record.proofs.reader.read.Reads as read
use Rattle.record.proofs.writer.write.Reads as write
use Rattle.record.proofs.checks.fields_fault.Reads as fields-fault
use Rattle.record.proofs.versions.length_in.Reads as length-in
use Rattle.record.proofs.versions.length_for.Reads as length-for

pub read_decided : Decided read.Pre read.Post
read_decided = by_equation

pub fields_fault_decided : Decided fields-fault.Pre fields-fault.Post
fields_fault_decided = by_equation

pub length_in_decided : Decided length-in.Pre length-in.Post
length_in_decided = by_equation

pub length_for_decided : Decided length-for.Pre length-for.Post
length_for_decided = by_equation

pub write_decided : Decided write.Pre write.Post
write_decided = by_first

-- the room is the third parameter
pub write_room_decided : OneLeft write.Post (λ κ r s. s.1.1.0.now)
write_room_decided = record { one = λ κ a x y s t p q. p.1 ∙ sym q.1 }
