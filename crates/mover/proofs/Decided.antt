-- Each public call asks nothing of its caller, and no two differing outcomes satisfy its contract: neither two answers nor two
-- memories. `Pre` and `Post` are the contract as the checker reads it off the source. Assumes nothing.
use Rattle.std.proofs.Common.{sym, ◌∙◌}
use Rattle.faults.specs.Decided.{Decided, OneLeft}
use Rattle.faults.proofs.Deciding.{by_equation, by_first}
use Rattle.mover.proofs.moves.move_plane.Reads as move-plane
use Rattle.mover.proofs.within.judge_job.Reads as judge-job
use Rattle.mover.proofs.within.meets.Reads as meets
use Rattle.mover.proofs.within.advance.Reads as advance
use Rattle.mover.proofs.plain.move_plane.Reads as plain-move-plane
use Rattle.mover.proofs.plain.advance.Reads as plain-advance
use Rattle.mover.proofs.sub.sub_tensor.Reads as sub-tensor
use Rattle.mover.proofs.sub.sub_part.Reads as sub_part
use Rattle.mover.proofs.pixels.pixel.Reads as pixel

pub meets_decided : Decided meets.Pre meets.Post
meets_decided = by_equation

pub judge_job_decided : Decided judge-job.Pre judge-job.Post
judge_job_decided = by_equation

pub move_plane_decided : Decided move-plane.Pre move-plane.Post
move_plane_decided = by_first

-- the destination
pub move_plane_memory : OneLeft move-plane.Post (λ κ r s. s.1.1.1.0.now)
move_plane_memory = record { one = λ κ a x y s t p q. p.1 ∙ sym q.1 }

pub advance_decided : Decided advance.Pre advance.Post
advance_decided = by_first

-- the memory
pub advance_memory_lem : OneLeft advance.Post (λ κ r s. s.0.now)
advance_memory_lem = record { one = λ κ a x y s t p q. p.1 ∙ sym q.1 }

-- the plain engine's
pub plain_move_plane_decided : Decided plain-move-plane.Pre plain-move-plane.Post
plain_move_plane_decided = by_first

pub plain_move_plane_memory : OneLeft plain-move-plane.Post (λ κ r s. s.1.1.1.0.now)
plain_move_plane_memory = record { one = λ κ a x y s t p q. p.1 ∙ sym q.1 }

pub plain_advance_decided : Decided plain-advance.Pre plain-advance.Post
plain_advance_decided = by_first

pub plain_advance_memory : OneLeft plain-advance.Post (λ κ r s. s.0.now)
plain_advance_memory = record { one = λ κ a x y s t p q. p.1 ∙ sym q.1 }

pub sub_tensor_decided : Decided sub-tensor.Pre sub-tensor.Post
sub_tensor_decided = record { free = λ κ a. tt; one = λ κ a x y s t p q. p ∙ sym q }

pub sub_part_free : (κ : _) (a : _) → sub_part.Pre κ a
sub_part_free κ a = tt

-- the part handed back
pub sub_part_bytes : OneLeft sub_part.Post (λ κ r s. r.now)
sub_part_bytes = record { one = λ κ a x y s t p q. p ∙ sym q }

pub pixel_decided : Decided pixel.Pre pixel.Post
pixel_decided = by_equation
