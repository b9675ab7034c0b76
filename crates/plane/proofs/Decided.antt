-- Each public call asks nothing of its caller, and no two differing outcomes satisfy its contract (`faults/specs/Decided.antt`). `Pre` and
-- `Post` are that contract as the checker reads it off the source. Assumes nothing.
use mathlib.Core.Path.{sym, ◌∙◌}
use Rattle.faults.specs.Decided.{Decided}
use Rattle.faults.proofs.Deciding.{by_equation}
use Rattle.plane.proofs.verdict.room.Reads as room
use Rattle.plane.proofs.verdict.judge.Reads as judge
use Rattle.plane.proofs.tensors.source_of.Reads as source_of
use Rattle.plane.proofs.refusals.rank_is_bad.Reads as rank-is-bad
use Rattle.plane.proofs.Tensor.zero.Reads as zero-tensor
use Rattle.plane.proofs.Config.zero.Reads as zero-config
use Rattle.plane.proofs.Answer.refused.Reads as refused
use Rattle.plane.proofs.helpers.element_size.Reads as element-size
use Rattle.plane.proofs.helpers.element_count.Reads as element-count
use Rattle.plane.proofs.sub.sub_tensor.Reads as sub-tensor
use Rattle.plane.proofs.Config.with_offset.Reads as with-offset
use Rattle.plane.proofs.Config.with_size.Reads as with_size
use Rattle.plane.proofs.Config.with_step.Reads as with-step
use Rattle.plane.proofs.Config.with_dst_offset.Reads as with-dst-offset
use Rattle.plane.proofs.Config.with_dst_stride.Reads as with-dst-stride
use Rattle.plane.proofs.Config.with_perm.Reads as with-perm
use Rattle.plane.proofs.Config.with_pre.Reads as with-pre
use Rattle.plane.proofs.Config.with_post.Reads as with-post
use Rattle.plane.proofs.Config.with_fill.Reads as with-fill

pub room_decided : Decided room.Pre room.Post
room_decided = by_equation

pub judge_decided : Decided judge.Pre judge.Post
judge_decided = by_equation

pub source_of_decided : Decided source_of.Pre source_of.Post
source_of_decided = by_equation

pub rank_is_bad_decided : Decided rank-is-bad.Pre rank-is-bad.Post
rank_is_bad_decided = by_equation

pub zero_tensor_decided : Decided zero-tensor.Pre zero-tensor.Post
zero_tensor_decided = record { free = λ κ a. tt; one = λ κ a x y s t p q. p ∙ sym q }

pub zero_config_decided : Decided zero-config.Pre zero-config.Post
zero_config_decided = record { free = λ κ a. tt; one = λ κ a x y s t p q. p ∙ sym q }

pub refused_decided : Decided refused.Pre refused.Post
refused_decided = record { free = λ κ a. tt; one = λ κ a x y s t p q. p ∙ sym q }

pub element_size_decided : Decided element-size.Pre element-size.Post
element_size_decided = by_equation

pub element_count_decided : Decided element-count.Pre element-count.Post
element_count_decided = by_equation

pub sub_tensor_decided : Decided sub-tensor.Pre sub-tensor.Post
sub_tensor_decided = by_equation

pub with_offset_decided : Decided with-offset.Pre with-offset.Post
with_offset_decided = by_equation

pub with_size_decided : Decided with_size.Pre with_size.Post
with_size_decided = by_equation

pub with_step_decided : Decided with-step.Pre with-step.Post
with_step_decided = by_equation

pub with_dst_offset_decided : Decided with-dst-offset.Pre with-dst-offset.Post
with_dst_offset_decided = by_equation

pub with_dst_stride_decided : Decided with-dst-stride.Pre with-dst-stride.Post
with_dst_stride_decided = by_equation

pub with_perm_decided : Decided with-perm.Pre with-perm.Post
with_perm_decided = by_equation

pub with_pre_decided : Decided with-pre.Pre with-pre.Post
with_pre_decided = by_equation

pub with_post_decided : Decided with-post.Pre with-post.Post
with_post_decided = by_equation

pub with_fill_decided : Decided with-fill.Pre with-fill.Post
with_fill_decided = by_equation
