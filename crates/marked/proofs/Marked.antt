-- Every example of the table is right, by one computation over it. Assumes nothing.
use mathlib.Core.Path.{refl}
use Rattle.plane.specs.Arrays.{firsts_or, sum, product, how_many, some, every}
use Rattle.faults.specs.Faults.{when, ◌or_else◌, first, lowest, outward}
use Rattle.plane.specs.Signs.{sizes}
use Rattle.plane.specs.Planes.{inner, resolved, bad_stride_at, span, source_fault}
use Rattle.plane.specs.Moves.{count, extent, dst_extents, need, bad_dst_offset_at, config_fault, dst_fault, move_fault, room_fault, answer_of, judge_of, room_of}
use Rattle.plane.specs.Helpers.{elements, count_fault, count_answer, count_of, staying, rank_fault, sub_fault, sub_of, sub_byte, sub_answer, sub_tensor_of}
use Rattle.mover.specs.Element.{is_kept, are_kept, source_place, place, padded, element}
use Rattle.mover.specs.Moved.{total, per_step, coord_of, stored, moved, move_memory}
use Rattle.mover.specs.Within.{job_fault, advanced_by, advance_of, advance_memory}
use Rattle.mover.specs.SubPart.{sub_part}
use Rattle.mover.specs.Pixel.{pixel_fault, pixel_of}
use Rattle.plane.specs.Numbers.{little, number}
use Rattle.record.specs.Layout.{consecutive, start, twos_number, twos_numbers, twos_words}
use Rattle.record.specs.Records.{tensor_in, config_in, record_bytes, stray, fields_fault, read_fault, write_fault, read_of, written_room}
use Rattle.list.specs.Lists.{list_fault, record_count, number_fault, record_at, place_after}
use Rattle.list.specs.Writers.{start_fault, started_buffer, member_fault, append_fault, append_of, appended_buffer}
use Rattle.transfers.specs.Slots.{with_slot, lowest_free, breaks, clashes, is_zero_tensor, is_zero_config, is_zero_job, moved_right, slot_sound, sound_at, table_sound}
use Rattle.transfers.specs.Calls.{fresh_fault, fresh_of, open_fault, prepare_fault, call_fault, prepare_of, changed, start_of, release_of, later, step_of, step_memory, poll_slot, poll_fault, poll_of}
use Rattle.transfers.specs.Demand3.{fresh_world, after}
use Rattle.keeper.specs.Blocks.{word_of, lowest_of, with_run, without_run}
use Rattle.keeper.specs.Calls.{request_fault, request_of, run_part, part_fault, part_of, uses, in_use, table_fault, give_back_fault, give_back_of}
use Rattle.marked.specs.Examples.{AllRight, examples}

pub all_right : AllRight examples
unfolding sizes twos_number twos_numbers twos_words judge_of room_of move_fault room_fault source_fault config_fault dst_fault when ◌or_else◌ lowest first outward answer_of span need sum product how_many some firsts_or bad_stride_at bad_dst_offset_at resolved inner extent count dst_extents count_of count_fault count_answer elements sub_tensor_of sub_fault rank_fault sub_answer sub_of sub_byte staying move_memory moved stored coord_of per_step total element place source_place padded are_kept is_kept every sub_part pixel_fault pixel_of job_fault advanced_by advance_of advance_memory fresh_fault fresh_of open_fault prepare_fault call_fault prepare_of changed start_of release_of later step_of step_memory poll_slot poll_fault poll_of with_slot lowest_free breaks clashes is_zero_tensor is_zero_config is_zero_job moved_right slot_sound sound_at table_sound fresh_world after little number consecutive start tensor_in config_in record_bytes stray fields_fault read_fault write_fault read_of written_room list_fault record_count number_fault record_at place_after start_fault started_buffer member_fault append_fault append_of appended_buffer word_of lowest_of with_run without_run request_fault request_of run_part part_fault part_of uses in_use table_fault give_back_fault give_back_of
all_right = refl
