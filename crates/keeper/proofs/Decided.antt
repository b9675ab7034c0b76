-- Each public call asks nothing of its caller, and no two differing answers satisfy its contract. `Pre` and `Post` are the contract as
-- the checker reads it off the source. Assumes nothing.
use Rattle.faults.specs.Decided.{Decided}
use Rattle.faults.proofs.Deciding.{by_equation}
use Rattle.keeper.proofs.words.free_blocks.Reads as free-blocks
use Rattle.keeper.proofs.words.free_before_first_taken.Reads as free-before-first-taken
use Rattle.keeper.proofs.grants.request.Reads as request
use Rattle.keeper.proofs.returns.give_back.Reads as give_back
use Rattle.keeper.proofs.runs.part_of.Reads as part_of

pub free_blocks_decided : Decided free-blocks.Pre free-blocks.Post
free_blocks_decided = by_equation

pub free_before_first_taken_decided : Decided free-before-first-taken.Pre free-before-first-taken.Post
free_before_first_taken_decided = by_equation

pub request_decided : Decided request.Pre request.Post
request_decided = by_equation

pub give_back_decided : Decided give_back.Pre give_back.Post
give_back_decided = by_equation

pub part_of_decided : Decided part_of.Pre part_of.Post
part_of_decided = by_equation
