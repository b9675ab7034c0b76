-- `keeper::words::free_blocks` counts the free blocks. Assumes nothing.
use native.Mathlib.Omega.{arith}
use lib.Count.{ones-le}
use Rattle.keeper.proofs.Search.{ones_free}
use Rattle.keeper.proofs.words.free_blocks.Goals as goal

pub overflow_sub-result : goal.overflow_sub-result
overflow_sub-result c = omega (arith, ones-le 64 c.args.word c.ranges.word.fits)

pub returns : goal.returns
returns c = ones_free 64 c.args.word c.ranges.word.fits
