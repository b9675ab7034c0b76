-- Theorems to read first: Demand2 (what an accepted move leaves), Decided (no two outcomes), Exact (refusals), Unseen (entries past
-- the rank are not looked at, nor unused bytes of a fill), Reaching (how far it reaches), Meeting (parts that share a byte, or leave the
-- memory), Boundaries (elements on boundaries of their size), Work (how much is moved), Laws (what the layer above may use), Engines
-- (both engines do the same), OnePixel (a pixel is what the move stores there).
pub mod Demand2
pub mod Work
pub mod Decided
pub mod Exact
pub mod Unseen
pub mod Reaching
pub mod Meeting
pub mod Boundaries
pub mod Laws
pub mod Engines
pub mod OnePixel
-- Laws over plain values, which the functions' proofs cite.
pub mod Bytes
pub mod Places
pub mod Adding
pub mod ByNumber
pub mod Folds
pub mod Runs
pub mod Blocks
pub mod Blocking
pub mod Shuffled
pub mod Filling
pub mod Tiling
pub mod Crossing
pub mod Patched
pub mod Stepping
pub mod Spreading
pub mod Evening
pub mod Turns
pub mod Banding
pub mod Banded
pub mod Parts
pub mod Sums
pub mod Chains
pub mod Numbers
pub mod Fitting
pub mod Stored
pub mod Differing
pub mod Spacing
pub mod Keeping
pub mod Planned
pub mod Making
pub mod Judged
pub mod SubParts
-- Of the plain engine.
pub mod Rows
pub mod Storing
pub mod Stretches
pub mod WholeRows
-- Of a pixel, which goes as it does.
pub mod Picking
