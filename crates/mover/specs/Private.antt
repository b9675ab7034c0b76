-- What private functions and their proofs cite: a move as the engine wants it. No reader of a public contract needs these files.
pub mod Plans
pub mod Elements
pub mod Adding
pub mod Runs
pub mod Ready
pub mod Folding
pub mod Shuffles
pub mod Patches
pub mod Bands
-- and as the plain engine does
pub mod Rows
pub mod Pixels
