-- Theorems to read first: Decided (no two outcomes), Exact (each refusal in its case and order), Unseen (entries past the rank, and the fill),
-- Good (what acceptance tells), Bounds (all fits 64 bits), SubTensors (a sub-tensor is a plane within the plane), Mirrors
-- (signed strides).
pub mod Decided
pub mod Exact
pub mod Unseen
pub mod Good
pub mod Bounds
pub mod SubTensors
pub mod Mirrors
-- Laws over plain values, which the functions' proofs cite.
pub mod Arrays
pub mod Signed
pub mod Configs
pub mod Numbers
pub mod Resolving
pub mod Falling
pub mod Rules
pub mod CountAnswers
pub mod Ranges
pub mod Staying
pub mod SubAnswers
