-- Theorems to read first: Decided (no two outcomes), Exact (each refusal in its case and order), RoundTrip (there and back),
-- TwosComplement (signed numbers and words).
pub mod Decided
pub mod Exact
pub mod RoundTrip
pub mod TwosComplement
-- Laws over plain values, which the functions' proofs cite.
pub mod Parts
pub mod Digits
pub mod Lengths
pub mod Strays
pub mod Fields
pub mod Laying
pub mod Answers
