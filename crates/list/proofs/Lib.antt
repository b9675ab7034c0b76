-- Theorems to read first: Decided (each contract decides), Exact (each refusal exactly), Handing (what a reader hands out), Plain (none
-- has a fill), Alone (what changes in a buffer), RoundTrip (there and back).
pub mod Decided
pub mod Exact
pub mod Handing
pub mod Plain
pub mod Alone
pub mod RoundTrip
-- Laws over plain values.
pub mod Answers
pub mod Members
pub mod Writing
pub mod Listing
pub mod Buffers
