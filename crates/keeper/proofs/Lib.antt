-- Theorems to read first: Granting (which run is granted, what is given back, counts), Placing (the parts of runs), Sharing (demand 3
-- stands, and parts in blocks of one's own meet neither 20 nor 22), Orderly (tools that keep to that never meet them; Examples: what is
-- asked of them can be met), Decided (no two outcomes), Exact (refusals), Unseen (entries past the rank are not looked at, nor unused
-- bytes of a fill).
pub mod Granting
pub mod Placing
pub mod Sharing
pub mod Orderly
pub mod Examples
pub mod Decided
pub mod Exact
pub mod Unseen
-- Laws over plain values, which the functions' proofs cite.
pub mod Bits
pub mod Search
pub mod Answers
