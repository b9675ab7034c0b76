-- Theorems to read: Decided (no two outcomes), Exact (what is refused, that the fill is 0, and that entries past the rank are not
-- looked at).
pub mod Decided
pub mod Exact
-- A law over plain lists, which a function's proof cites.
pub mod Cutting
