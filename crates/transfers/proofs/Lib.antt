-- Theorems to read first: Demand3 (serial and midway), Keeps (sound tables stay sound), Runs (neither 17 nor 18 is given), Budgets (what
-- finishes a transfer), Decided (no two outcomes), Exact (refusals), Unseen (entries past the rank are not looked at, nor unused
-- bytes of a fill), AllZero (a free slot is all zero), Polls (what a poll tells), Boundaries (elements on boundaries of their size),
-- Work (how much a step changes).
pub mod Demand3
pub mod Keeps
pub mod Runs
pub mod Budgets
pub mod Decided
pub mod Exact
pub mod Unseen
pub mod AllZero
pub mod Polls
pub mod Boundaries
pub mod Work
-- Laws over plain values, which the functions' proofs cite.
pub mod Equal
pub mod Fours
pub mod Meeting
pub mod Sounds
pub mod Answers
pub mod Steps
pub mod Lawful
pub mod View
pub mod Midway
