-- What a reader must believe: Slots and Calls are what the contracts cite. The others are what the theorems claim: Demand3 (serial and
-- midway), Sound (tables stay sound), Claims (each refusal in its case and order, refused calls, polls, budgets), Unseen
-- (entries past the rank, and unused bytes of a fill), Work (how much a step changes).
pub mod Slots
pub mod Calls
pub mod Demand3
pub mod Sound
pub mod Claims
pub mod Unseen
pub mod Work
