-- Laws that the crates above cite: what rules give is exact (Chains); a contract that is an equation decides its outcome (Deciding).
pub mod Chains
pub mod Deciding
pub mod Faults
pub mod Outcomes
pub mod Bools
