-- What a reader must believe: Faults is rules, one then the other, and the fault that the first broken one gives. Exactness (each
-- refusal in its case and order) and Decided (no two outcomes) are what the theorems of the crates above claim.
pub mod Faults
pub mod Exactness
pub mod Decided
