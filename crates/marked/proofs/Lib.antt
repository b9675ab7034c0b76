-- The theorem: Marked (every example of the table is right).
pub mod Marked
