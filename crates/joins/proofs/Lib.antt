-- Theorems to read: Elements (a plane's elements lie in its span, and apart), Setting (a plane set into a larger one), Joins (two planes
-- joined along a dimension), Examples (one of each).
pub mod Elements
pub mod Setting
pub mod Joins
pub mod Examples
