-- What is claimed of planes set into a larger plane, and of two that are joined; and one of each, with all numbers written out.
pub mod Claims
pub mod Examples
