-- What is claimed of a sub-tensor, and of a plane mirrored in one dimension, and what it is said with.
pub mod Claims
pub mod Mirrored
