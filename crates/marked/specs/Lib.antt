-- What a reader must believe: the examples, and when one is right.
pub mod Examples
