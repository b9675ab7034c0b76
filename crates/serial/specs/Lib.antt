-- What a reader must believe.
pub mod Machine
pub mod Claims
