-- What a reader must believe; Claims is what the theorems claim.
pub mod ReadyMade
pub mod Claims
