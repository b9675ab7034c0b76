-- What a reader must believe, in the paper's order. Then what the theorems claim: Good (what acceptance tells), Unseen (entries past
-- the rank, and the fill), Mirrors (signed strides), Claims (all else). Private holds what only private functions cite.
pub mod Arrays
pub mod Signs
pub mod Planes
pub mod Moves
pub mod Settings
pub mod Numbers
pub mod Helpers
pub mod Good
pub mod Unseen
pub mod Claims
pub mod Mirrors
pub mod Private
