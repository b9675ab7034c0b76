-- What a reader must believe: Blocks (the word, and runs of blocks) and Calls are what the contracts cite. The others are what the
-- theorems claim: Claims (refusals, what is granted and given back, counts, parts), Sharing (demand 3 stands, no block is granted
-- twice, and no two tools collide), Examples (two tools, written out).
pub mod Blocks
pub mod Calls
pub mod Claims
pub mod Sharing
pub mod Examples
