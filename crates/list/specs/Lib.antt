-- What a reader must believe: Layout is where the bytes stand, Lists is what bytes hold as a list, Readers the reader's answers and its
-- place, Writers what start and append do. Claims (of refusals, of handing out, of what changes) and RoundTrip are what the
-- theorems claim.
pub mod Layout
pub mod Lists
pub mod Readers
pub mod Writers
pub mod Claims
pub mod RoundTrip
