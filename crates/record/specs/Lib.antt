-- What a reader must believe: Layout is the table of the bytes, Records is read and write. Claims (of refusals) and RoundTrip
-- are what the theorems claim, and Private holds what only private functions cite.
pub mod Layout
pub mod Records
pub mod Claims
pub mod RoundTrip
pub mod Private
