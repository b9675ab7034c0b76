-- What a reader must believe. Then what the theorems claim: Demand2, Work (how much is moved), Engines (the plain engine and the first
-- do the same), OnePixel, Claims (all else). Private holds what only private functions cite.
pub mod Element
pub mod Moved
pub mod Within
pub mod SubPart
pub mod Pixel
pub mod Demand2
pub mod Work
pub mod Claims
pub mod Engines
pub mod OnePixel
pub mod Private
