-- The laws about this crate's definitions: the promise to the picture is `promised`, what lies in a block is `Places`, who holds what stands beside it is
-- `Held`, and when that is the same at two places is `Neighbourhood`. Those that are `pub` are for other crates and for a reader; the others serve the proofs
-- here.
pub mod Held
pub mod Locality
pub mod Neighbourhood
pub mod Places
pub mod Promised
pub mod Rooms
pub mod Sides
mod ByKind
mod Drawn
mod Early
mod Fitting
mod Halves
mod Known
mod Marked
mod Pieces
mod Quarters
mod Rows
mod Sums
mod Transforms
