-- What only the contracts of private functions speak of.
pub mod Laws
pub mod Passes
pub mod Quads
pub mod Sums
