-- What only the contracts of private functions speak of.
pub mod Line
pub mod Plane
pub mod Surroundings
