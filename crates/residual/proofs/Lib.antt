-- The laws about this crate's definitions.
pub mod Agreement
pub mod Halfway
pub mod InQuads
pub mod Part
pub mod Quads
pub mod Rooms
pub mod Squares
pub mod Transform
mod TwoPasses
