-- The laws about this crate's definitions.
pub mod Clipped
pub mod Dc
pub mod Fills
pub mod Permits
pub mod Near
