-- The laws about this crate's definitions.
pub mod Bounded
pub mod Columns
pub mod Eights
pub mod Firsts
pub mod Flat
pub mod Halfway
pub mod Words
