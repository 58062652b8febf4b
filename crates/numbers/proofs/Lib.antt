-- The laws about this crate's definitions.
pub mod Far
pub mod InRange
