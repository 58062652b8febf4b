-- The laws about this crate's definitions: that the sets of groups are exact is `Exactly`, for other crates and for a reader; the others serve it.
mod Computed
pub mod Exactly
mod Refused
pub mod Tables
