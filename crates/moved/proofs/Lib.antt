-- The law about this crate's definitions is `moved`.
mod Framed
pub mod Moved
