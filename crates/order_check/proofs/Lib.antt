-- The law about checks is `told`.
pub mod Told
mod FirstOut
mod Least
mod Named
