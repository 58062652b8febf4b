-- The definitions that the crate's contracts cite.
pub mod Bounds
pub mod Fits8x8
pub mod Flat
pub mod Inverse8x8
pub mod inner
