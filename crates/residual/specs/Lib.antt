-- The definitions that the crate's contracts cite, by clause.
pub mod Agreement
pub mod Fits4x4
pub mod Inverse
pub mod Quads
pub mod Reconstruct
pub mod inner
