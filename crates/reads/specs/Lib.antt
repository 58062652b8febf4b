-- Which groups of samples beside a block a prediction reads, and that these sets are exact.
pub mod Exactly
pub mod Groups
