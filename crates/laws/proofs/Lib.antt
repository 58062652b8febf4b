-- The laws that every crate's proofs cite.
pub mod Answers
pub mod Blocks
pub mod Blockwise
pub mod Columns
pub mod Digits
pub mod Ints
pub mod Ontos
pub mod Patches
pub mod Steps
pub mod Stretches
pub mod Sums
pub mod Tables
pub mod Tests
