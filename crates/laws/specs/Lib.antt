-- Definitions that every crate's contracts share.
pub mod Answer
pub mod Patch
pub mod Range
pub mod Steps
pub mod Table
