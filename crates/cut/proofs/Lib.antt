-- The laws about this crate's definitions: the scan and its numbers are `Scan`, what holds of each kind is `ByKind`, and which sides of a block are there is
-- `Sides`, and who holds them `Holders`.
pub mod ByKind
pub mod Holders
pub mod Scan
pub mod Sides
