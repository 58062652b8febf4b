-- The laws about this crate's definitions: what a turn lists is `Startable`, that it may come in any order `Begun`, which counts are refused `Agreed`, and how
-- many lead without a gap `Leading`.
pub mod Agreed
pub mod Begun
pub mod Leading
pub mod Startable
mod Listing
