-- The laws about this crate's definitions: that a record depends on those only that it waits for is `narrow`, and that it waits for marked ones only is
-- `waits_marked`. The others serve these and the proofs here.
mod Holders
pub mod Narrow
mod NarrowSquare
mod Reading
