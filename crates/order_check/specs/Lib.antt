-- What a check of an order asks, and what it tells.
pub mod Check
pub mod Told
pub mod inner
