-- Which neighbour macroblocks a record waits for, and that it depends on no other.
pub mod Narrow
pub mod Waits
pub mod inner
