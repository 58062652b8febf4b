-- The laws about this crate's definitions: all that is said of slices is `slices_apart`.
mod Answers
mod Carried
mod Decoded
mod Leaves
mod LostSlice
pub mod SlicesApart
