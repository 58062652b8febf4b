-- The laws about this crate's definitions; `turned_4x4`, `turned_8x8` and `level_needed` are in `TurnedBlock`.
mod Case
mod Exchange
pub mod TurnedBlock
