-- A block turned on its side: the exchange, the modes that are partners, and what is said of 4x4 and 8x8 luma prediction and of its calls.
pub mod Case
pub mod Exchange
pub mod TurnedBlock
