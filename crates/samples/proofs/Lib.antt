-- The laws about this crate's definitions. Those that are `pub` are for other crates and for a reader; the others serve the proofs here.
mod Held
mod IntraPlane
mod PlaneMode
mod Ramp
mod Rows
mod Drawn
pub mod WholePromise
