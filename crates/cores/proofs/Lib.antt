-- The laws that the proofs here share.
mod Brought
mod Opened
mod Rects
mod Aside
