-- The laws about the halves of a call: `in_two`, `lasting` and `workers`; those of a block's samples are `Samples`, and the ways of compute and commit
-- `Computed` and `Committed`.
pub mod Committed
pub mod Computed
pub mod InTwo
pub mod Lasting
pub mod Samples
pub mod Workers
