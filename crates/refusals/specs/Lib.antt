-- The numbers of refusals.
pub mod Refusal
