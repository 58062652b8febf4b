-- The turn list.
pub mod Agreed
pub mod Turn
pub mod inner
