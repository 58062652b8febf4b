-- One macroblock: its blocks, the rules of their samples, what a record must keep to, and the promise to the picture.
pub mod Kinds
pub mod Local
pub mod Rules
pub mod Square
pub mod inner
