-- How a macroblock's square is cut into blocks, where these stand, and who holds the samples beside each.
pub mod Cut
pub mod Kind
pub mod inner
