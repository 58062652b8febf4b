-- Laws about sizes, neighbours, the done map and starting.
pub mod Beside
pub mod Sizes
pub mod Waiting
