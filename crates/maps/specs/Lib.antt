-- What a picture keeps of its macroblocks beside their samples.
pub mod Done
pub mod Neighbours
pub mod Progress
pub mod Size
