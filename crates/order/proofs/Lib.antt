-- What the laws of steps give: of any order, of any run of a driver, and of a step made of parts.
pub mod AnyOrder
pub mod Count
pub mod Driver
pub mod FullOrder
pub mod Lists
pub mod Orders
pub mod Parts
pub mod Permuted
pub mod Raster
pub mod Settled
pub mod Undone
