-- Steps, lists of them, drivers that are offered steps by calls, and steps made of parts.
pub mod Driver
pub mod FullOrder
pub mod Lists
pub mod Order
pub mod Parts
