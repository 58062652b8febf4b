-- The definitions that the crate's contracts cite, by clause.
pub mod Intra16x16
pub mod IntraChroma
pub mod IntraPlane
pub mod PlaneMode
pub mod WholePromise
pub mod inner
