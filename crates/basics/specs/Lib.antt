-- The definitions that the crate's contracts cite, by clause.
pub mod Clip
pub mod Marks
pub mod Modes
pub mod Near
pub mod Nnz
pub mod Qp
