-- The definitions that the crate's contracts cite, by clause.
pub mod IntraNxN
pub mod LumaPromise
pub mod inner
