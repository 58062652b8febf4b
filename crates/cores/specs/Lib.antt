-- What compute and commit promise stands in `halves`.
pub mod inner
