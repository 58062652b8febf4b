-- The definitions that the exports' contracts cite.
pub mod Exports
