-- What only the contracts of private functions speak of.
pub mod ByColumn
pub mod Firsts
pub mod Laws
pub mod Told
