-- The laws about this crate's definitions: demand 3 is `any_order`.
pub mod AnyOrder
pub mod Available
pub mod Lending
pub mod OnePicture
pub mod Rebuilt
pub mod Regions
pub mod Rules
pub mod Squares
