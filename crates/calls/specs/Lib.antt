-- What a macroblock call promises: the planes, the table of refusals, runs of calls, and demand 3.
pub mod AnyOrder
pub mod Planes
pub mod Rebuild
pub mod Run
