-- A macroblock is rebuilt alike wherever it stands.
pub mod Moved
