-- A macroblock call in two halves, compute and commit, and what comes of several workers that make them.
pub mod Halves
pub mod InTwo
pub mod Lasting
pub mod Workers
