-- What a bad slice can touch: the answers, the samples, and both in one.
pub mod Answers
pub mod LostSlice
pub mod SlicesApart
