-- What comes of a turn, and of one after the other.
pub mod OneTurn
pub mod TurnByTurn
