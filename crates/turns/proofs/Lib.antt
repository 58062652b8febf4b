-- The laws about turns are `one_turn` and `turn_by_turn`.
pub mod OneTurn
pub mod TurnByTurn
