-- The law about the count of turns is `how_many`; the map after so many of them is in `After`.
pub mod After
pub mod HowMany
mod Due
mod Lateness
mod Latest
mod OneSlice
mod Rows
