-- The worked figures of the rules that are proved.
pub mod CountFigures
pub mod Figures
pub mod OrderFigures
pub mod ReadFigures
pub mod TurnFigures
