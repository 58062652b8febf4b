-- What the figures follow from where they are not computed.
pub mod CountFigures
pub mod FlatFigures
pub mod OrderFigures
pub mod ReadFigures
pub mod TurnFigures
