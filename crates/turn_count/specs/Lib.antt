-- How many turns a picture takes, and when each macroblock is due.
pub mod Count
pub mod Due
pub mod HowMany
pub mod inner
