-- What comes of replaying a list of addresses.
pub mod Replay
