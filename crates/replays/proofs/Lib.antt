-- The law about replays is `replays`.
pub mod Replay
