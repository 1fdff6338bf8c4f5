pub mod Parts
pub mod Replay
pub mod Recording
pub mod Example
