pub mod Trace
pub mod Example
