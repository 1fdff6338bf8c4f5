pub mod Options
pub mod Files
