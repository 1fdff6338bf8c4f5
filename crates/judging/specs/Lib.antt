pub mod Checks
pub mod Extents
