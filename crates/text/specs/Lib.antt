pub mod Ascii
pub mod Numerals
pub mod Lines
pub mod Buffers
