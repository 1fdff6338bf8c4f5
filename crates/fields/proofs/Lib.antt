pub mod Shifts
pub mod Codes
