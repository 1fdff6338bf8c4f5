pub mod Tables
pub mod Loads
pub mod Stores
pub mod Ends
pub mod Numbers
