pub mod Advances
pub mod Loads
pub mod Feeds
