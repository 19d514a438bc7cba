pub mod Trials
pub mod Steps
pub mod Searches
pub mod Draws
pub mod Names
pub mod Made
pub mod Plans
