pub mod Possible
pub mod Steps
