pub mod Answering
pub mod Steps
pub mod Beginnings
pub mod Levels
