pub mod Checking
pub mod Steps
pub mod Join
