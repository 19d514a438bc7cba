pub mod Bits
pub mod Meeting
pub mod Telling
pub mod Clearing
