pub mod Taught
pub mod Search
