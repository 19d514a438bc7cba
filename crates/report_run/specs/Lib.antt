pub mod Reporting
pub mod Steps
