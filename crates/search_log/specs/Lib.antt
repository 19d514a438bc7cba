pub mod Logging
pub mod Leading
