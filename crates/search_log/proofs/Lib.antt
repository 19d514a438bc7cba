pub mod Logs
pub mod Leading
