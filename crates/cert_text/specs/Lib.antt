pub mod Lines
pub mod Laws
pub mod Logs
pub mod StoreLogs
pub mod Ends
