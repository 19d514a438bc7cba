pub mod Ends
pub mod Reads
pub mod Runs
pub mod Writes
pub mod Token
