pub mod Asking
pub mod Answers
pub mod Queries
pub mod Closing
pub mod Remembered
