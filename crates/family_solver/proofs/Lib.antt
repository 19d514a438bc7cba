pub mod Truths
pub mod Ruling
pub mod Asking
