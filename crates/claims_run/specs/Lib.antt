pub mod Answering
pub mod Certifying
pub mod Putting
pub mod Explain
