pub mod Showing
pub mod Kept
