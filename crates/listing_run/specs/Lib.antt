pub mod Output
pub mod Resuming
pub mod Steps
pub mod Logged
pub mod Plans
pub mod Putting
pub mod Part
pub mod Parts
