pub mod Frames
pub mod Needs
pub mod Grouped
pub mod Joined
pub mod Kept
