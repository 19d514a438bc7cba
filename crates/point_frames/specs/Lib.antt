pub mod Frames
pub mod Groups
pub mod Joined
