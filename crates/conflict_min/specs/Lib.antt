pub mod Conflicts
pub mod Shrinking
