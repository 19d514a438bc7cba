pub mod Guiding
pub mod Logging
pub mod Opens
pub mod Searching
pub mod Steps
pub mod Stopping
pub mod Walking
pub mod Told
