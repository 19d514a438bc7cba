pub mod Parts
pub mod Joining
pub mod Reads
pub mod Sweeping
pub mod Laws
