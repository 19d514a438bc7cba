pub mod Picking
pub mod Blocks
