pub mod Ladders
pub mod Barren
pub mod Bounds
pub mod Stretches
pub mod Alone
