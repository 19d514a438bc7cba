pub mod Slots
pub mod Talks
pub mod Desks
pub mod Apart
pub mod Keeping
