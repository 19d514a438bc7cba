pub mod Check
pub mod Slots
pub mod Marks
