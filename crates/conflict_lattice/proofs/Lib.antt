pub mod Parts
pub mod Shrinking
pub mod Growing
pub mod Seeding
pub mod Inserting
pub mod Finding
pub mod Explaining
pub mod Claiming
