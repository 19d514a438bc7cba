pub mod Narrowing
pub mod Ruling
pub mod Deciding
