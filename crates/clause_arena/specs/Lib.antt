pub mod Records
pub mod Layout
pub mod Movings
