pub mod ToCome
pub mod Walks
pub mod Asked
pub mod Ahead
pub mod Ways
pub mod Tables
