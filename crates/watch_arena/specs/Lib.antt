pub mod Chains
pub mod Stack
pub mod Places
pub mod Trails
pub mod Engines
pub mod Columns
pub mod Compactions
