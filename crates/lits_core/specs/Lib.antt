pub mod Literals
pub mod Derivation
