pub mod Bits
pub mod Structure
pub mod Groups
pub mod Selectors
pub mod Witness
pub mod NeedLiterals
