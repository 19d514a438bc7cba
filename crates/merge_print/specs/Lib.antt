pub mod Json
pub mod Laws
pub mod Merged
pub mod Text
