pub mod Bytes
pub mod Reading
pub mod Reader
pub mod Laws
