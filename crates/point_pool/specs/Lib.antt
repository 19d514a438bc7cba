pub mod Cursors
pub mod Pools
pub mod Drafted
