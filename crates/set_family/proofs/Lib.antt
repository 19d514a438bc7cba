pub mod Merges
pub mod SetLists
pub mod Holding
