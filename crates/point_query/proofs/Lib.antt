pub mod Querying
pub mod Ranges
pub mod Answering
pub mod Deciding
pub mod Baring
pub mod Following
pub mod Choosing
pub mod Keeping
