pub mod Choosing
pub mod Claiming
pub mod Walking
