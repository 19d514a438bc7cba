pub mod Answers
pub mod Checkers
pub mod Claiming
pub mod Whole
pub mod Laws
