pub mod Answered
pub mod Joins
pub mod RootLemmas
pub mod Steps
