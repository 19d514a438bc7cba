pub mod Solving
pub mod Answers
pub mod States
pub mod Weights
pub mod Noted
pub mod Guides
pub mod Learners
pub mod Hints
