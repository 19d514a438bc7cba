pub mod Lists
pub mod Rows
pub mod Saying
pub mod Gathering
pub mod Laying
pub mod Keeping
pub mod Sums
pub mod PointTests
