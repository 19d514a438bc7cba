pub mod PointTests
pub mod Begins
pub mod Building
