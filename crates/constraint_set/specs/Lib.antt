pub mod Build
pub mod Facts
pub mod Readers
pub mod Shape
pub mod Numbers
pub mod Gather
pub mod Sets
