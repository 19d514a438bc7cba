pub mod Subsets
pub mod Lattice
pub mod Explaining
pub mod Rounds
