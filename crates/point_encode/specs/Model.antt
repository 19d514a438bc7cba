pub mod Clauses
pub mod Forced
pub mod Laws
