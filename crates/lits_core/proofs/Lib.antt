pub mod LiteralLemmas
pub mod DerivationLemmas
pub mod DistinctIds
pub mod LiteralSets
