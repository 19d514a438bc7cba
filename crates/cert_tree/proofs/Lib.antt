pub mod LevelLemmas
pub mod TreeLemmas
pub mod NeedLemmas
pub mod WalkLemmas
pub mod PositionLemmas
pub mod FamilyLemmas
