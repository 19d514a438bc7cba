pub mod PartLemmas
pub mod NameLemmas
pub mod PutLemmas
pub mod EndLemmas
pub mod LevelOrder
pub mod LevelLemmas
pub mod BeginningLemmas
