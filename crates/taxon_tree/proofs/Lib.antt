pub mod ListLemmas
pub mod AncestryLemmas
pub mod ForestLemmas
pub mod GrownLemmas
pub mod RowLemmas
pub mod RowExamples
