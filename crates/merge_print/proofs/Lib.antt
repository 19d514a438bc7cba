pub mod JsonLemmas
pub mod ListLemmas
pub mod MergeLemmas
pub mod NameLemmas
pub mod RangeLemmas
