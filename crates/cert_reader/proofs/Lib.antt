pub mod BlockLemmas
pub mod GoesOnLemmas
pub mod ReadingLemmas
pub mod GatherLemmas
pub mod FrontLemmas
pub mod PassLemmas
pub mod ReaderLemmas
pub mod WholeLemmas
