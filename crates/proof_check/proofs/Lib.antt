pub mod HintLemmas
pub mod EntryLemmas
pub mod BookLemmas
pub mod SlotLemmas
pub mod PlaceLemmas
pub mod MarkLemmas
