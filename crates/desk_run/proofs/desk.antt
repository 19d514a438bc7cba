pub mod AloneLemmas
pub mod DeskLemmas
pub mod SlotLemmas
pub mod ApartLemmas
