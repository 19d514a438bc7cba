pub mod PositionLemmas
pub mod DigestLemmas
pub mod ReadingLemmas
