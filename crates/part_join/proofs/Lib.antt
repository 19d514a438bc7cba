pub mod CoverLemmas
pub mod SweepLemmas
pub mod GapLemmas
pub mod ReadLemmas
pub mod LawLemmas
