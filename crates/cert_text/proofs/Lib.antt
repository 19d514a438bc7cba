pub mod EachLemmas
pub mod LineLemmas
pub mod OneTextLemmas
pub mod ReadLemmas
pub mod StoreLemmas
pub mod TextLemmas
pub mod WordLemmas
