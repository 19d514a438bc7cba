pub mod LineLemmas
pub mod TokenLemmas
pub mod BlankLemmas
pub mod WordLemmas
