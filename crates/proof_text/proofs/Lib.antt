pub mod ItemLemmas
pub mod LineLemmas
pub mod ListLemmas
pub mod NumberLemmas
pub mod TextLemmas
pub mod WordLemmas
