pub mod WordsLemmas
pub mod NameLemmas
pub mod ValueLemmas
pub mod MadeLemmas
pub mod KindLemmas
pub mod PartsLemmas
pub mod RowLemmas
