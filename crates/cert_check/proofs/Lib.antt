pub mod AnswerLemmas
pub mod ReadLemmas
pub mod SourceLemmas
pub mod WholeLemmas
pub mod WrittenLemmas
pub mod WrittenClaims
pub mod KnownLemmas
pub mod BareLemmas
