pub mod TalkLemmas
pub mod EndLemmas
pub mod AskLemmas
pub mod ServeLemmas
