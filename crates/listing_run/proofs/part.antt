pub mod AskedLemmas
pub mod EndLemmas
pub mod JoinLemmas
pub mod PutLemmas
