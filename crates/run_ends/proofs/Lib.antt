pub mod ReadLemmas
pub mod EndLemmas
pub mod PieceLemmas
pub mod TextLemmas
pub mod OneName
pub mod TokenLemmas
pub mod HeldLemmas
pub mod WrittenLemmas
