pub mod PairLemmas
pub mod StepLemmas
