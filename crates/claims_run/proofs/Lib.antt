pub mod ClaimedLemmas
pub mod CertifiedLemmas
pub mod EndLemmas
pub mod KeptLemmas
pub mod PutLemmas
