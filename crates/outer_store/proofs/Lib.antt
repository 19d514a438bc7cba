pub mod MapLemmas
pub mod SentLemmas
pub mod BytesLemmas
