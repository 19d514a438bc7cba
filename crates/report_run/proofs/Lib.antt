pub mod AskLemmas
pub mod PutLemmas
pub mod ShowLemmas
pub mod ReportLemmas
