pub mod LawLemmas
pub mod SpanSums
pub mod SpansBuilt
