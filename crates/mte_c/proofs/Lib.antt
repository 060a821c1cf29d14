mod ArrayLemmas
pub mod CommandLemmas
pub mod HeapLemmas
