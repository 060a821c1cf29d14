pub mod LawLemmas
pub mod Blocks
pub mod Queued
pub mod TheoryLemmas
