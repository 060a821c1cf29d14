pub mod TheoryExamples
pub mod TimelineExamples
pub mod VerdictExamples
