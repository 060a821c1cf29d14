pub mod CallCounts
pub mod Filling
pub mod SourceChanges
pub mod Tuned
pub mod Windows
pub mod Fits
