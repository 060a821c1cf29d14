pub mod AlikeRows
pub mod Bounds
pub mod CallCounts
pub mod RowConditions
pub mod SnapshotSums
pub mod Timelines
