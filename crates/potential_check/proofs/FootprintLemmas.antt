pub mod LawLemmas
pub mod CallCounts
pub mod RowConditions
pub mod Snapshots
pub mod UpTo
pub mod AlikeRows
pub mod Bounds
pub mod TimelineLemmas
